-- A program stands for one posed program at most.
use Rattle.std.specs.Prelude.{ℕ, ◌+◌, ◌*◌, ◌≡◌, ℤ, pos, List, [], ◌∷◌, length, map}
use Rattle.std.proofs.Common.{refl, ap, sym, ◌∙◌, arith}
use Rattle.bz_tableau.specs.declared.programs.Lp.{Lp}
use Rattle.bz_std.specs.Posed.{IsProgramOf, Line, Posed, line_over_columns, over_columns}

abbrev pub first_or : {X : Type 0} → X → List X → X
first_or other [] = other
first_or other (x ∷ xs) = x

abbrev pub rest_of : {X : Type 0} → List X → List X
rest_of [] = []
rest_of (x ∷ xs) = xs

-- two terms of the one list stand for one of the other
pub terms_told : (es gs : List (ℕ × ℤ)) → over_columns es ≡ over_columns gs → es ≡ gs
terms_told [] [] h = refl
terms_told [] (g ∷ gs) h = absurd (omega (arith, ap length h))
terms_told (e ∷ es) [] h = absurd (omega (arith, ap length h))
terms_told (e ∷ es) (g ∷ gs) h =
    let first : 2 * e.0 ≡ 2 * g.0 = ap (λ (ts : List (ℕ × ℤ)). (first_or (0, pos 0) ts).0) h in
    let index : e.0 ≡ g.0 = omega (arith, first) in
    let number : e.1 ≡ g.1 = ap (λ (ts : List (ℕ × ℤ)). (first_or (0, pos 0) ts).1) h in
    let rest : es ≡ gs = terms_told es gs (ap (λ (ts : List (ℕ × ℤ)). rest_of (rest_of ts)) h) in
    λ i. (index i, number i) ∷ rest i

line_told : (a b : Line) → line_over_columns a ≡ line_over_columns b → a ≡ b
line_told a b h =
    let terms : a.terms ≡ b.terms = terms_told a.terms b.terms (ap (λ (l : Line). l.terms) h) in
    let rhs : a.rhs ≡ b.rhs = ap (λ (l : Line). l.rhs) h in
    λ i. record { terms = terms i; rhs = rhs i }

lines_told : (ps qs : List Line) → map line_over_columns ps ≡ map line_over_columns qs → ps ≡ qs
lines_told [] [] h = refl
lines_told [] (q ∷ qs) h = absurd (omega (arith, ap length h))
lines_told (p ∷ ps) [] h = absurd (omega (arith, ap length h))
lines_told (p ∷ ps) (q ∷ qs) h =
    let first : p ≡ q = line_told p q (ap (first_or (line_over_columns p)) h) in
    let rest : ps ≡ qs = lines_told ps qs (ap rest_of h) in
    λ i. first i ∷ rest i

pub one_posed : (p q : Posed) (lp : Lp) → IsProgramOf p lp → IsProgramOf q lp → p ≡ q
one_posed p q lp h k =
    let variables : p.variables ≡ q.variables = omega (arith, h.columns, k.columns) in
    let rows : p.rows ≡ q.rows = lines_told p.rows q.rows (sym h.rows ∙ k.rows) in
    let cost : p.cost ≡ q.cost = terms_told p.cost q.cost (sym h.cost ∙ k.cost) in
    λ i. record { variables = variables i; rows = rows i; cost = cost i }
