-- Rows that are picked from sparse rows are sparse, and what a loop over a row's terms has picked.
use Rattle.std.specs.Prelude.{ℕ, zero, suc, ◌+◌, ◌<◌, ◌≤◌, ◌≡◌, Bool, true, false, eqb, cond, ℤ, pos, neg_ℤ, ◌<ℤ◌, List, [], ◌∷◌, ◌++◌, length, take, drop, count_by, get_or}
use Rattle.std.specs.Int.RustNames.{unsigned_abs}
use Rattle.std.proofs.Common.{ap, refl, sym, ◌∙◌, arith, inl, inr, add-one, append_assoc, append-nil}
use Rattle.std.proofs.Math.Seq.{drop-cons}
use Rattle.std.proofs.Math.ListN.{drop_of_length-le}
use Rattle.std.proofs.lemmas.Int.{ints}
use Rattle.std.proofs.lemmas.Bool.{cases_eq, eq-eqb, lt-ltb, le-ltb}
use Rattle.std.proofs.lemmas.List.Sums.{count_by_more_yes, sum_by-cons}
use Rattle.bz_algebra.specs.Numbers.{IsNarrow}
use Rattle.bz_algebra.specs.Sums.{AllBelow}
pub use Rattle.bz_num.proofs.Rows.{below_at}
use Rattle.bz_num.specs.Row.{IsSparse, IsSparseFrom}
use Rattle.bz_model.specs.Parting.{part_of, position_of, terms_in, home_of, negated, turned}
use Rattle.bz_model.proofs.PartSums.{negated_within, terms_in-here, terms_in-there}

-- ---- counts grow
count_grows : (p : ℕ → Bool) (xs : List ℕ) (i j : ℕ) → i ≤ j → count_by p (take i xs) ≤ count_by p (take j xs)
count_grows p [] zero zero h = omega arith
count_grows p [] zero (suc j) h = omega arith
count_grows p [] (suc i) zero h = omega arith
count_grows p [] (suc i) (suc j) h = omega arith
count_grows p (x ∷ xs) zero zero h = omega arith
count_grows p (x ∷ xs) zero (suc j) h = rw (sum_by-cons (λ c. cond (p c) 1 0) x (take j xs)) (omega arith)
count_grows p (x ∷ xs) (suc i) zero h = absurd (omega arith)
count_grows p (x ∷ xs) (suc i) (suc j) h = rw (sum_by-cons (λ c. cond (p c) 1 0) x (take i xs), sum_by-cons (λ c. cond (p c) 1 0) x (take j xs)) (omega (arith, count_grows p xs i j (omega arith)))

-- ---- sparse rows
sparse_lower : (low high : ℕ) (es : List (ℕ × ℤ)) → low ≤ high → IsSparseFrom high es → IsSparseFrom low es
sparse_lower low high [] l h = tt
sparse_lower low high (e ∷ es) l h = (record { column = omega (arith, h.0.column); some = h.0.some; narrow = h.0.narrow }, h.1)

before : List ℕ → ℕ → ℕ → ℕ
before part b j = count_by (λ c. eqb c b) (take j part)

before_here : (part : List ℕ) (b j : ℕ) → part_of part j ≡ b → position_of part j ≡ before part b j
unfolding before
before_here part b j t = rw t

before_grows : (part : List ℕ) (b i j : ℕ) → i ≤ j → before part b i ≤ before part b j
unfolding before
before_grows part b i j l = count_grows (λ c. eqb c b) part i j l

before_next : (part : List ℕ) (b j : ℕ) → j < length part → part_of part j ≡ b → before part b (suc j) ≡ suc (before part b j)
unfolding before
before_next part b j l t = ap (λ (k : ℕ). count_by (λ c. eqb c b) (take k part)) (sym (add-one j)) ∙ count_by_more_yes (λ c. eqb c b) part j 0 l (eq-eqb (part_of part j) b t) ∙ add-one _

sparse_from_terms_in : (part : List ℕ) (b low : ℕ) (es : List (ℕ × ℤ)) → AllBelow (length part) es → IsSparseFrom low es → IsSparseFrom (before part b low) (terms_in part b es)
sparse_from_terms_in part b low [] k h = tt
sparse_from_terms_in part b low (e ∷ es) k h =
    let more = sparse_from_terms_in part b (suc e.0) es k.1 h.1 in
    elim (cases_eq (part_of part e.0) b) [
      | inl t ↦
          let up : before part b low ≤ before part b e.0 = before_grows part b low e.0 h.0.column in
          rw (terms_in-here part b e es t, before_here part b e.0 t)
          (record { column = up; some = h.0.some; narrow = h.0.narrow }, sparse_lower (suc (before part b e.0)) (before part b (suc e.0)) (terms_in part b es) (omega (arith, before_next part b e.0 k.0 t)) more)
      | inr t ↦
          let up : before part b low ≤ before part b (suc e.0) = before_grows part b low (suc e.0) (omega (arith, h.0.column)) in
          rw (terms_in-there part b e es t) (sparse_lower (before part b low) (before part b (suc e.0)) (terms_in part b es) up more)
    ]

-- the terms of a part are sparse
pub sparse_terms_in : (part : List ℕ) (b : ℕ) (es : List (ℕ × ℤ)) → AllBelow (length part) es → IsSparse es → IsSparse (terms_in part b es)
sparse_terms_in part b es k h = sparse_lower 0 (before part b 0) (terms_in part b es) (omega arith) (sparse_from_terms_in part b 0 es k h)

pub size_neg : (z : ℤ) → unsigned_abs (neg_ℤ z) ≡ unsigned_abs z
size_neg z = omega (arith, ints)

sparse_from_negated : (low : ℕ) (es : List (ℕ × ℤ)) → IsSparseFrom low es → IsSparseFrom low (negated es)
sparse_from_negated low [] h = tt
sparse_from_negated low (e ∷ es) h = (record { column = h.0.column; some = rw (size_neg e.1) h.0.some; narrow = rw (size_neg e.1) h.0.narrow }, sparse_from_negated (suc e.0) es h.1)

pub sparse_negated : (es : List (ℕ × ℤ)) → IsSparse es → IsSparse (negated es)
sparse_negated es h = sparse_from_negated 0 es h

-- what is picked of a sparse row is sparse
pub sparse_picked : (part : List ℕ) (b : ℕ) (n : Bool) (es : List (ℕ × ℤ)) → AllBelow (length part) es → IsSparse es →
    IsSparse (terms_in part b (turned n es))
sparse_picked part b true es k h = sparse_terms_in part b (negated es) (negated_within (length part) es k) (sparse_negated es h)
sparse_picked part b false es k h = sparse_terms_in part b es k h

-- one term
pub sparse_single : (j : ℕ) (d : ℤ) → (pos 0) <ℤ d → IsNarrow d → IsSparse ((j, d) ∷ [])
sparse_single j d h n = (record { column = omega arith; some = omega (arith, ints); narrow = n }, tt)

-- ---- steps of loops over the terms
pub left_at : {X : Type 0} (es : List X) (i : ℕ) (d : X) → i < length es → drop i es ≡ get_or es i d ∷ drop (i + 1) es
left_at es i d l = rw add-one (drop-cons es i d l)

pub none_left : {X : Type 0} (es : List X) (i : ℕ) → length es ≤ i → drop i es ≡ []
none_left es i l = drop_of_length-le es l

-- what is picked at a place, and what is left after it
turned_cons : (n : Bool) (e : ℕ × ℤ) (es : List (ℕ × ℤ)) → turned n (e ∷ es) ≡ (e.0, cond n (neg_ℤ e.1) e.1) ∷ turned n es
turned_cons true e es = refl
turned_cons false e es = refl

-- the terms that are still to be picked
abbrev pub picked : List ℕ → ℕ → Bool → List (ℕ × ℤ) → List (ℕ × ℤ)
picked part b n es = terms_in part b (turned n es)

pub picked_none : (part : List ℕ) (b : ℕ) (n : Bool) → picked part b n [] ≡ []
picked_none part b true = refl
picked_none part b false = refl

pub pick_here : (part : List ℕ) (b : ℕ) (n : Bool) (es : List (ℕ × ℤ)) (i : ℕ) (d : ℕ × ℤ) → i < length es →
    part_of part (get_or es i d).0 ≡ b →
    picked part b n (drop i es) ≡ (position_of part (get_or es i d).0, cond n (neg_ℤ (get_or es i d).1) (get_or es i d).1) ∷ picked part b n (drop (i + 1) es)
pick_here part b n es i d l t =
    ap (picked part b n) (left_at es i d l) ∙ ap (terms_in part b) (turned_cons n (get_or es i d) (drop (i + 1) es))
    ∙ terms_in-here part b ((get_or es i d).0, cond n (neg_ℤ (get_or es i d).1) (get_or es i d).1) (turned n (drop (i + 1) es)) t

pub pick_there : (part : List ℕ) (b : ℕ) (n : Bool) (es : List (ℕ × ℤ)) (i : ℕ) (d : ℕ × ℤ) → i < length es →
    (part_of part (get_or es i d).0 ≡ b → ⊥) → picked part b n (drop i es) ≡ picked part b n (drop (i + 1) es)
pick_there part b n es i d l t =
    ap (picked part b n) (left_at es i d l) ∙ ap (terms_in part b) (turned_cons n (get_or es i d) (drop (i + 1) es))
    ∙ terms_in-there part b ((get_or es i d).0, cond n (neg_ℤ (get_or es i d).1) (get_or es i d).1) (turned n (drop (i + 1) es)) t

home_first : (part : List ℕ) (e : ℕ × ℤ) (es : List (ℕ × ℤ)) → 0 < part_of part e.0 → home_of part (e ∷ es) ≡ part_of part e.0
home_first part e es t = rw (lt-ltb 0 (part_of part e.0) t)

home_later : (part : List ℕ) (e : ℕ × ℤ) (es : List (ℕ × ℤ)) → part_of part e.0 ≤ 0 → home_of part (e ∷ es) ≡ home_of part es
home_later part e es t = rw (le-ltb 0 (part_of part e.0) t)

pub home_here : (part : List ℕ) (es : List (ℕ × ℤ)) (i : ℕ) (d : ℕ × ℤ) → i < length es → 0 < part_of part (get_or es i d).0 → home_of part (drop i es) ≡ part_of part (get_or es i d).0
home_here part es i d l t = ap (home_of part) (left_at es i d l) ∙ home_first part (get_or es i d) (drop (i + 1) es) t

pub home_there : (part : List ℕ) (es : List (ℕ × ℤ)) (i : ℕ) (d : ℕ × ℤ) → i < length es → part_of part (get_or es i d).0 ≤ 0 → home_of part (drop i es) ≡ home_of part (drop (i + 1) es)
home_there part es i d l t = ap (home_of part) (left_at es i d l) ∙ home_later part (get_or es i d) (drop (i + 1) es) t

-- ---- what a loop that pushes to a list has made
-- at its end: nothing is left
pub made_all : {X Y : Type 0} (F : List X → List Y) (out : List Y) (es : List X) (i : ℕ) → F [] ≡ [] → out ++ F (drop i es) ≡ F es → length es ≤ i → out ≡ F es
made_all F out es i z h l = sym (append-nil out) ∙ ap (λ (ys : List _). out ++ ys) (sym (ap F (none_left es i l) ∙ z)) ∙ h

-- one more
pub made_more : {Y : Type 0} (out : List Y) (y : Y) (rest rests all : List Y) → rest ≡ y ∷ rests → out ++ rest ≡ all → (out ++ y ∷ []) ++ rests ≡ all
made_more out y rest rests all e h = append_assoc out (y ∷ []) rests ∙ ap (λ (ys : List _). out ++ ys) (sym e) ∙ h
