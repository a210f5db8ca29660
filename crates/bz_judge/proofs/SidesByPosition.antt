-- What the sides of a leaf have at a position of the master: the inequalities by the position's list, then the box, then
-- the cuts.
use Rattle.std.proofs.Common.{◌≡◌, refl, sym, ◌∙◌, ap, subst, ℕ, zero, suc, ◌+◌, ◌*◌, ◌<◌, ◌≤◌, List, [], ◌∷◌, length, get_or, arith, ℤ, pos, negsuc, inl, inr}
use Rattle.std.specs.List.{AllByRecursion}
use Rattle.std.specs.Int.RustNames.{unsigned_abs}
use Rattle.std.proofs.lemmas.Int.{ints}
use Rattle.std.proofs.lemmas.Bool.{cases_eq, cases_lt, eq-eqb, le-ltb, lt-ltb, ne_eqb}
use Rattle.bz_algebra.specs.Sums.{coef}
use Rattle.bz_num.specs.Fold.{Taken}
use Rattle.bz_num.specs.Row.{IsSparse, IsSparseFrom}
use Rattle.bz_num.specs.SparseSums.{AreAhead, IsAhead, IsFrom, sum_left}
use Rattle.bz_num.proofs.Coefs.{coef-first, coef-rest}
use Rattle.bz_num.proofs.SparseSums.{same_left}
use Rattle.bz_model.specs.declared.Ineq.{Ineq}
use Rattle.bz_model.specs.Entries.{IsEntriesAt}
use Rattle.bz_model.specs.Rows.{own_at}
use Rattle.bz_cut.proofs.Steps.{own_at-is}
use Rattle.bz_tree.specs.LeafSides.{sides_in}
use Rattle.bz_tree.specs.declared.leaf_sides.Sides.{Sides}
use Rattle.bz_tree.proofs.LeafSides.{lower_at, master_is, row_at, upper_at}
use Rattle.bz_judge.specs.SideNumbers.{master_number, numbers_from}

-- ---- numbers from one on
pub before_first : (first : ℕ) (f : ℕ → ℤ) (n : ℕ) → n < first → numbers_from first f n ≡ pos 0
before_first first f n l = rw (lt-ltb n first l) refl

pub from_first : (first : ℕ) (f : ℕ → ℤ) (n : ℕ) → first ≤ n → numbers_from first f n ≡ f n
from_first first f n l = rw (le-ltb n first l) refl

-- nothing at the first ones
pub more_nothing : (first : ℕ) (f : ℕ → ℤ) → f first ≡ pos 0 → f (first + 1) ≡ pos 0 → (n : ℕ) → numbers_from (first + 2) f n ≡ numbers_from first f n
more_nothing first f a b n = elim (cases_lt n first) [
  | inl l ↦ before_first (first + 2) f n (omega (arith, l)) ∙ sym (before_first first f n l)
  | inr l ↦ elim (cases_lt n (first + 2)) [
    | inr m ↦ from_first (first + 2) f n m ∙ sym (from_first first f n l)
    | inl m ↦ before_first (first + 2) f n m ∙ sym (from_first first f n l ∙ elim (cases_eq n first) [
      | inl e ↦ ap f e ∙ a
      | inr d ↦ ap f (let e : n ≡ first + 1 = omega (arith, l, m, d) in e) ∙ b
    ])
  ]
]

-- one number is ahead of those behind it
pub one_ahead : (first : ℕ) (z : ℤ) (f : ℕ → ℤ) → f first ≡ z → IsAhead (first, z) (numbers_from first f) (numbers_from (first + 1) f)
one_ahead first z f e = record {
  before = λ j l. before_first first f j l;
  here = from_first first f first (omega arith) ∙ e;
  behind = λ j l. from_first first f j (omega (arith, l)) ∙ sym (from_first (first + 1) f j (omega (arith, l)));
  nothing = λ j l. before_first (first + 1) f j (omega (arith, l));
}

-- those of the last list, from its first number on
pub from_last : (first : ℕ) (f : ℕ → ℤ) → IsFrom first (numbers_from first f) f
from_last first f = record { nothing = λ j l. before_first first f j l; behind = λ j l. from_first first f j l }

-- ---- the inequalities
none : Ineq
none = record { own = []; master = []; rhs = pos 0 }

row_number : (s : Sides) (position n : ℕ) → n < length s.rows.now → master_number s position n ≡ coef (own_at s.rows.now n) position
row_number s position n l =
    ap (λ (es : List (ℕ × ℤ)). coef es position)
    (sym (master_is (sides_in s) n)
    ∙ ap (λ (i : Ineq). i.master) (row_at s.rows.now s.positions.now (record { lower = s.lower.now; upper = s.upper.now }) s.cuts.now n n none (refl, l))
    ∙ own_at-is s.rows.now n none l)

own_beyond : (rows : List Ineq) (n : ℕ) → length rows ≤ n → own_at rows n ≡ []
own_beyond [] n l = refl
own_beyond (i ∷ is) zero l = absurd (omega (arith, l))
own_beyond (i ∷ is) (suc n) l = own_beyond is n (omega (arith, l))

-- a pair of a list of entries is at the number of an inequality
not_nothing : (z : ℤ) → 0 < unsigned_abs z → z ≡ pos 0 → ⊥
not_nothing z s e = let w : 0 < unsigned_abs (pos 0) = subst (λ (y : ℤ). 0 < unsigned_abs y) e s in absurd (omega (arith, w))

nothing_at : (count : ℕ) (low : ℕ) (es : List (ℕ × ℤ)) (g : ℕ → ℤ) → IsSparseFrom low es → ((n : ℕ) → low ≤ n → count ≤ n → coef es n ≡ pos 0) → ((j : ℕ) → j < count → g j ≡ pos 0)
    → AllByRecursion (λ e. (j : ℕ) → j ≤ e.0 → g j ≡ pos 0) es
nothing_at count low [] g h b k = tt
nothing_at count low (e ∷ es) g h b k =
    let within : e.0 < count = elim (cases_lt e.0 count) [
      | inl l ↦ l
      | inr l ↦ absurd (not_nothing e.1 h.0.some (sym (coef-first low e es h) ∙ b e.0 h.0.column l))
    ] in
    ((λ j l. k j (omega (arith, l, within))), nothing_at count (suc e.0) es g h.1 (λ n l m. sym (coef-rest n e es (λ same. omega (arith, l, same))) ∙ b n (omega (arith, l, h.0.column)) m) k)

pub rows_ahead : (s : Sides) (position : ℕ) (es : List (ℕ × ℤ)) → IsSparse es → IsEntriesAt (own_at s.rows.now) position es
    → AreAhead es (master_number s position) (numbers_from (length s.rows.now) (master_number s position))
rows_ahead s position es h k = record {
  sum = λ j. elim (cases_lt j (length s.rows.now)) [
    | inl l ↦
        let later : numbers_from (length s.rows.now) (master_number s position) j ≡ pos 0 = before_first _ (master_number s position) j l in
        rw (k j, later, row_number s position j l) (omega (arith, ints))
    | inr l ↦
        let later : numbers_from (length s.rows.now) (master_number s position) j ≡ master_number s position j = from_first _ (master_number s position) j l in
        let own : coef es j ≡ pos 0 = k j ∙ ap (λ (r : List (ℕ × ℤ)). coef r position) (own_beyond s.rows.now j l) in
        rw (own, later) (omega (arith, ints))
  ];
  nothing = nothing_at (length s.rows.now) 0 es (numbers_from (length s.rows.now) (master_number s position)) h
      (λ n a b. k n ∙ ap (λ (r : List (ℕ × ℤ)). coef r position) (own_beyond s.rows.now n b))
      (λ j l. before_first (length s.rows.now) (master_number s position) j l);
}

-- where there is no list, the inequalities have nothing
pub rows_nothing : (s : Sides) (position : ℕ) (t : Taken) (es : List (ℕ × ℤ)) → IsEntriesAt (own_at s.rows.now) position []
    → sum_left es (numbers_from (length s.rows.now) (master_number s position)) t ≡ sum_left es (master_number s position) t
rows_nothing s position t es k = same_left es _ _ t (λ j. elim (cases_lt j (length s.rows.now)) [
  | inl l ↦ before_first _ (master_number s position) j l ∙ sym (row_number s position j l ∙ sym (k j))
  | inr l ↦ from_first _ (master_number s position) j l
])

-- ---- the box
pub upper_number : (s : Sides) (position k : ℕ) → k < length s.positions.now → master_number s position (length s.rows.now + 2 * k) ≡ coef ((get_or s.positions.now k 0, pos 1) ∷ []) position
upper_number s position k l =
    ap (λ (es : List (ℕ × ℤ)). coef es position)
    (sym (master_is (sides_in s) (length s.rows.now + 2 * k))
    ∙ ap (λ (i : Ineq). i.master) (upper_at s.rows.now s.positions.now (record { lower = s.lower.now; upper = s.upper.now }) s.cuts.now (length s.rows.now + 2 * k) k (refl, l)))

pub lower_number : (s : Sides) (position k : ℕ) → k < length s.positions.now → master_number s position (length s.rows.now + 2 * k + 1) ≡ coef ((get_or s.positions.now k 0, negsuc 0) ∷ []) position
lower_number s position k l =
    ap (λ (es : List (ℕ × ℤ)). coef es position)
    (sym (master_is (sides_in s) (length s.rows.now + 2 * k + 1))
    ∙ ap (λ (i : Ineq). i.master) (lower_at s.rows.now s.positions.now (record { lower = s.lower.now; upper = s.upper.now }) s.cuts.now (length s.rows.now + 2 * k + 1) k (refl, l)))

single_here : (p position : ℕ) (z : ℤ) → p ≡ position → coef ((p, z) ∷ []) position ≡ z
single_here p position z e = rw (eq-eqb p position e) (omega (arith, ints))

single_other : (p position : ℕ) (z : ℤ) → (p ≡ position → ⊥) → coef ((p, z) ∷ []) position ≡ pos 0
single_other p position z d = rw (ne_eqb p position d) (omega (arith, ints))

pub upper_here : (s : Sides) (position k : ℕ) → k < length s.positions.now → get_or s.positions.now k 0 ≡ position → master_number s position (length s.rows.now + 2 * k) ≡ pos 1
upper_here s position k l e = upper_number s position k l ∙ single_here _ position (pos 1) e

pub lower_here : (s : Sides) (position k : ℕ) → k < length s.positions.now → get_or s.positions.now k 0 ≡ position → master_number s position (length s.rows.now + 2 * k + 1) ≡ negsuc 0
lower_here s position k l e = lower_number s position k l ∙ single_here _ position (negsuc 0) e

-- what is left after the box's sides at another position
pub box_other : (s : Sides) (position k : ℕ) (es : List (ℕ × ℤ)) (t : Taken) → k < length s.positions.now → (get_or s.positions.now k 0 ≡ position → ⊥)
    → sum_left es (numbers_from (length s.rows.now + 2 * (k + 1)) (master_number s position)) t ≡ sum_left es (numbers_from (length s.rows.now + 2 * k) (master_number s position)) t
box_other s position k es t l d =
    let two : length s.rows.now + 2 * (k + 1) ≡ (length s.rows.now + 2 * k) + 2 = omega arith in
    ap (λ (n : ℕ). sum_left es (numbers_from n (master_number s position)) t) two
    ∙ same_left es _ _ t (more_nothing (length s.rows.now + 2 * k) (master_number s position) (upper_number s position k l ∙ single_other _ position (pos 1) d) (lower_number s position k l ∙ single_other _ position (negsuc 0) d))
