-- The columns of a table after a pivot, and pivots towards a goal: a row whose column isn't in the goal has an entry in a column of the goal.
use Rattle.std.proofs.Common.{◌≡◌, ◌≢◌, ap, sym, subst, ◌∙◌, inl, inr, ℕ, ◌+◌, ◌<◌, arith, pos, Bool, List, length, set}
use Rattle.std.specs.List.{range_with_len}
use Rattle.std.proofs.lemmas.Bool.{cases_eq}
use Rattle.std.proofs.lemmas.List.{get_or-set_same, get_or-set_other, length-set}
use Rattle.std.proofs.lemmas.List.FromFn.{get_or-range_with_len}
use Rattle.bz_algebra.specs.Tableaus.{rows_of, put, IsBasis}
use Rattle.bz_algebra.proofs.Exchange.{Entering, exchange, put_within}
use Rattle.bz_algebra.proofs.Pivoting.{put_at, put_off}
use Rattle.bz_tableau.specs.declared.programs.Lp.{Lp}
use Rattle.bz_tableau.specs.Laws.{place, HasRowsOfBasis}
use Rattle.bz_tableau.specs.Pivots.{IsPivoted}
use Rattle.bz_tableau.specs.Programs.{program_of, lp_equations}
use Rattle.bz_tableau.specs.Tables.{Table, IsTableauOf, shown}
use Rattle.bz_tableau.proofs.RowsOfBasis.{rows_of_basis}

-- the columns of the first table
pub place_first : (slack n i : ℕ) → i < n → place (range_with_len slack n) i ≡ slack + i
place_first slack n i b = get_or-range_with_len slack n i 0 b

pub slack_places : (relaxed : Bool) (lp : Lp) (t : Table) → IsTableauOf relaxed lp t → t.basis ≡ range_with_len (lp_equations relaxed lp).slack (length lp.rows) → (i : ℕ) → i < length t.basis → place t.basis i ≡ t.slack + i
slack_places relaxed lp t h e i b = let rows = rows_of_basis relaxed lp t h in
    ap (λ (basis : List ℕ). place basis i) e ∙ place_first (lp_equations relaxed lp).slack (length lp.rows) i (omega (arith, rows.count)) ∙ ap (λ (n : ℕ). n + i) (sym rows.slack)

-- ---- after a pivot
pub place_put : (basis : List ℕ) (r e i : ℕ) → r < length basis → place (set basis r e) i ≡ put (place basis) r e i
place_put basis r e i l = elim (cases_eq i r) [
  | inl t ↦ subst (λ (k : ℕ). place (set basis r e) k ≡ put (place basis) r e k) (sym t) (get_or-set_same basis r e 0 l ∙ sym (put_at (place basis) r e))
  | inr n ↦ get_or-set_other basis r i e 0 n ∙ sym (put_off (place basis) r e i n)
]

pub pivoted_count : (t : Table) (r e : ℕ) (new : Table) → IsPivoted t r e new → length new.basis ≡ length t.basis
pivoted_count t r e new p = ap length p.basis ∙ length-set t.basis r e

pub pivoted_place : (t : Table) (r e : ℕ) (new : Table) → IsPivoted t r e new → r < length t.basis → (i : ℕ) → place new.basis i ≡ put (place t.basis) r e i
pivoted_place t r e new p b i = ap (λ (basis : List ℕ). place basis i) p.basis ∙ place_put t.basis r e i b

-- a column that left is at no place
pub pivoted_away : (relaxed : Bool) (lp : Lp) (t : Table) → IsTableauOf relaxed lp t → (r e : ℕ) (new : Table) → IsPivoted t r e new → r < length t.basis → e ≢ place t.basis r → (i : ℕ) → i < length new.basis → place new.basis i ≢ place t.basis r
pivoted_away relaxed lp t h r e new p b n i c g = elim (cases_eq i r) [
  | inl f ↦ n (sym (put_at (place t.basis) r e) ∙ ap (put (place t.basis) r e) (sym f) ∙ sym (pivoted_place t r e new p b i) ∙ g)
  | inr m ↦ m (rows.basis.columns.different i r (omega (arith, rows.count, pivoted_count t r e new p)) (omega (arith, rows.count)) (sym (put_off (place t.basis) r e i m) ∙ sym (pivoted_place t r e new p b i) ∙ g))
]
  where
    rows : HasRowsOfBasis relaxed lp t
    rows = rows_of_basis relaxed lp t h

-- ---- towards a goal
-- a row whose column isn't in the goal has an entry in a column of the goal that is at no place
pub table_exchange : (relaxed : Bool) (lp : Lp) (t : Table) → IsTableauOf relaxed lp t → (goal : ℕ → ℕ) → IsBasis (rows_of relaxed (program_of lp)) goal → (i : ℕ) → i < length t.basis → ((k : ℕ) → k < length t.basis → goal k ≢ place t.basis i)
    → (k : ℕ) × (k < length t.basis) × (shown t i (goal k) ≢ pos 0) × ((l : ℕ) → l < length t.basis → place t.basis l ≢ goal k)
table_exchange relaxed lp t h goal g i b away = (found.place, omega (arith, found.in_range, rows.count), found.entry_nonzero, λ l c. found.fresh l (omega (arith, rows.count)))
  where
    rows : HasRowsOfBasis relaxed lp t
    rows = rows_of_basis relaxed lp t h

    found : Entering (rows_of relaxed (program_of lp)) (place t.basis) goal (shown t i)
    found = exchange (rows_of relaxed (program_of lp)) (place t.basis) (shown t) goal i (record { columns = rows.basis.columns; rows = rows.rows }) g (omega (arith, rows.count)) (λ k c. away k (omega (arith, rows.count)))

-- after the pivot one more place has a column of the goal
pub pivoted_within : (t : Table) (r : ℕ) (new : Table) (goal : ℕ → ℕ) (n k : ℕ) → IsPivoted t r (goal k) new → r < length t.basis → k < n → ((i : ℕ) → i < r → (l : ℕ) × (l < n) × (goal l ≡ place t.basis i))
    → (i : ℕ) → i < r + 1 → (l : ℕ) × (l < n) × (goal l ≡ place new.basis i)
pivoted_within t r new goal n k p b c h i d = let f = put_within (place t.basis) goal n r k c h i d in (f.0, f.1, f.2 ∙ sym (pivoted_place t r (goal k) new p b i))
