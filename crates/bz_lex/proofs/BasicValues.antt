-- The values of basic columns over a common denominator, column by column.
use Rattle.std.specs.Prelude.{ℕ, ◌+◌, ◌<◌, ◌≤◌, ◌≡◌, ℤ, pos, ◌*ℤ◌, ◌<ℤ◌, List, length, Option, None, Some, SomeIff, MatchOption}
use Rattle.std.proofs.Common.{ap, sym, subst, ◌∙◌, arith, inl, inr, set}
use Rattle.std.proofs.Math.IntN.{*ℤ_comm}
use Rattle.std.proofs.lemmas.Bool.{cases_eq}
use Rattle.std.proofs.lemmas.List.{get_or-set_same, get_or-set_other, length-set}
use Rattle.bz_algebra.specs.Numbers.{IsNarrow}
use Rattle.bz_tableau.specs.Dense.{entry}
use Rattle.bz_tableau.specs.Laws.{place}
use Rattle.bz_tableau.specs.Tables.{Table, shown}
use Rattle.bz_lex.specs.Shown.{IsOrderOf, own_entry, IsOver, IsWideOver, AreValuesTo, IsFirstWideOver}
use Rattle.bz_algebra.proofs.Ring.{cancel_right, positive-ne}
use Rattle.bz_lex.proofs.LeastMultiples.{wide_if}

pub over_outcome : (den entry number times : ℤ) (o : Option ℤ) → den ≡ entry *ℤ times → SomeIff o (IsNarrow (number *ℤ times)) (number *ℤ times) → MatchOption o (IsWideOver den entry number) (λ value. IsOver den entry number value)
over_outcome den entry number times None e h = record { times = times; times_is = *ℤ_comm times entry ∙ sym e; wide = wide_if (number *ℤ times) h }
over_outcome den entry number times (Some x) e h = record { times = times; times_is = *ℤ_comm times entry ∙ sym e; value_is = h.1; narrow = subst (λ (t : ℤ). IsNarrow t) (sym h.1) h.0 }

-- the column at a number of the order
pub column_at : Table → List ℕ → ℕ → ℕ
column_at t order k = place t.basis (place order k)

pub values_more : (n : ℕ) (t : Table) (order : List ℕ) (den : ℤ) (column : ℕ) (values : List ℤ) (x : ℤ) → IsOrderOf t order → AreValuesTo n t order den column values → n < length order → IsOver den (own_entry t order n) (shown t (place order n) column) x
    → AreValuesTo (n + 1) t order den column (set values (place t.basis (place order n)) x)
values_more n t order den column values x o h inside over = record {
  width = length-set values here x ∙ h.width;
  basic = λ k b. elim (cases_eq k n) [
    | inl g ↦ subst (λ (m : ℕ). IsOver den (own_entry t order m) (shown t (place order m) column) (entry (set values here x) (place t.basis (place order m)))) (sym g)
        (subst (λ (y : ℤ). IsOver den (own_entry t order n) (shown t (place order n) column) y) (sym (get_or-set_same values here x (pos 0) (omega (arith, h.width, o.before_slacks n inside)))) over)
    | inr g ↦ subst (λ (y : ℤ). IsOver den (own_entry t order k) (shown t (place order k) column) y) (sym (get_or-set_other values here (place t.basis (place order k)) x (pos 0) (λ e. g (o.different k n (omega arith) inside e)))) (h.basic k (omega arith))
  ];
  other = λ j f. get_or-set_other values here j x (pos 0) (λ e. f n (omega arith) (sym e)) ∙ h.other j (λ k b. f k (omega arith));
}
  where
    here : ℕ
    here = place t.basis (place order n)

pub values_all : (n : ℕ) (t : Table) (order : List ℕ) (den : ℤ) (column : ℕ) (values : List ℤ) → AreValuesTo n t order den column values → n ≤ length order → length order ≤ n → AreValuesTo (length order) t order den column values
values_all n t order den column values h l m = let e : n ≡ length order = omega arith in subst (λ (k : ℕ). AreValuesTo k t order den column values) e h

-- a value that isn't wide is the only one
pub not_both : (den entry number value : ℤ) → (pos 0) <ℤ entry → IsOver den entry number value → IsWideOver den entry number → ⊥
not_both den entry number value p h w = omega (arith, narrow, w.wide)
  where
    narrow : IsNarrow (number *ℤ w.times)
    narrow = subst (λ (y : ℤ). IsNarrow y) (h.value_is ∙ ap (λ (q : ℤ). number *ℤ q) (cancel_right h.times w.times entry (positive-ne entry p) (h.times_is ∙ sym w.times_is))) h.narrow

-- the entry of a place divides the denominator, and no place before has a wide value
pub first_wide_over : (n : ℕ) (t : Table) (order : List ℕ) (den : ℤ) (column : ℕ) (values : List ℤ) → IsOrderOf t order → AreValuesTo n t order den column values → n < length order → IsWideOver den (own_entry t order n) (shown t (place order n) column) → IsFirstWideOver (length order) t order den column n
first_wide_over n t order den column values o h inside wide = record {
  inside = inside;
  here = wide;
  first = λ l b w. not_both den (own_entry t order l) (shown t (place order l) column) _ (o.positive l (omega arith)) (h.basic l b) w;
}
