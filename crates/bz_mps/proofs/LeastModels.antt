-- The rows and the objective of a text's model are multiplied by the least powers of ten that make them whole.
use Rattle.std.proofs.Common.{ℕ, ◌-◌, ◌<◌, ◌^◌, ◌≡◌, refl, Bool, true, false, not, List, [], ◌∷◌, filter, length, None, cond}
use Rattle.std.specs.List.{AllByRecursion, AllZip, enumerate_from}
use Rattle.bz_model.specs.declared.Model.{Model}
use Rattle.bz_model.specs.declared.Row.{Row}
use Rattle.bz_facts.specs.declared.Facts.{Facts}
use Rattle.bz_facts.specs.declared.RowType.{RowType}
use Rattle.bz_facts.specs.declared.RowType.TheVariants.{AtLeast}
use Rattle.bz_facts.specs.FactTexts.{IsFactsOf}
use Rattle.bz_facts.specs.LineTests.{is_free}
use Rattle.bz_facts.specs.SoundFacts.{AreSound}
use Rattle.bz_facts.proofs.FactsOfTexts.{facts_sound}
use Rattle.bz_mps.specs.FactModel.{IsModelOf, IsRowOf}
use Rattle.bz_mps.specs.LeastScale.{IsLeastObjective, IsLeastRow}
use Rattle.bz_mps.specs.ScaledRows.{constraints, decimals_of, entries_at, given_at, most_digits, objective_digits, objective_entries, objective_place, objective_side, right_side_at}
use Rattle.bz_mps.proofs.RowLemmas.{objective_read, row_read}
use Rattle.bz_mps.proofs.ScaleLaws.{least_scale}

bound_kinds : (rs : List (ℕ × RowType)) → AllByRecursion (λ r. is_free r.1 ≡ false) (filter (λ r. not (is_free r.1)) rs)
bound_kinds [] = tt
bound_kinds (r ∷ rs) = by (is_free r.1) refl (bound_kinds rs)
  where
    by : (b : Bool) → is_free r.1 ≡ b → AllByRecursion (λ r. is_free r.1 ≡ false) (filter (λ r. not (is_free r.1)) rs)
        → AllByRecursion (λ r. is_free r.1 ≡ false) (cond (not b) (r ∷ filter (λ r. not (is_free r.1)) rs) (filter (λ r. not (is_free r.1)) rs))
    by true e rest = rest
    by false e rest = (e, rest)

least_row : (f : Facts) (r : ℕ × RowType) (row : Row) → AreSound f → is_free r.1 ≡ false → IsRowOf f r row → IsLeastRow f r row
least_row f r row s e h = record {
  digits = most_digits (decimals_of (entries_at r.0 f.entries) (right_side_at f r.0) (given_at r.0 f.ranges));
  least = least_scale r.1 (entries_at r.0 f.entries) (right_side_at f r.0) (given_at r.0 f.ranges) e (row_read f r.0 s);
  terms = h.terms;
  lower = h.lower;
  upper = h.upper;
}

least_rows : (f : Facts) (rs : List (ℕ × RowType)) (rows : List Row) → AreSound f → AllByRecursion (λ r. is_free r.1 ≡ false) rs → AllZip (IsRowOf f) rs rows → AllZip (IsLeastRow f) rs rows
least_rows f [] [] s k h = tt
least_rows f [] (row ∷ rows) s k h = absurd h
least_rows f (r ∷ rs) [] s k h = absurd h
least_rows f (r ∷ rs) (row ∷ rows) s k h = (least_row f r row s k.0 h.0, least_rows f rs rows s k.1 h.1)

pub model-least_rows : (text : List ℕ) (f : Facts) (m : Model) → length text < 2 ^ 63 - 1 → IsFactsOf text f → IsModelOf f m → AllZip (IsLeastRow f) (constraints f.row_types) m.rows
model-least_rows text f m l h k =
    least_rows f (constraints f.row_types) m.rows (facts_sound text f l h) (bound_kinds (enumerate_from 0 f.row_types)) k.rows

pub model-least_objective : (text : List ℕ) (f : Facts) (m : Model) → length text < 2 ^ 63 - 1 → IsFactsOf text f → IsModelOf f m → IsLeastObjective f m
model-least_objective text f m l h k = record {
  digits = objective_digits f;
  least = least_scale AtLeast (objective_entries f) (objective_side f) None refl (objective_read f (objective_place f.row_types) (facts_sound text f l h));
  cost = k.cost;
  constant = k.constant;
  scale = k.scale;
}
