-- The worked model of the tests is strict.
use Rattle.std.specs.Prelude.{ℕ, zero, suc, ◌<◌, ◌≤◌, ◌≡◌, pos, Contains, List, [], ◌∷◌, length}
use Rattle.std.specs.List.{AllByRecursion, enumerate_from}
use Rattle.std.proofs.Common.{refl, arith, inl, inr}
use Rattle.std.proofs.lemmas.Bool.{OnTrue_from, both_ways}
use Rattle.bz_algebra.specs.Sums.{AllBelow}
use Rattle.bz_model.specs.declared.records.Column.{Column}
use Rattle.bz_model.specs.declared.records.Model.{Model}
use Rattle.bz_model.specs.declared.records.Row.{Row}
use Rattle.bz_model.specs.Parting.{part_of}
use Rattle.bz_model.specs.Strict.{HasItsColumns, IsInOneBlock, IsPartition, IsStrict, IsStrictColumn}
use Rattle.bz_model.specs.Worked.{AreWorkedColumns, AreWorkedRows}
use Rattle.bz_model.proofs.Inequalities.{size_within}

-- x in the master and y in block 1
abbrev pub worked_part : List ℕ
worked_part = 0 ∷ 1 ∷ []

pub two_columns : (cs : List Column) → AreWorkedColumns cs → length cs ≡ 2
two_columns [] h = absurd h
two_columns (x ∷ []) h = absurd h
two_columns (x ∷ y ∷ []) h = refl
two_columns (x ∷ y ∷ z ∷ rest) h = absurd h

pub one_row : (rows : List Row) → AreWorkedRows rows → length rows ≡ 1
one_row [] h = absurd h
one_row (row ∷ []) h = refl
one_row (row ∷ next ∷ rest) h = absurd h

rows_below : (n : ℕ) (rows : List Row) → n ≡ 2 → AreWorkedRows rows → AllByRecursion (λ row. AllBelow n row.terms) rows
rows_below n [] e h = absurd h
rows_below n (row ∷ []) e h = (rw h (omega arith, (omega arith, tt)), tt)
rows_below n (row ∷ next ∷ rest) e h = absurd h

rows_strict : (rows : List Row) → AreWorkedRows rows → AllByRecursion (λ row. IsInOneBlock worked_part row.terms) rows
rows_strict [] h = absurd h
rows_strict (row ∷ []) h = (rw h (inl refl, (inr refl, tt)), tt)
rows_strict (row ∷ next ∷ rest) h = absurd h

columns_strict : (cs : List Column) → AreWorkedColumns cs → AllByRecursion (λ e. IsStrictColumn (part_of worked_part e.0) e.1) (enumerate_from 0 cs)
columns_strict [] h = absurd h
columns_strict (x ∷ []) h = absurd h
columns_strict (x ∷ y ∷ []) h = (
  record { integer = OnTrue_from x.integer _ (λ t. refl); bounded = λ z. (h.1, h.2) },
  (record { integer = OnTrue_from y.integer _ (λ t. absurd (both_ways y.integer h.3 t)); bounded = λ z. absurd (omega arith) }, tt),
)
columns_strict (x ∷ y ∷ z ∷ rest) h = absurd h

pub worked_indexes : (m : Model) → AreWorkedColumns m.columns → AreWorkedRows m.rows → m.cost ≡ (0, pos 1) ∷ (1, pos 2) ∷ [] → HasItsColumns m
worked_indexes m c r k = let n = two_columns m.columns c in record {
  rows = rows_below (length m.columns) m.rows n r;
  cost = rw k (omega (arith, n), (omega (arith, n), tt));
}

used : (b : ℕ) → 0 < b → b ≤ 1 → Contains worked_part b
used zero l h = absurd (omega arith)
used (suc zero) l h = (1, omega arith, refl)
used (suc (suc b)) l h = absurd (omega arith)

pub worked_partition : (m : Model) → AreWorkedColumns m.columns → IsPartition m worked_part
worked_partition m c = let n = two_columns m.columns c in record { numbers = omega (arith, n); used = used; few = omega arith }

pub worked_strict : (m : Model) → AreWorkedColumns m.columns → AreWorkedRows m.rows → IsStrict m worked_part
worked_strict m c r = let n = two_columns m.columns c in let k = one_row m.rows r in record {
  rows = rows_strict m.rows r;
  columns = columns_strict m.columns c;
  small = λ b l. omega (arith, n, k, size_within m worked_part b);
}
