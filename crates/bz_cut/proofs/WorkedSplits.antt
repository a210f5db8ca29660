-- The worked models of the tests are strict.
use Rattle.std.specs.Prelude.{ℕ, ℤ, zero, suc, ◌<◌, ◌≤◌, ◌≡◌, Contains, List, [], ◌∷◌, length}
use Rattle.std.specs.List.{AllByRecursion, enumerate_from}
use Rattle.std.proofs.Common.{refl, arith, inl, inr}
use Rattle.std.proofs.lemmas.Bool.{OnTrue_from, both_ways}
use Rattle.bz_algebra.specs.Sums.{AllBelow}
use Rattle.bz_model.specs.declared.Column.{Column}
use Rattle.bz_model.specs.declared.Model.{Model}
use Rattle.bz_model.specs.declared.Row.{Row}
use Rattle.bz_model.specs.Parting.{part_of}
use Rattle.bz_model.specs.Strict.{HasItsColumns, IsInOneBlock, IsPartition, IsStrict, IsStrictColumn}
use Rattle.bz_model.specs.Worked.{AreWorkedColumns}
use Rattle.bz_model.proofs.Inequalities.{size_within}
use Rattle.bz_model.proofs.WorkedModel.{two_columns}
use Rattle.bz_cut.specs.Worked.{AreLinked}

-- x in the master and y in block 1
abbrev pub linked_part : List ℕ
linked_part = 0 ∷ 1 ∷ []

pub one_row : (a : ℤ) (rows : List Row) → AreLinked a rows → length rows ≡ 1
one_row a [] h = absurd h
one_row a (row ∷ []) h = refl
one_row a (row ∷ next ∷ rest) h = absurd h

rows_below : (a : ℤ) (n : ℕ) (rows : List Row) → n ≡ 2 → AreLinked a rows → AllByRecursion (λ row. AllBelow n row.terms) rows
rows_below a n [] e h = absurd h
rows_below a n (row ∷ []) e h = (rw h (omega arith, (omega arith, tt)), tt)
rows_below a n (row ∷ next ∷ rest) e h = absurd h

rows_strict : (a : ℤ) (rows : List Row) → AreLinked a rows → AllByRecursion (λ row. IsInOneBlock linked_part row.terms) rows
rows_strict a [] h = absurd h
rows_strict a (row ∷ []) h = (rw h (inl refl, (inr refl, tt)), tt)
rows_strict a (row ∷ next ∷ rest) h = absurd h

columns_strict : (cs : List Column) → AreWorkedColumns cs → AllByRecursion (λ e. IsStrictColumn (part_of linked_part e.0) e.1) (enumerate_from 0 cs)
columns_strict [] h = absurd h
columns_strict (x ∷ []) h = absurd h
columns_strict (x ∷ y ∷ []) h = (
  record { integer = OnTrue_from x.integer _ (λ t. refl); bounded = λ z. (h.1, h.2) },
  (record { integer = OnTrue_from y.integer _ (λ t. absurd (both_ways y.integer h.3 t)); bounded = λ z. absurd (omega arith) }, tt),
)
columns_strict (x ∷ y ∷ z ∷ rest) h = absurd h

pub linked_indexes : (a c d : ℤ) (m : Model) → AreWorkedColumns m.columns → AreLinked a m.rows → m.cost ≡ (0, c) ∷ (1, d) ∷ [] → HasItsColumns m
linked_indexes a c d m k r e = let n = two_columns m.columns k in record {
  rows = rows_below a (length m.columns) m.rows n r;
  cost = rw e (omega (arith, n), (omega (arith, n), tt));
}

used : (b : ℕ) → 0 < b → b ≤ 1 → Contains linked_part b
used zero l h = absurd (omega arith)
used (suc zero) l h = (1, omega arith, refl)
used (suc (suc b)) l h = absurd (omega arith)

pub linked_partition : (m : Model) → AreWorkedColumns m.columns → IsPartition m linked_part
linked_partition m k = let n = two_columns m.columns k in record { numbers = omega (arith, n); used = used; few = omega arith }

pub linked_strict : (a : ℤ) (m : Model) → AreWorkedColumns m.columns → AreLinked a m.rows → IsStrict m linked_part
linked_strict a m k r = let n = two_columns m.columns k in let o = one_row a m.rows r in record {
  rows = rows_strict a m.rows r;
  columns = columns_strict m.columns k;
  small = λ b l. omega (arith, n, o, size_within m linked_part b);
}
