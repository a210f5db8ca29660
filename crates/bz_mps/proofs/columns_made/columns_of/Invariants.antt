use Rattle.std.proofs.Common.{take}
use Rattle.std.specs.Prelude.{flat_map}
use Rattle.std.specs.List.{AllZip, enumerate_from, zip}
use Rattle.bz_lines.specs.FirstFault.{NoneFails}
use Rattle.bz_mps.specs.FactModel.{IsColumnOf, end_tests_at_column}
use Rattle.bz_mps.proofs.columns_made.columns_of.Given as goal

abbrev pub invariant-loop-place : goal.invariant-loop-place
invariant-loop-place l = record {
  columns : AllZip (IsColumnOf l.facts.bounds) (take l.place (enumerate_from 0 (zip l.facts.columns l.facts.integers))) l.columns.items;
  passed : NoneFails (flat_map (end_tests_at_column l.facts.bounds) (take l.place (enumerate_from 0 l.facts.integers)));
}
