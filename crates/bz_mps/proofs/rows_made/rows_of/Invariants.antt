use Rattle.std.proofs.Common.{filter, map, not, take}
use Rattle.std.specs.List.{AllZip, enumerate_from}
use Rattle.bz_lines.specs.FirstFault.{NoneFails}
use Rattle.bz_facts.specs.LineTests.{is_free}
use Rattle.bz_mps.specs.FactModel.{IsRowOf, end_test_at_row}
use Rattle.bz_mps.proofs.rows_made.rows_of.Given as goal

abbrev pub invariant-loop-place : goal.invariant-loop-place
invariant-loop-place l = record {
  rows : AllZip (IsRowOf l.facts) (filter (λ r. not (is_free r.1)) (take l.place (enumerate_from 0 l.facts.row_types))) l.rows.items;
  passed : NoneFails (map (end_test_at_row l.facts) (filter (λ r. not (is_free r.1)) (take l.place (enumerate_from 0 l.facts.row_types))));
}
