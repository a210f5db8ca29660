use Rattle.std.proofs.Common.{rules, ◌≡◌, sym}
use Rattle.bz_tree.specs.Leaves.{side_of_master}
use Rattle.bz_std.specs.Posed.{IsRowOf}
use Rattle.bz_std.specs.Tasks.{side_line}
use Rattle.bz_std.proofs.ListsCompared.{pairwise_length}
use Rattle.bz_std.proofs.Tested.{refuted}
use Rattle.bz_std.proofs.comparison.are_master_rows.Goals as goal

pub returns-then-rows-ineqs : goal.returns-then-rows-ineqs
returns-then-rows-ineqs c = refuted (λ h. c.if-rows-ineqs.true (sym (pairwise_length (λ i. IsRowOf (side_line c.args.width (side_of_master i))) c.args.ineqs.now c.args.rows.now h)))
