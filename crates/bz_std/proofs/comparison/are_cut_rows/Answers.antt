use Rattle.std.proofs.Common.{rules, ◌≡◌, sym}
use Rattle.bz_tree.specs.Leaves.{side_of_cut}
use Rattle.bz_std.specs.Posed.{IsRowOf}
use Rattle.bz_std.specs.Tasks.{side_line}
use Rattle.bz_std.proofs.ListsCompared.{pairwise_length}
use Rattle.bz_std.proofs.Tested.{refuted}
use Rattle.bz_std.proofs.comparison.are_cut_rows.Goals as goal

pub returns-then-rows-cuts : goal.returns-then-rows-cuts
returns-then-rows-cuts c = refuted (λ h. c.if-rows-cuts.true (sym (pairwise_length (λ cut. IsRowOf (side_line c.args.width (side_of_cut cut))) c.args.cuts.now c.args.rows.now h)))
