use Rattle.std.proofs.Common.{rules, ◌≡◌, sym}
use Rattle.bz_std.specs.Compared.{IsOwnRow}
use Rattle.bz_std.proofs.ListsCompared.{pairwise_length}
use Rattle.bz_std.proofs.Tested.{refuted}
use Rattle.bz_std.proofs.comparison.are_own_rows.Goals as goal

pub returns-then-rows-ineqs : goal.returns-then-rows-ineqs
returns-then-rows-ineqs c = refuted (λ h. c.if-rows-ineqs.true (sym (pairwise_length (IsOwnRow c.args.point.now) c.args.ineqs.now c.args.rows.now h)))
