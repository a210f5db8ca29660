use Rattle.std.proofs.Common.{ℕ, ◌≤◌, subst, sym}
use Rattle.bz_model.specs.Parting.{blocks_of}
use Rattle.bz_model.proofs.Positions.{part_within_blocks}
use Rattle.bz_report.proofs.values.value_at.Goals as goal

pub value_in-requires-clause-part : goal.value_in-requires-clause-part
value_in-requires-clause-part c =
    subst (λ (b : ℕ). b ≤ blocks_of c.args.split.now.part) (sym c.place_of-place.ensures.part) (part_within_blocks c.args.split.now.part c.args.column)
