use Rattle.std.proofs.Common.{◌≡◌, ◌*ℤ◌, length, to_z-of_z}
use Rattle.bz_first.proofs.Facts.{with_numbers}
use Rattle.bz_first.proofs.Lists.{all_weaker}
use Rattle.bz_judge.specs.LeftSides.{FitsLengths}
use Rattle.bz_judge.proofs.points.judge_block_rows.Goals as goal

pub judge_each-requires-clause-takes : goal.judge_each-requires-clause-takes
judge_each-requires-clause-takes c =
    let x = length c.args.master.now.x in
    let y = length c.args.block.now.y in
    rw (to_z-of_z c.ranges.den) (with_numbers (λ i. FitsLengths x y i × (c.args.den ≡ c.args.master.now.den *ℤ c.args.block.now.times)) 0 c.args.rows.now
    (all_weaker (FitsLengths x y) (λ i. FitsLengths x y i × (c.args.den ≡ c.args.master.now.den *ℤ c.args.block.now.times)) c.args.rows.now (λ i h. (h, c.requires.den)) c.requires.fits))
