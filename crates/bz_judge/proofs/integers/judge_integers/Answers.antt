use Rattle.std.proofs.Common.{rules, arith, ◌≡◌, ◌+◌, ◌*◌, ◌<◌, ◌^◌, length}
use Rattle.std.specs.List.{AllByRecursion, enumerate_from}
use Rattle.bz_first.proofs.Facts.{with_numbers, within_numbers}
use Rattle.bz_first.proofs.Lists.{all_weaker}
use Rattle.bz_model.specs.Parting.{integers_of, width_of}
use Rattle.bz_model.proofs.InnerCosts.{decomposed}
use Rattle.bz_tree.specs.Ends.{box_of}
use Rattle.bz_judge.specs.IntegerTests.{IsIntegerOf}
use Rattle.bz_judge.proofs.BetweenTests.{positions_within, same_count, tests_by_position}
use Rattle.bz_judge.proofs.integers.judge_integers.Goals as goal

pub judge_each-requires-clause-takes : goal.judge_each-requires-clause-takes
judge_each-requires-clause-takes c =
    let m = c.args.split.now.model in
    let part = c.args.split.now.part in
    let positions = c.args.positions.now in
    let sides = length c.inequalities.result.now in
    let within : AllByRecursion (λ p. p < width_of part 0) positions = rw c.requires.positions (positions_within m part (decomposed c.args.split.now c.inequalities.ensures.split)) in
    let count : length positions ≡ length (integers_of m) = rw c.requires.positions (same_count m part) in
    let few : sides + 2 * length positions < 2 ^ 32 = search rules in
    all_weaker _ (IsIntegerOf c.args.master.now (box_of c.args.root.now) sides) (enumerate_from 0 positions)
    (λ e h. record {
      den = c.requires.positive;
      place = omega (arith, few, h.1);
      position = rw c.requires.x h.2;
      lower = rw (c.requires.root.lowers, ← count) h.1;
      upper = rw (c.requires.root.uppers, ← count) h.1;
    })
    (within_numbers (λ e. e.1 < width_of part 0) 0 positions 0 (length positions) (omega arith) (omega arith) (with_numbers (λ p. p < width_of part 0) 0 positions within))

pub returns : goal.returns
returns c =
    let m = c.args.split.now.model in
    let part = c.args.split.now.part in
    rw (c.requires.positions, c.inequalities.ensures.value, tests_by_position m part (box_of c.args.root.now) c.args.master.now) at c.judge_each.ensures
