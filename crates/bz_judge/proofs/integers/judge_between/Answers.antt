use Rattle.std.proofs.Common.{rules, ◌≡◌, ◌*ℤ◌, ◌≤ℤ◌, ◌<ℤ◌, FitsSigned, to_z-of_z}
use Rattle.std.specs.Int.{w128}
use Rattle.bz_judge.proofs.BetweenTests.{all_between, lower_fault, upper_fault}
use Rattle.bz_judge.proofs.integers.judge_between.Goals as goal

pub returns-then-quotient-upper : goal.returns-then-quotient-upper
returns-then-quotient-upper c =
    let fits : FitsSigned w128 c.in-Some.quotient = search rules in
    let whole : c.args.x ≡ c.in-Some.quotient *ℤ c.args.den = rw (to_z-of_z c.ranges.x, to_z-of_z c.ranges.den) at c.in-Some.ensures in
    let above : c.args.upper <ℤ c.in-Some.quotient = search rules in
    upper_fault c.args.at c.args.x c.args.den c.args.lower c.args.upper c.in-Some.quotient c.requires.positive whole above

pub returns-then-quotient-lower : goal.returns-then-quotient-lower
returns-then-quotient-lower c =
    let fits : FitsSigned w128 c.in-Some.quotient = search rules in
    let whole : c.args.x ≡ c.in-Some.quotient *ℤ c.args.den = rw (to_z-of_z c.ranges.x, to_z-of_z c.ranges.den) at c.in-Some.ensures in
    let most : c.in-Some.quotient ≤ℤ c.args.upper = search rules in
    let below : c.in-Some.quotient <ℤ c.args.lower = search rules in
    lower_fault c.args.at c.args.x c.args.den c.args.lower c.args.upper c.in-Some.quotient c.requires.positive whole most below

pub returns : goal.returns
returns c =
    let fits : FitsSigned w128 c.in-Some.quotient = search rules in
    let whole : c.args.x ≡ c.in-Some.quotient *ℤ c.args.den = rw (to_z-of_z c.ranges.x, to_z-of_z c.ranges.den) at c.in-Some.ensures in
    let most : c.in-Some.quotient ≤ℤ c.args.upper = search rules in
    let least : c.args.lower ≤ℤ c.in-Some.quotient = search rules in
    all_between c.args.at c.args.x c.args.den c.args.lower c.args.upper c.in-Some.quotient c.requires.positive whole most least
