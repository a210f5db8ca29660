use Rattle.std.proofs.Common.{rules, ◌≡◌, refl, ◌++◌, ℤ, FitsSigned, to_z-of_z}
use Rattle.std.specs.Int.{w128}
use Rattle.bz_num.specs.Dense.{entry}
use Rattle.bz_num.specs.Row.{entry_at}
use Rattle.bz_std.proofs.OneRowLists.{entries_next, narrow_stored}
use Rattle.bz_std.proofs.multipliers.entries_of.Goals as goal

pub loop-place-preserved : goal.loop-place-preserved
loop-place-preserved c =
    let number : ℤ = entry c.args.numbers.now c.loop-place.place in
    let fits : FitsSigned w128 number = search rules in
    let pushed : c.push.new.self ≡ c.loop-place.row ++ entry_at c.loop-place.place number = rw (to_z-of_z fits) at c.in_ok-push.ensures.value in
    rw pushed (entries_next c.loop-place.place (entry c.args.numbers.now) c.loop-place.row number refl (narrow_stored number fits (c.requires.narrow c.loop-place.place c.loop-place-test.true)) c.loop-place.invariant)
