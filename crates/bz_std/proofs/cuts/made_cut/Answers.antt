use Rattle.std.proofs.Common.{◌<◌, length, to_z-of_z}
use Rattle.bz_num.specs.Dense.{entry}
use Rattle.bz_model.specs.Parting.{inequalities_of, width_of}
use Rattle.bz_std.specs.CutsFrom.{AreEntries}
use Rattle.bz_std.specs.Making.{AreRawNumbers, IsCutOfNumbers, StopsCut, StopsSums}
use Rattle.bz_std.proofs.CutNumbers.{cut_is, cut_stops, some_number}
use Rattle.bz_std.proofs.Entries.{entries_are_multipliers}
use Rattle.bz_std.proofs.LeafNumbers.{stops_passed}
use Rattle.bz_std.proofs.OneRowLists.{stored_nonnegative}
use Rattle.bz_std.proofs.cuts.made_cut.Goals as goal

pub entries_of-requires-clause-narrow : goal.entries_of-requires-clause-narrow
entries_of-requires-clause-narrow c = λ i l.
    let inside : i < length (inequalities_of c.args.split.now.model c.args.split.now.part c.args.block) = rw c.inequalities-rows.ensures.value at l in
    stored_nonnegative (entry c.args.y.now i) (c.requires.multipliers i inside)

pub raw_numbers-requires-clause-multipliers : goal.raw_numbers-requires-clause-multipliers
raw_numbers-requires-clause-multipliers c =
    let mine : AreEntries (length (inequalities_of c.args.split.now.model c.args.split.now.part c.args.block)) (entry c.args.y.now) c.in_ok-mu.mu = rw c.inequalities-rows.ensures.value at c.in_ok-mu.ensures in
    rw c.inequalities-rows.ensures.value (entries_are_multipliers (length (inequalities_of c.args.split.now.model c.args.split.now.part c.args.block)) (entry c.args.y.now) c.requires.multipliers c.in_ok-mu.mu mine)

pub returns-in_err-numbers-clause-stop : goal.returns-in_err-numbers-clause-stop
returns-in_err-numbers-clause-stop c =
    let mine : AreEntries (length (inequalities_of c.args.split.now.model c.args.split.now.part c.args.block)) (entry c.args.y.now) c.in_ok-mu.mu = rw c.inequalities-rows.ensures.value at c.in_ok-mu.ensures in
    let stop : StopsSums (width_of c.args.split.now.part 0) (inequalities_of c.args.split.now.model c.args.split.now.part c.args.block) c.in_ok-mu.mu c.in_err-numbers.field-0.0 = rw (c.inequalities-rows.ensures.value, c.width-width.ensures) at c.in_err-numbers.ensures.stop in
    stops_passed (StopsCut c.args.split.now.model c.args.split.now.part c.args.block (entry c.args.y.now)) c.in_err-numbers.field-0.0 c.from_residual-in_err-numbers.result c.from_residual-in_err-numbers.ensures.1 (cut_stops c.args.split.now.model c.args.split.now.part c.args.block (entry c.args.y.now) c.in_ok-mu.mu mine c.in_err-numbers.field-0.0 stop)

pub divided_cut-requires-clause-some : goal.divided_cut-requires-clause-some
divided_cut-requires-clause-some c =
    let mine : AreEntries (length (inequalities_of c.args.split.now.model c.args.split.now.part c.args.block)) (entry c.args.y.now) c.in_ok-mu.mu = rw c.inequalities-rows.ensures.value at c.in_ok-mu.ensures in
    let raw : AreRawNumbers (width_of c.args.split.now.part 0) (inequalities_of c.args.split.now.model c.args.split.now.part c.args.block) c.in_ok-mu.mu c.args.raw c.in_ok-numbers.numbers.items = rw (c.inequalities-rows.ensures.value, c.width-width.ensures, to_z-of_z c.ranges.raw) at c.in_ok-numbers.ensures.numbers in
    some_number c.args.split.now.model c.args.split.now.part c.args.block (entry c.args.y.now) c.in_ok-mu.mu mine c.args.raw c.in_ok-numbers.numbers.items raw c.requires.some

pub returns-clause-cut : goal.returns-clause-cut
returns-clause-cut c =
    let mine : AreEntries (length (inequalities_of c.args.split.now.model c.args.split.now.part c.args.block)) (entry c.args.y.now) c.in_ok-mu.mu = rw c.inequalities-rows.ensures.value at c.in_ok-mu.ensures in
    let raw : AreRawNumbers (width_of c.args.split.now.part 0) (inequalities_of c.args.split.now.model c.args.split.now.part c.args.block) c.in_ok-mu.mu c.args.raw c.in_ok-numbers.numbers.items = rw (c.inequalities-rows.ensures.value, c.width-width.ensures, to_z-of_z c.ranges.raw) at c.in_ok-numbers.ensures.numbers in
    let numbers : IsCutOfNumbers (width_of c.args.split.now.part 0) c.in_ok-numbers.numbers.items c.in_ok-divided_cut.field-0 = rw c.width-width.ensures at c.in_ok-divided_cut.ensures.numbers in
    cut_is c.args.split.now.model c.args.split.now.part c.args.block (entry c.args.y.now) c.in_ok-mu.mu mine c.args.raw c.in_ok-numbers.numbers.items c.in_ok-divided_cut.field-0 raw c.in_ok-divided_cut.ensures.block c.in_ok-divided_cut.ensures.multipliers numbers
