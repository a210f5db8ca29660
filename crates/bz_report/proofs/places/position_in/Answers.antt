use Rattle.std.proofs.Common.{rules, ◌<◌, ◌^◌, arith}
use Rattle.bz_model.specs.Limits.{list_limit}
use Rattle.bz_model.specs.Parting.{width_of}
use Rattle.bz_std.proofs.Widths.{width_few}
use Rattle.bz_report.proofs.ColumnPlaces.{search_finds, search_misses}
use Rattle.bz_report.proofs.places.position_in.Goals as goal

pub overflow_cast-result : goal.overflow_cast-result
overflow_cast-result c =
    let part = c.args.split.now.part in
    let found = search_finds part c.args.part c.args.column c.columns_of.result.now c.binary_search.result c.in-Ok.position c.columns_of.ensures.value c.binary_search.ensures.position c.in-Ok.is in
    let few : width_of part c.args.part < list_limit = width_few c.args.split.now c.args.part c.columns_of.ensures.split in
    let small : c.in-Ok.position < 2 ^ 32 = omega (arith, found.within, few) in
    search rules

pub returns-in-Ok-clause-found : goal.returns-in-Ok-clause-found
returns-in-Ok-clause-found c =
    (search_finds c.args.split.now.part c.args.part c.args.column c.columns_of.result.now c.binary_search.result c.in-Ok.position c.columns_of.ensures.value c.binary_search.ensures.position c.in-Ok.is).position_is

pub returns-in-Ok-clause-inside : goal.returns-in-Ok-clause-inside
returns-in-Ok-clause-inside c =
    (search_finds c.args.split.now.part c.args.part c.args.column c.columns_of.result.now c.binary_search.result c.in-Ok.position c.columns_of.ensures.value c.binary_search.ensures.position c.in-Ok.is).part_is

pub returns-in-Err-clause-outside : goal.returns-in-Err-clause-outside
returns-in-Err-clause-outside c = λ none e. search_misses c.args.split.now.part c.args.part c.args.column c.columns_of.result.now c.binary_search.result c.in-Err.field-0 c.requires.column c.columns_of.ensures.value c.binary_search.ensures.position c.in-Err.is e
