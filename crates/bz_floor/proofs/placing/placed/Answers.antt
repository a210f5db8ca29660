use Rattle.std.proofs.Common.{rules, ◌≡◌, refl, ◌<◌, ◌*◌, ◌^◌, ap, length, get_or, arith, pos, FitsSigned, to_z-of_z}
use Rattle.std.specs.Int.{w128}
use Rattle.bz_model.specs.Limits.{list_limit}
use Rattle.bz_model.specs.Parting.{column_at, columns_of, width_of}
use Rattle.bz_model.proofs.Positions.{column_at_is, length-columns_of}
use Rattle.bz_std.proofs.Widths.{width_few}
use Rattle.bz_floor.proofs.PlacedNumbers.{all_placed, one_placed}
use Rattle.bz_floor.proofs.placing.placed.Goals as goal

pub offset_bounds-d-position : goal.offset_bounds-d-position
offset_bounds-d-position c =
    let part = c.args.split.now.part in
    let b = c.args.block in
    let i = c.loop-position.position in
    let columns : c.columns_of-column-items.result.now ≡ columns_of part b = c.columns_of-column-items.ensures.value in
    let inside : i < width_of part b = omega (arith, c.loop-position-test.true, ap length columns, length-columns_of part b) in
    let few : width_of part b < list_limit = width_few c.args.split.now b c.model.ensures.split in
    let small : i * 16 < 2 ^ 64 = omega arith in
    search rules

pub bounds-d-position : goal.bounds-d-position
bounds-d-position c =
    let part = c.args.split.now.part in
    let b = c.args.block in
    let i = c.loop-position.position in
    let columns : c.columns_of-column-items.result.now ≡ columns_of part b = c.columns_of-column-items.ensures.value in
    let inside : i < width_of part b = omega (arith, c.loop-position-test.true, ap length columns, length-columns_of part b) in
    omega (arith, inside, c.requires.numbers)

pub index_mut-requires : goal.index_mut-requires
index_mut-requires c =
    let part = c.args.split.now.part in
    let b = c.args.block in
    let i = c.loop-position.position in
    let columns : c.columns_of-column-items.result.now ≡ columns_of part b = c.columns_of-column-items.ensures.value in
    let inside : i < width_of part b = omega (arith, c.loop-position-test.true, ap length columns, length-columns_of part b) in
    let within = (column_at_is part b i inside).within in
    rw columns (omega (arith, within, c.loop-position.invariant.count, c.loop-position.ray.ok))

pub loop-position-preserved : goal.loop-position-preserved
loop-position-preserved c =
    let part = c.args.split.now.part in
    let b = c.args.block in
    let i = c.loop-position.position in
    let columns : c.columns_of-column-items.result.now ≡ columns_of part b = c.columns_of-column-items.ensures.value in
    let inside : i < width_of part b = omega (arith, c.loop-position-test.true, ap length columns, length-columns_of part b) in
    let d = c.args.d.now in
    let fits : FitsSigned w128 (get_or d i (pos 0)) = search rules in
    rw (columns, to_z-of_z fits) (one_placed part b d i c.loop-position.ray.items (column_at part b i) (get_or d i (pos 0)) inside refl refl c.loop-position.invariant)

pub returns : goal.returns
returns c =
    let part = c.args.split.now.part in
    let b = c.args.block in
    let columns : c.columns_of-column-items.result.now ≡ columns_of part b = c.columns_of-column-items.ensures.value in
    all_placed part b c.args.d.now c.loop-position.position c.loop-position.ray.items (omega (arith, c.loop-position-test.false, ap length columns, length-columns_of part b)) c.loop-position.invariant
