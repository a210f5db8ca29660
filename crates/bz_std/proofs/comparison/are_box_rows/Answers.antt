use Rattle.std.proofs.Common.{rules, ◌≡◌, ◌↔◌, ap, ◌∙◌, ◌<◌, ◌*◌, ◌+◌, ℤ, IsTrue, length, arith, FitsSigned, to_z-of_z}
use Rattle.std.proofs.lemmas.Bool.{iff_false}
use Rattle.std.specs.Int.{w128}
use Rattle.bz_model.specs.declared.Model.{Model}
use Rattle.bz_model.specs.Limits.{list_limit}
use Rattle.bz_model.specs.Parting.{columns_of, width_of}
use Rattle.bz_model.specs.Points.{coordinate}
use Rattle.bz_model.proofs.Positions.{length-columns_of}
use Rattle.bz_model.proofs.PartCosts.{width_small}
use Rattle.bz_tree.specs.Boxes.{Box}
use Rattle.bz_tree.specs.Integers.{positions_of}
use Rattle.bz_tree.proofs.IntegerPositions.{number_within}
use Rattle.bz_std.specs.Compared.{AreEndsOf}
use Rattle.bz_std.proofs.BoxCompared.{IsMastersColumn, box_fail, box_inside, box_less, box_next, box_start, masters_column}
use Rattle.bz_std.proofs.ListsCompared.{box_length}
use Rattle.bz_std.proofs.Tested.{refuted}
use Rattle.bz_std.proofs.Widths.{width_few}
use Rattle.bz_std.proofs.comparison.are_box_rows.Goals as goal
use Rattle.bz_std.proofs.comparison.are_box_rows.Goals.{then-column+else-not-are_ends, else-column}

pub returns-then-rows-lower : goal.returns-then-rows-lower
returns-then-rows-lower c =
    let box : Box = record { lower = c.args.lower.now; upper = c.args.upper.now } in
    refuted (λ h. omega (arith, c.if-rows-lower.true, c.requires.lowers, box_length (width_of c.args.split.now.part 0) (positions_of c.args.split.now.model c.args.split.now.part) box c.args.rows.now h))

pub loop-position-init : goal.loop-position-init
loop-position-init c = box_start c.args.split.now (width_of c.args.split.now.part 0) (record { lower = c.args.lower.now; upper = c.args.upper.now }) c.args.rows.now c.model.ensures.split

pub bounds-columns-number : goal.bounds-columns-number
bounds-columns-number c =
    let within : c.loop-position.position < length (columns_of c.args.split.now.part 0) = rw c.columns_of-number-items.ensures.value at c.loop-position-test.true in
    rw (c.columns_of-number-items.ensures.value, c.as_slice-columns.ensures, c.model.ensures.value) (number_within c.args.split.now c.loop-position.position c.model.ensures.split within)

pub bounds-rows-k : goal.bounds-rows-k
bounds-rows-k c =
    let split = c.args.split.now in
    let box : Box = record { lower = c.args.lower.now; upper = c.args.upper.now } in
    let here : IsMastersColumn split c.loop-position.position c.index-columns-number.result = masters_column split c.loop-position.position c.index-columns-number.result c.columns_of-number-items.result.now c.as_slice-columns.result.now c.columns_of-number-items.ensures.value (c.as_slice-columns.ensures ∙ ap (λ (m : Model). m.columns) c.model.ensures.value) c.loop-position-test.true c.index-columns-number.is in
    let inside : c.loop-position.k < length (positions_of split.model split.part) = box_inside split (width_of split.part 0) box c.args.rows.now c.loop-position.k c.loop-position.position c.model.ensures.split c.index-columns-number.result here c.if-column.true c.loop-position.invariant in
    omega (arith, inside, c.requires.lowers, c.if-rows-lower.false)

pub bounds-rows-k-then-column : goal.bounds-rows-k-then-column
bounds-rows-k-then-column c =
    let split = c.args.split.now in
    let box : Box = record { lower = c.args.lower.now; upper = c.args.upper.now } in
    let here : IsMastersColumn split c.loop-position.position c.index-columns-number.result = masters_column split c.loop-position.position c.index-columns-number.result c.columns_of-number-items.result.now c.as_slice-columns.result.now c.columns_of-number-items.ensures.value (c.as_slice-columns.ensures ∙ ap (λ (m : Model). m.columns) c.model.ensures.value) c.loop-position-test.true c.index-columns-number.is in
    let inside : c.loop-position.k < length (positions_of split.model split.part) = box_inside split (width_of split.part 0) box c.args.rows.now c.loop-position.k c.loop-position.position c.model.ensures.split c.index-columns-number.result here c.if-column.true c.loop-position.invariant in
    omega (arith, inside, c.requires.lowers, c.if-rows-lower.false)

pub bounds-lower-k : goal.bounds-lower-k
bounds-lower-k c =
    let split = c.args.split.now in
    let box : Box = record { lower = c.args.lower.now; upper = c.args.upper.now } in
    let here : IsMastersColumn split c.loop-position.position c.index-columns-number.result = masters_column split c.loop-position.position c.index-columns-number.result c.columns_of-number-items.result.now c.as_slice-columns.result.now c.columns_of-number-items.ensures.value (c.as_slice-columns.ensures ∙ ap (λ (m : Model). m.columns) c.model.ensures.value) c.loop-position-test.true c.index-columns-number.is in
    let inside : c.loop-position.k < length (positions_of split.model split.part) = box_inside split (width_of split.part 0) box c.args.rows.now c.loop-position.k c.loop-position.position c.model.ensures.split c.index-columns-number.result here c.if-column.true c.loop-position.invariant in
    omega (arith, inside, c.requires.lowers)

pub bounds-upper-k : goal.bounds-upper-k
bounds-upper-k c =
    let split = c.args.split.now in
    let box : Box = record { lower = c.args.lower.now; upper = c.args.upper.now } in
    let here : IsMastersColumn split c.loop-position.position c.index-columns-number.result = masters_column split c.loop-position.position c.index-columns-number.result c.columns_of-number-items.result.now c.as_slice-columns.result.now c.columns_of-number-items.ensures.value (c.as_slice-columns.ensures ∙ ap (λ (m : Model). m.columns) c.model.ensures.value) c.loop-position-test.true c.index-columns-number.is in
    let inside : c.loop-position.k < length (positions_of split.model split.part) = box_inside split (width_of split.part 0) box c.args.rows.now c.loop-position.k c.loop-position.position c.model.ensures.split c.index-columns-number.result here c.if-column.true c.loop-position.invariant in
    omega (arith, inside, c.requires.uppers)

pub overflow_cast-position : goal.overflow_cast-position
overflow_cast-position c =
    let within : c.loop-position.position < length (columns_of c.args.split.now.part 0) = rw c.columns_of-number-items.ensures.value at c.loop-position-test.true in
    record { fits = omega (arith, width_small c.args.split.now 0 c.model.ensures.split) }

pub are_ends-requires-clause-few : goal.are_ends-requires-clause-few
are_ends-requires-clause-few c =
    let within : c.loop-position.position < length (columns_of c.args.split.now.part 0) = rw c.columns_of-number-items.ensures.value at c.loop-position-test.true in
    let few : width_of c.args.split.now.part 0 < list_limit = width_few c.args.split.now 0 c.model.ensures.split in
    omega (arith, length-columns_of c.args.split.now.part 0)

pub returns-then-not-are_ends : goal.returns-then-not-are_ends
returns-then-not-are_ends c =
    let split = c.args.split.now in
    let box : Box = record { lower = c.args.lower.now; upper = c.args.upper.now } in
    let here : IsMastersColumn split c.loop-position.position c.index-columns-number.result = masters_column split c.loop-position.position c.index-columns-number.result c.columns_of-number-items.result.now c.as_slice-columns.result.now c.columns_of-number-items.ensures.value (c.as_slice-columns.ensures ∙ ap (λ (m : Model). m.columns) c.model.ensures.value) c.loop-position-test.true c.index-columns-number.is in
    let inside : c.loop-position.k < length (positions_of split.model split.part) = box_inside split (width_of split.part 0) box c.args.rows.now c.loop-position.k c.loop-position.position c.model.ensures.split c.index-columns-number.result here c.if-column.true c.loop-position.invariant in
    let k = c.loop-position.k in
    let lower : ℤ = coordinate c.args.lower.now k in
    let upper : ℤ = coordinate c.args.upper.now k in
    let fits : FitsSigned w128 lower = search rules in
    let fits_too : FitsSigned w128 upper = search rules in
    let tested : IsTrue c.are_ends.result ↔ AreEndsOf c.loop-position.position lower upper c.index-rows-k.result c.index-rows-k-then-column.result = rw (to_z-of_z fits, to_z-of_z fits_too) at c.are_ends.ensures in
    let enough : 2 * k + 1 < length c.args.rows.now = omega (arith, inside, c.requires.lowers, c.if-rows-lower.false) in
    refuted (box_fail split (width_of split.part 0) box c.args.rows.now k c.loop-position.position c.model.ensures.split c.index-columns-number.result here c.if-column.true c.loop-position.invariant c.index-rows-k.result c.index-rows-k-then-column.result enough c.index-rows-k.is c.index-rows-k-then-column.is (λ e. iff_false tested c.if-not-are_ends.true e))

pub loop-position-preserved : goal.loop-position-preserved
loop-position-preserved c =
    let split = c.args.split.now in
    let box : Box = record { lower = c.args.lower.now; upper = c.args.upper.now } in
    let k = c.loop-position.k in
    let lower : ℤ = coordinate c.args.lower.now k in
    let upper : ℤ = coordinate c.args.upper.now k in
    let here : IsMastersColumn split c.loop-position.position c.index-columns-number.result = masters_column split c.loop-position.position c.index-columns-number.result c.columns_of-number-items.result.now c.as_slice-columns.result.now c.columns_of-number-items.ensures.value (c.as_slice-columns.ensures ∙ ap (λ (m : Model). m.columns) c.model.ensures.value) c.loop-position-test.true c.index-columns-number.is in
    elim c.if-column.branch [
      | then-column+else-not-are_ends w ↦
          let inside : k < length (positions_of split.model split.part) = box_inside split (width_of split.part 0) box c.args.rows.now k c.loop-position.position c.model.ensures.split c.index-columns-number.result here w.if-column.true c.loop-position.invariant in
          let enough : 2 * k + 1 < length c.args.rows.now = omega (arith, inside, c.requires.lowers, c.if-rows-lower.false) in
          let fits : FitsSigned w128 lower = search rules in
          let fits_too : FitsSigned w128 upper = search rules in
          let tested : IsTrue w.are_ends.result ↔ AreEndsOf c.loop-position.position lower upper w.index-rows-k.result w.index-rows-k-then-column.result = rw (to_z-of_z fits, to_z-of_z fits_too) at w.are_ends.ensures in
          rw w.k-is (box_next split (width_of split.part 0) box c.args.rows.now k c.loop-position.position c.model.ensures.split c.index-columns-number.result here w.if-column.true c.loop-position.invariant w.index-rows-k.result w.index-rows-k-then-column.result enough w.index-rows-k.is w.index-rows-k-then-column.is (tested.0 w.if-not-are_ends.false))
      | else-column w ↦
          rw w.k-is (box_less split (width_of split.part 0) box c.args.rows.now k c.loop-position.position c.model.ensures.split c.index-columns-number.result here w.if-column.false c.loop-position.invariant)
    ]
