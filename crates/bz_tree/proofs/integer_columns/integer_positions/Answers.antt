-- The positions so far are those of the integer columns so far.
use Rattle.std.proofs.Common.{arith, ◌<◌, length}
use Rattle.bz_model.specs.Parting.{columns_of}
use Rattle.bz_model.proofs.PartCosts.{width_small}
use Rattle.bz_tree.proofs.IntegerPositions.{number_within, so_far-end, so_far-less, so_far-more, so_far-start}
use Rattle.bz_tree.proofs.integer_columns.integer_positions.Goals as goal
use Rattle.bz_tree.proofs.integer_columns.integer_positions.Goals.{then-column+in_ok-push, else-column}

pub loop-position-init : goal.loop-position-init
loop-position-init c = rw c.new-positions.ensures.items (so_far-start c.args.split.now c.model.ensures.split)

pub bounds-columns-number : goal.bounds-columns-number
bounds-columns-number c =
    let within : c.loop-position.position < length (columns_of c.args.split.now.part 0) = rw c.columns_of-number-items.ensures.value at c.loop-position-test.true in
    rw (c.columns_of-number-items.ensures.value, c.as_slice-columns.ensures, c.model.ensures.value) (number_within c.args.split.now c.loop-position.position c.model.ensures.split within)

pub overflow_cast-position : goal.overflow_cast-position
overflow_cast-position c =
    let within : c.loop-position.position < length (columns_of c.args.split.now.part 0) = rw c.columns_of-number-items.ensures.value at c.loop-position-test.true in
    record { fits = omega (arith, width_small c.args.split.now 0 c.model.ensures.split) }

pub loop-position-preserved : goal.loop-position-preserved
loop-position-preserved c =
    let within : c.loop-position.position < length (columns_of c.args.split.now.part 0) = rw c.columns_of-number-items.ensures.value at c.loop-position-test.true in
    let known = rw (c.columns_of-number-items.ensures.value, c.as_slice-columns.ensures, c.model.ensures.value) at c.index-columns-number.is in
    elim c.if-column.branch [
      | then-column+in_ok-push w ↦
          rw (w.positions-is, w.in_ok-push.ensures.items)
          (so_far-more c.args.split.now c.loop-position.position c.index-columns-number.result c.loop-position.positions.items c.model.ensures.split within known w.if-column.true c.loop-position.invariant)
      | else-column w ↦
          rw w.positions-is
          (so_far-less c.args.split.now c.loop-position.position c.index-columns-number.result c.loop-position.positions.items c.model.ensures.split within known w.if-column.false c.loop-position.invariant)
    ]

pub returns-clause-positions : goal.returns-clause-positions
returns-clause-positions c = so_far-end c.args.split.now c.loop-position.position c.loop-position.positions.items (rw c.columns_of-number-items.ensures.value at c.loop-position-test.false) c.loop-position.invariant
