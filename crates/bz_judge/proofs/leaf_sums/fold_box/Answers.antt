use Rattle.std.proofs.Common.{◌≡◌, ◌+◌, ◌*◌, ◌∙◌, ap, ℕ, arith, get_or, length}
use Rattle.bz_num.specs.SparseSums.{sum_left}
use Rattle.bz_num.proofs.SparseSums.{steps_wide}
use Rattle.bz_judge.specs.SideNumbers.{master_number, numbers_from}
use Rattle.bz_judge.proofs.SidesByPosition.{box_other, lower_here, upper_here}
use Rattle.bz_judge.proofs.leaf_sums.fold_box.Goals.{then-integer-position+in_ok-fold_ends, else-integer-position}
use Rattle.bz_judge.proofs.leaf_sums.fold_box.Goals as goal

pub loop-k-init : goal.loop-k-init
loop-k-init c =
    let none : length c.args.sides.now.rows.now + 0 ≡ length c.args.sides.now.rows.now = omega arith in
    record {
      inside = c.requires.inside;
      left = ap (λ (n : ℕ). sum_left c.args.multipliers.now (numbers_from n (master_number c.args.sides.now c.args.position)) c.args.folding.now) none;
    }

pub returns-in_err-fold_ends-clause-steps : goal.returns-in_err-fold_ends-clause-steps
returns-in_err-fold_ends-clause-steps c =
    let s = c.args.sides.now in
    let k : ℕ = c.loop-k.k in
    let here : get_or s.positions.now k 0 ≡ c.args.position = c.if-integer-position.true in
    steps_wide c.args.multipliers.now _ _ c.args.folding.now c.fold_ends.new.folding c.from_residual.result c.in_err-fold_ends.field-0.0 c.from_residual.ensures.1
    (c.in_err-fold_ends.ensures.steps (master_number s c.args.position) (upper_here s c.args.position k c.loop-k-test.true here) (lower_here s c.args.position k c.loop-k-test.true here)
    ∙ c.loop-k.invariant.left)

pub loop-k-preserved : goal.loop-k-preserved
loop-k-preserved c =
    let s = c.args.sides.now in
    let k : ℕ = c.loop-k.k in
    let two : length s.rows.now + 2 * (k + 1) ≡ (length s.rows.now + 2 * k) + 2 = omega arith in
    elim c.if-integer-position.branch [
      | then-integer-position+in_ok-fold_ends w ↦
          let here : get_or s.positions.now k 0 ≡ c.args.position = w.if-integer-position.true in
          rw w.folding-is
          (record {
            inside = w.in_ok-fold_ends.ensures.inside;
            left =
                ap (λ (n : ℕ). sum_left c.args.multipliers.now (numbers_from n (master_number s c.args.position)) w.fold_ends.new.folding) two
                ∙ w.in_ok-fold_ends.ensures.steps (master_number s c.args.position) (upper_here s c.args.position k c.loop-k-test.true here) (lower_here s c.args.position k c.loop-k-test.true here)
                ∙ c.loop-k.invariant.left;
          })
      | else-integer-position w ↦
          rw w.folding-is
          (record {
            inside = c.loop-k.invariant.inside;
            left = box_other s c.args.position k c.args.multipliers.now c.loop-k.folding c.loop-k-test.true w.if-integer-position.false ∙ c.loop-k.invariant.left;
          })
    ]
