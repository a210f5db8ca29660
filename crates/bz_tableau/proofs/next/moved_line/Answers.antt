-- The pivot row stays where it is positive in the new column, and else turns its sign.
use Rattle.std.proofs.Common.{◌≢◌, rules, ℤ, pos, ◌<ℤ◌, FitsSigned, to_z-of_z}
use Rattle.std.specs.Int.{w128}
use Rattle.bz_algebra.proofs.Ring.{by_sign}
use Rattle.bz_tableau.specs.Dense.{entry}
use Rattle.bz_tableau.proofs.Clearing.{moved_kept, moved_negated}
use Rattle.bz_tableau.proofs.next.moved_line.Goals as goal

pub returns-then-at-gt0 : goal.returns-then-at-gt0
returns-then-at-gt0 c =
    let fits : FitsSigned w128 c.at.result = search rules in
    let more = rw (to_z-of_z fits, c.at.ensures.value) at c.if-at-gt0.true in
    let up : (pos 0) <ℤ (entry c.args.pivot.now c.args.e) = search rules in
    moved_kept c.args.pivot.now c.args.e up c.requires.primitive

pub returns : goal.returns
returns c =
    let fits : FitsSigned w128 c.at.result = search rules in
    let less = rw (to_z-of_z fits, c.at.ensures.value) at c.if-at-gt0.false in
    let off : (pos 0) <ℤ (entry c.args.pivot.now c.args.e) → ⊥ = search rules in
    moved_negated c.args.pivot.now c.in_ok-negated_line.field-0 c.args.e c.requires.column (below (entry c.args.pivot.now c.args.e) c.requires.nonzero off) c.requires.primitive c.in_ok-negated_line.ensures
  where
    below : (z : ℤ) → z ≢ pos 0 → ((pos 0) <ℤ z → ⊥) → z <ℤ (pos 0)
    below z n l = by_sign z (λ k. k) (λ k. absurd (n k)) (λ k. absurd (l k))
