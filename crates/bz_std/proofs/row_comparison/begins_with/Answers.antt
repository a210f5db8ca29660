use Rattle.std.proofs.Common.{rules, ◌≡◌, ap, ◌<◌, ◌*◌, length, pos, get_or, arith, FitsSigned, to_z-of_z}
use Rattle.std.specs.Int.{w128}
use Rattle.std.proofs.lemmas.Bool.{iff_false}
use Rattle.std.proofs.lemmas.Int.{fits_signed_from_abs}
use Rattle.bz_num.specs.Row.{IsSparse}
use Rattle.bz_num.proofs.Reduces.{narrow-at}
use Rattle.bz_num.proofs.Rows.{below_at}
use Rattle.bz_model.specs.Limits.{list_limit}
use Rattle.bz_std.specs.Compared.{IsPairAt}
use Rattle.bz_std.proofs.RowsCompared.{begins_fail, begins_long}
use Rattle.bz_std.proofs.Tested.{refuted}
use Rattle.bz_std.proofs.row_comparison.begins_with.Goals as goal

pub returns-then-row-terms : goal.returns-then-row-terms
returns-then-row-terms c = refuted (λ b. omega (arith, begins_long c.args.row.now c.args.terms.now b, ap length c.as_slice-terms.ensures.value, c.if-row-terms.true))

pub is_pair_at-requires-clause-few : goal.is_pair_at-requires-clause-few
is_pair_at-requires-clause-few c =
    let few : (get_or c.as_slice-terms.result.now c.loop-k.k (0, pos 0)).0 < list_limit = below_at list_limit c.as_slice-terms.result.now c.loop-k.k (0, pos 0) (rw c.as_slice-terms.ensures.value c.requires) c.loop-k-test.true in
    omega arith

pub is_pair_at-requires-clause-narrow : goal.is_pair_at-requires-clause-narrow
is_pair_at-requires-clause-narrow c =
    let es = c.as_slice-terms.result.now in
    let k = c.loop-k.k in
    let sparse : IsSparse es = rw c.as_slice-terms.ensures.value c.as_slice-terms.ensures.sparse in
    let narrow = narrow-at 0 es k (0, pos 0) sparse c.loop-k-test.true in
    let fits : FitsSigned w128 (get_or es k (0, pos 0)).1 = fits_signed_from_abs w128 (get_or es k (0, pos 0)).1 narrow in
    rw (to_z-of_z fits) narrow

pub returns-then-not-is_pair_at : goal.returns-then-not-is_pair_at
returns-then-not-is_pair_at c =
    let es = c.as_slice-terms.result.now in
    let k = c.loop-k.k in
    let sparse : IsSparse es = rw c.as_slice-terms.ensures.value c.as_slice-terms.ensures.sparse in
    let fits : FitsSigned w128 (get_or es k (0, pos 0)).1 = fits_signed_from_abs w128 (get_or es k (0, pos 0)).1 (narrow-at 0 es k (0, pos 0) sparse c.loop-k-test.true) in
    let other : IsPairAt c.args.row.now (2 * k) (get_or es k (0, pos 0)).0 (get_or es k (0, pos 0)).1 → ⊥ = λ p. iff_false c.is_pair_at.ensures c.if-not-is_pair_at.true (rw (to_z-of_z fits) p) in
    refuted (λ b. begins_fail c.args.row.now es k c.loop-k-test.true other c.loop-k.invariant (rw c.as_slice-terms.ensures.value b))
