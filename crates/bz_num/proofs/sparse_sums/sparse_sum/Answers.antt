use Rattle.std.proofs.Common.{rules, ◌≡◌, ◌∙◌, sym, refl, pos, drop, FitsSigned, to_z-of_z}
use Rattle.std.specs.Int.{w128}
use Rattle.bz_algebra.specs.Numbers.{IsNarrow}
use Rattle.bz_algebra.specs.Sums.{coef}
use Rattle.bz_num.specs.Fold.{fold_of, pairs_at}
use Rattle.bz_num.specs.SparseSums.{sum_left}
use Rattle.bz_num.proofs.SparseSums.{alone_ahead, left_is, nothing_left, wide_told}
use Rattle.bz_num.proofs.sparse_sums.sparse_sum.Goals as goal

pub returns-in_err-fold_entries : goal.returns-in_err-fold_entries
returns-in_err-fold_entries c =
    let start : sum_left c.args.row.now (coef c.args.other.now) c.new-folding.result ≡ fold_of (pairs_at c.args.row.now (coef c.args.other.now)) =
    left_is c.args.row.now (coef c.args.other.now) c.new-folding.result 0 (pos 0) c.new-folding.ensures.count c.new-folding.ensures.sum in
    wide_told _ c.from_residual.result c.in_err-fold_entries.field-0.0 c.from_residual.ensures.1
    (c.in_err-fold_entries.ensures.steps (coef c.args.other.now) (λ j. pos 0) (alone_ahead c.args.other.now) ∙ start)

pub returns : goal.returns
returns c =
    let start : sum_left c.args.row.now (coef c.args.other.now) c.new-folding.result ≡ fold_of (pairs_at c.args.row.now (coef c.args.other.now)) =
    left_is c.args.row.now (coef c.args.other.now) c.new-folding.result 0 (pos 0) c.new-folding.ensures.count c.new-folding.ensures.sum in
    let fits : FitsSigned w128 c.sum.result = search rules in
    let narrow : IsNarrow c.fold_entries.new.folding.sum = rw c.sum.ensures.value at c.sum.ensures.narrow in
    rw (to_z-of_z fits, c.sum.ensures.value)
    (sym (nothing_left c.fold_entries.new.folding.count c.fold_entries.new.folding.sum (drop c.fold_entries.new.folding.count c.args.row.now) (λ j. pos 0) narrow (λ j. refl))
    ∙ c.in_ok-fold_entries.ensures.steps (coef c.args.other.now) (λ j. pos 0) (alone_ahead c.args.other.now)
    ∙ start)
