use Rattle.std.proofs.Common.{rules, ◌≡◌, refl, sym, ap, ◌∙◌, ◌<◌, ◌≤◌, ◌+◌, ◌-◌, ◌*◌, ◌++◌, [], ◌∷◌, ℕ, ℤ, List, neg_ℤ, arith, append-nil, FitsSigned, to_z-of_z}
use Rattle.std.specs.Int.{w128}
use Rattle.bz_algebra.specs.Sums.{AllBelow}
use Rattle.bz_num.specs.Row.{entry_at}
use Rattle.bz_model.specs.Limits.{list_limit}
use Rattle.bz_tree.specs.Leaves.{side_of_cut}
use Rattle.bz_std.specs.Posed.{Line, line_over_columns, over_columns}
use Rattle.bz_std.specs.Tasks.{side_line}
use Rattle.bz_std.proofs.ColumnSums.{columns_below}
use Rattle.bz_std.proofs.OverColumns.{below_up, cut_is}
use Rattle.bz_std.proofs.nodes.cut_row.Goals as goal

pub row_over_columns-requires : goal.row_over_columns-requires
row_over_columns-requires c = below_up c.args.width list_limit c.args.cut.now.alpha (omega (arith, c.requires.few)) c.requires.alpha

pub push_variable-requires-clause-above : goal.push_variable-requires-clause-above
push_variable-requires-clause-above c = rw c.in_ok-terms.ensures (below_up (2 * c.args.width) (2 * (c.args.width + (c.args.cut.now.block - 1))) (over_columns c.args.cut.now.alpha) (omega arith) (columns_below c.args.width c.args.cut.now.alpha c.requires.alpha))

pub returns : goal.returns
returns c =
    let cut = c.args.cut.now in
    let at : ℕ = c.args.width + (cut.block - 1) in
    let fits : FitsSigned w128 cut.p0 = search rules in
    let turned : c.narrow_negation.result ≡ neg_ℤ cut.p0 = rw (to_z-of_z fits) at c.narrow_negation.ensures.value in
    let fits_turned : FitsSigned w128 c.narrow_negation.result = search rules in
    let fits_beta : FitsSigned w128 cut.beta = search rules in
    let pushed : c.push_variable.new.row ≡ c.in_ok-terms.terms ++ over_columns (entry_at at (neg_ℤ cut.p0)) = rw (to_z-of_z fits_turned, turned) at c.in_ok-push_variable.ensures.value in
    cut_is c.args.width cut c.in_ok-terms.terms c.push_variable.new.row _ refl (to_z-of_z fits_beta) c.in_ok-terms.ensures pushed
