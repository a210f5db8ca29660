-- Each turn looks at one row more.
use Rattle.std.proofs.Common.{◌≡◌, ◌<◌, ◌≤ℤ◌, pos, List, length, get_or, subst, arith, add-one, rules, FitsSigned, to_z-of_z}
use Rattle.std.specs.Int.{w128}
use Rattle.std.proofs.lemmas.Int.{ints}
use Rattle.bz_algebra.proofs.Bounded.{below_suc}
use Rattle.bz_tableau.specs.declared.programs.LpRow.{LpRow}
use Rattle.bz_tableau.specs.Programs.{rhs_of}
use Rattle.bz_tableau.proofs.FirstRows.{rhs_at}
use Rattle.bz_lex.proofs.solving.has_slack_point.Goals as goal

pub returns-then-row-lt0 : goal.returns-then-row-lt0
returns-then-row-lt0 c =
    let row : LpRow = c.row-item.result in
    let fits : FitsSigned w128 row.rhs = search rules in
    let negative = rw (to_z-of_z fits) at c.if-row-lt0.true in
    let inside : c.loop-row.row-index < length c.args.lp.now.rows = rw c.as_slice-row-items.ensures at c.loop-row-test.true in
    let is : row ≡ get_or c.args.lp.now.rows c.loop-row.row-index row = subst (λ (rows : List LpRow). row ≡ get_or rows c.loop-row.row-index row) c.as_slice-row-items.ensures c.row-item.is in
    λ h. omega (arith, ints, h c.loop-row.row-index inside, rhs_at c.args.lp.now.rows c.loop-row.row-index row is inside, negative)

pub loop-row-preserved : goal.loop-row-preserved
loop-row-preserved c =
    let row : LpRow = c.row-item.result in
    let fits : FitsSigned w128 row.rhs = search rules in
    let high = rw (to_z-of_z fits) at c.if-row-lt0.false in
    let inside : c.loop-row.row-index < length c.args.lp.now.rows = rw c.as_slice-row-items.ensures at c.loop-row-test.true in
    let is : row ≡ get_or c.args.lp.now.rows c.loop-row.row-index row = subst (λ (rows : List LpRow). row ≡ get_or rows c.loop-row.row-index row) c.as_slice-row-items.ensures c.row-item.is in
    rw add-one (below_suc c.loop-row.row-index (λ k. (pos 0) ≤ℤ (rhs_of c.args.lp.now.rows k)) c.loop-row.invariant (omega (arith, ints, rhs_at c.args.lp.now.rows c.loop-row.row-index row is inside, high)))
