-- Each turn takes one number more.
use Rattle.std.proofs.Common.{rules, FitsSigned, to_z, to_z-of_z}
use Rattle.std.specs.Int.{w128}
use Rattle.bz_lex.specs.Shown.{own_entry}
use Rattle.bz_lex.proofs.LeastMultiples.{least_none, narrow_more, first_wide_least}
use Rattle.bz_lex.proofs.multiples.common_multiple.Goals as goal

pub loop-k-init : goal.loop-k-init
loop-k-init c = least_none (own_entry c.args.tableau.now c.args.order.now)

pub returns-in-None : goal.returns-in-None
returns-in-None c =
    let number_fits : FitsSigned w128 c.own_number.result = search rules in
    let wide = rw (c.in-None.is, to_z-of_z number_fits) at c.multiple.ensures in
    first_wide_least c.loop-k.k _ (own_entry c.args.tableau.now c.args.order.now) (to_z w128 c.loop-k.least-bits) c.own_number.result c.loop-k.invariant c.own_number.ensures.value wide c.loop-k-test.true

pub loop-k-preserved : goal.loop-k-preserved
loop-k-preserved c =
    let number_fits : FitsSigned w128 c.own_number.result = search rules in
    let m_fits : FitsSigned w128 c.in-Some.m = search rules in
    let found = rw (c.in-Some.is, to_z-of_z number_fits) at c.multiple.ensures in
    rw (to_z-of_z m_fits) (narrow_more c.loop-k.k (own_entry c.args.tableau.now c.args.order.now) (to_z w128 c.loop-k.least-bits) c.own_number.result c.in-Some.m c.loop-k.invariant c.own_number.ensures.value found)
