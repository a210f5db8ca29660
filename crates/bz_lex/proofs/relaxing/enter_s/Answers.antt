-- The goal is the basis with s in the row.
use Rattle.std.proofs.Common.{set}
use Rattle.bz_tableau.specs.Pivots.{IsPivoted}
use Rattle.bz_lex.specs.Refusals.{IsFirstRelaxedStop}
use Rattle.bz_lex.specs.Shown.{HasPoint}
use Rattle.bz_lex.specs.Ways.{IsWayRefusal}
use Rattle.bz_lex.proofs.RelaxedEntering.{s_may_enter}
use Rattle.bz_lex.proofs.RelaxedTables.{relaxed_point}
use Rattle.bz_lex.proofs.Results.{if_ok_then, if_err_then}
use Rattle.bz_lex.proofs.TruePivots.{relaxed_way_stop}
use Rattle.bz_lex.proofs.relaxing.enter_s.Goals as goal

pub pivot_towards-requires-clause-nonzero : goal.pivot_towards-requires-clause-nonzero
pivot_towards-requires-clause-nonzero c = (s_may_enter c.args.lp.now c.args.tableau.now c.requires.tableau c.requires.slacks c.args.row c.requires.least).nonzero

pub returns-clause-point : goal.returns-clause-point
returns-clause-point c = if_ok_then {P = λ x. IsPivoted c.args.tableau.now c.args.row c.args.lp.now.columns c.pivot_towards.new.tableau} {Q = λ x. HasPoint c.pivot_towards.new.tableau} c.pivot_towards.result
    (λ x p. relaxed_point c.args.lp.now c.args.tableau.now c.requires.tableau c.args.row c.pivot_towards.new.tableau p c.requires.slacks c.requires.least.inside c.requires.least.negative c.requires.least.least)
    c.pivot_towards.ensures.pivoted

pub returns-clause-refused : goal.returns-clause-refused
returns-clause-refused c =
    let refused = rw (c.as_slice.ensures.value, c.in_ok-goal.ensures, c.basis.ensures) at c.pivot_towards.ensures.refused in
    if_err_then {P = λ stop. IsWayRefusal c.args.tableau.now c.args.row c.args.lp.now.columns (set c.args.tableau.now.basis c.args.row c.args.lp.now.columns) stop} {Q = λ stop. IsFirstRelaxedStop c.args.lp.now stop} c.pivot_towards.result
    (λ stop w. relaxed_way_stop c.args.lp.now c.args.tableau.now c.requires.tableau c.args.row c.args.lp.now.columns (set c.args.tableau.now.basis c.args.row c.args.lp.now.columns) stop (s_may_enter c.args.lp.now c.args.tableau.now c.requires.tableau c.requires.slacks c.args.row c.requires.least) w)
    refused
