-- Each turn meets a basis more.
use Rattle.std.proofs.Common.{◌≡◌, ◌∙◌, sym, suc, add-one}
use Rattle.bz_tableau.specs.Tables.{factor_column}
use Rattle.bz_lex.proofs.PhaseTurns.{IsUnderWay, way_first, way_table, way_once, way_next, way_few, way_side, left_less}
use Rattle.bz_lex.proofs.phase.turns.Goals as goal

pub loop-share-init : goal.loop-share-init
loop-share-init g c = record {
  part = c.open-met.ensures.parts ∙ c.requires.part;
  way = rw c.open-met.ensures.total (way_first c.args.tableau.now c.args.first.now c.requires.first c.requires.phase);
}

pub returns-in_err-end-clause-once : goal.returns-in_err-end-clause-once
returns-in_err-end-clause-once g c = rw c.in_err-end.ensures.unchanged (way_once c.args.tableau.now c.args.first.now c.loop-share.met.total c.loop-share.tableau c.loop-share.invariant.way c.requires.phase c.requires.first)

pub returns-in_err-end-clause-table : goal.returns-in_err-end-clause-table
returns-in_err-end-clause-table g c = rw c.in_err-end.ensures.unchanged (way_table c.args.tableau.now c.args.first.now c.loop-share.met.total c.loop-share.tableau c.loop-share.invariant.way c.requires.phase)

pub returns-in-Some-clause-table : goal.returns-in-Some-clause-table
returns-in-Some-clause-table g c =
    let turned = rw c.in-Some.is at c.in_ok-end.ensures.turned in
    rw turned.0 (way_table c.args.tableau.now c.args.first.now c.loop-share.met.total c.loop-share.tableau c.loop-share.invariant.way c.requires.phase)

pub returns-in-Some-clause-once : goal.returns-in-Some-clause-once
returns-in-Some-clause-once g c =
    let turned = rw c.in-Some.is at c.in_ok-end.ensures.turned in
    rw turned.0 (way_once c.args.tableau.now c.args.first.now c.loop-share.met.total c.loop-share.tableau c.loop-share.invariant.way c.requires.phase c.requires.first)

pub loop-share-smaller : goal.loop-share-smaller
loop-share-smaller g c =
    let turned = rw c.in_default.is at c.in_ok-end.ensures.turned in
    let next : IsUnderWay c.args.tableau.now c.args.first.now (suc c.loop-share.met.total) c.turn.new.tableau = way_next c.args.tableau.now c.args.first.now c.loop-share.met.total c.loop-share.tableau c.loop-share.invariant.way c.turn.new.tableau turned in
    let side : factor_column c.turn.new.tableau ≡ factor_column c.loop-share.tableau =
    way_side c.args.tableau.now c.args.first.now (suc c.loop-share.met.total) c.turn.new.tableau next ∙ sym (way_side c.args.tableau.now c.args.first.now c.loop-share.met.total c.loop-share.tableau c.loop-share.invariant.way) in
    rw (c.add.ensures.total, add-one) (left_less c.loop-share.met.total (factor_column c.loop-share.tableau) (factor_column c.turn.new.tableau) side (way_few c.args.tableau.now c.args.first.now (suc c.loop-share.met.total) c.turn.new.tableau next c.requires.phase))

pub loop-share-preserved : goal.loop-share-preserved
loop-share-preserved g c =
    let turned = rw c.in_default.is at c.in_ok-end.ensures.turned in
    record {
      part = c.add.ensures.parts ∙ c.loop-share.invariant.part;
      way = rw (c.add.ensures.total, add-one) (way_next c.args.tableau.now c.args.first.now c.loop-share.met.total c.loop-share.tableau c.loop-share.invariant.way c.turn.new.tableau turned);
    }
