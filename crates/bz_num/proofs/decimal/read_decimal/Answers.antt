-- One more byte is one more step, and the end answers of the whole text.
use Rattle.std.proofs.Common.{◌<◌, ◌^◌, [], Err, length, sym, subst, arith}
use Rattle.bz_num.specs.declared.decimal.NumFault.TheVariants.{Form}
use Rattle.bz_num.specs.Decimals.{IsStop}
use Rattle.bz_num.proofs.DecimalEnds.{EndTells, end-at, stop-at, read-at}
use Rattle.bz_num.proofs.DecimalLaws.{spelled-from_result, within-from_result, fault-from_result, read-from_result, refused-from_result}
use Rattle.bz_num.proofs.DecimalReadings.{IsRead, read-start}
use Rattle.bz_num.proofs.decimal.read_decimal.Goals as goal

pub loop-at-init : goal.loop-at-init
loop-at-init c = subst (IsRead []) (sym c.new-reading.ensures) read-start

stop : (c : goal.In-None) → IsStop c.args.text.now c.loop-at.at
stop c =
    stop-at c.args.text.now c.loop-at.at c.loop-at.reading c.loop-at-test.true c.loop-at.invariant c.in-None.ensures

pub returns-in-None-clause-fault : goal.returns-in-None-clause-fault
returns-in-None-clause-fault c = stop c

pub returns-in-None-clause-read : goal.returns-in-None-clause-read
returns-in-None-clause-read c = read-from_result c.args.text.now (Err (Form c.loop-at.at)) (stop c)

pub returns-in-None-clause-refused : goal.returns-in-None-clause-refused
returns-in-None-clause-refused c = refused-from_result c.args.text.now (Err (Form c.loop-at.at)) (stop c)

pub loop-at-preserved : goal.loop-at-preserved
loop-at-preserved c =
    read-at c.args.text.now c.loop-at.at c.loop-at.reading c.in-Some.more c.loop-at-test.true c.loop-at.invariant c.in-Some.ensures

tells : (c : goal.After-end) → EndTells c.args.text.now c.end.result
tells c =
    let short : length c.args.text.now < 2 ^ 64 = omega arith in
    end-at c.args.text.now c.loop-at.at c.loop-at.reading c.end.result c.loop-at-test.false c.loop-at.invariant short c.end.ensures

pub returns-clause-spelled : goal.returns-clause-spelled
returns-clause-spelled c = spelled-from_result c.args.text.now c.end.result (tells c)

pub returns-clause-within : goal.returns-clause-within
returns-clause-within c = within-from_result c.args.text.now c.end.result (tells c)

pub returns-clause-fault : goal.returns-clause-fault
returns-clause-fault c = fault-from_result c.args.text.now c.end.result (tells c)

pub returns-clause-read : goal.returns-clause-read
returns-clause-read c = read-from_result c.args.text.now c.end.result (tells c)

pub returns-clause-refused : goal.returns-clause-refused
returns-clause-refused c = refused-from_result c.args.text.now c.end.result (tells c)
