use Rattle.bz_cert.proofs.Written.{cut_added, ok_also}
use Rattle.bz_cert.proofs.line_writers.write_cut.Goals as goal

pub returns-clause-text : goal.returns-clause-text
returns-clause-text c =
    ok_also c.end_line.result _ _
    (λ feed. cut_added _ _ _ _ _ _ c.args.cut.now c.in_ok-begin_line.ensures c.in_ok-write_cut_front.ensures.text c.in_ok-write_list.ensures.text
    c.in_ok-write_list-2.ensures.text feed)
    c.end_line.ensures
