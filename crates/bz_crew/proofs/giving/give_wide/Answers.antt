use Rattle.bz_crew.proofs.Leading.{stop_leads}
use Rattle.bz_crew.proofs.giving.give_wide.Goals as goal

pub returns : goal.returns
returns c =
    stop_leads c.args.search.now c.give_stop.new.self c.next_stamp-stamp.result c.args.s.now c.in_ok-give_stop.field-0 c.in-Done.entries c.in-Done.is c.next_stamp-stamp.ensures
    c.history-history.ensures.kept c.requires c.in_ok-give_stop.ensures.given
