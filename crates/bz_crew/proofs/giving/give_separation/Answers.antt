use Rattle.bz_crew.proofs.Leading.{separation_leads}
use Rattle.bz_crew.proofs.giving.give_separation.Goals as goal

pub returns : goal.returns
returns c =
    separation_leads c.args.search.now c.give_sep.new.self c.next_stamp-stamp.result c.args.s.now c.in_ok-give_sep.field-0 c.in-Done.entries c.in-Done.is c.next_stamp-stamp.ensures
    c.history-history.ensures.kept c.requires.promise c.requires.rules c.requires.live c.requires.alone c.in_ok-give_sep.ensures.given
