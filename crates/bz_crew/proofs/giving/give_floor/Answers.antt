use Rattle.bz_crew.proofs.Leading.{floor_leads}
use Rattle.bz_crew.proofs.giving.give_floor.Goals as goal

pub returns : goal.returns
returns c =
    floor_leads c.args.search.now c.give_floor.new.self c.next_stamp-stamp.result c.args.s.now c.in_ok-give_floor.field-0 c.in-Done.entries c.in-Done.is c.next_stamp-stamp.ensures
    c.history-history.ensures.kept c.requires.promise c.requires.rules c.requires.alone c.in_ok-give_floor.ensures.given
