use Rattle.bz_crew.proofs.Leading.{node_leads}
use Rattle.bz_crew.proofs.giving.give_node.Goals as goal

pub returns : goal.returns
returns c =
    node_leads c.args.search.now c.give_node.new.self c.next_stamp-stamp.result c.args.s.now c.in_ok-give_node.field-0 c.in-Done.entries c.in-Done.is c.next_stamp-stamp.ensures
    c.history-history.ensures.kept c.requires.promise c.requires.rules c.requires.alone c.in_ok-give_node.ensures.given
