use Rattle.bz_crew.proofs.SeparationFits.{separation_stops}
use Rattle.bz_crew.proofs.turning.do_separation.Goals as goal

pub give_stop-requires : goal.give_stop-requires
give_stop-requires c =
    separation_stops c.args.search.now c.args.post c.args.block c.in-Err.stop c.requires.running c.requires.task c.requires.alone c.in-Err.ensures.stopped
