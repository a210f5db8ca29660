use Rattle.std.proofs.Common.{◌≡◌}
use Rattle.bz_ending.specs.Work.{work_left}
use Rattle.bz_core.specs.Searches.{now}
use Rattle.bz_crew.specs.Alone.{IsAlone}
use Rattle.bz_crew.proofs.turning.do_all.Given as goal

abbrev pub invariant-loop : goal.invariant-loop
invariant-loop l = record {
  split : l.search.split ≡ l.fn.search.split;
  budget : l.search.budget ≡ l.fn.search.budget;
  root : l.search.root ≡ l.fn.search.root;
  alone : IsAlone l.search;
}

abbrev pub decreases-loop : goal.decreases-loop
decreases-loop l = work_left l.search.split l.search.budget (now l.search)
