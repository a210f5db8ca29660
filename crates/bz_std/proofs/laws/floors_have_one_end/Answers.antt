use Rattle.bz_std.proofs.FloorEnds.{floor_falls_or_balances, floor_not_both, floor_never_empty, floor_possible}
use Rattle.bz_std.proofs.laws.floors_have_one_end.Goals as goal

pub returns : goal.returns
returns c = record {
  either = floor_falls_or_balances;
  not_both = floor_not_both;
  possible = floor_possible;
  never_empty = floor_never_empty;
}
