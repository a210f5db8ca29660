use Rattle.bz_std.proofs.Combined.{empty_excludes, rise_bounds, rise_excludes, rise_meets, least_bounds}
use Rattle.bz_std.proofs.laws.points_are_decided.Goals as goal

pub returns : goal.returns
returns c = record {
  empty = empty_excludes;
  rises = rise_excludes;
  stands = rise_meets;
  rise_is_least = rise_bounds;
  least = least_bounds;
}
