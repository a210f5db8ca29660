use Rattle.bz_std.proofs.LeavesMade.{least_leaf, least_delta, least_bound, empty_leaf}
use Rattle.bz_std.proofs.laws.made_leaves_hold.Goals as goal

pub returns : goal.returns
returns c = record {
  least = λ m part box cuts v den y by leaf d k a l. least_leaf m part d box cuts k v den y by leaf a l;
  delta = least_delta;
  bound = least_bound;
  empty = λ m part box cuts way y leaf d k a l. empty_leaf m part d box cuts k way y leaf a l;
}
