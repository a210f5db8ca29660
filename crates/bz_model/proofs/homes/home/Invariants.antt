use Rattle.std.proofs.Common.{◌≡◌, drop}
use Rattle.bz_model.specs.Parting.{home_of}
use Rattle.bz_model.proofs.homes.home.Given as goal

abbrev pub invariant-loop-entry : goal.invariant-loop-entry
invariant-loop-entry l = home_of l.part (drop l.entry-index l.entry-items) ≡ home_of l.part l.entry-items
