use Rattle.std.proofs.Common.{◌≡◌, take}
use Rattle.bz_model.specs.Parting.{homes_of}
use Rattle.bz_model.proofs.homes.find_homes.Given as goal

abbrev pub invariant-loop-row : goal.invariant-loop-row
invariant-loop-row l = l.homes.items ≡ homes_of l.part (take l.row-index l.rows)
