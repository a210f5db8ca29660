use Rattle.std.proofs.Common.{◌≡◌, ◌≤◌, ◌+◌, drop}
use Rattle.bz_history.specs.Histories.{count_of}
use Rattle.bz_core.proofs.reading.count_entries.Given as goal

abbrev pub invariant-loop-entry : goal.invariant-loop-entry
invariant-loop-entry l =
    (l.count + count_of l.worker (drop l.entry-index l.history) ≡ count_of l.worker l.history) × (l.count ≤ l.entry-index)
