use Rattle.std.proofs.Common.{◌≡◌, fold, max, take}
use Rattle.bz_mps.specs.ScaledRows.{digits_behind_point}
use Rattle.bz_mps.proofs.row_terms.digits_of_entries.Given as goal

abbrev pub invariant-loop-entry : goal.invariant-loop-entry
invariant-loop-entry l = l.digits ≡ fold (λ k e. max k (digits_behind_point e.number)) 0 (take l.entry-index l.entries)
