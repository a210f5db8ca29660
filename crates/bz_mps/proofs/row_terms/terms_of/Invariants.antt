use Rattle.std.proofs.Common.{◌≡◌, false, take}
use Rattle.bz_mps.specs.ScaledRows.{has_wide_term, terms_by}
use Rattle.bz_mps.proofs.row_terms.terms_of.Given as goal

abbrev pub invariant-loop-entry : goal.invariant-loop-entry
invariant-loop-entry l = record {
  terms : l.terms.items ≡ terms_by l.digits (take l.entry-index l.entries);
  narrow : has_wide_term (terms_by l.digits (take l.entry-index l.entries)) ≡ false;
}
