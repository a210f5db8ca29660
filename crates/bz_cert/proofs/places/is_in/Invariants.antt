-- The word is one of the words to come exactly where it is one of all.
use Rattle.std.proofs.Common.{drop, ◌↔◌}
use Rattle.bz_cert.specs.CertFaults.{IsIn}
use Rattle.bz_cert.proofs.places.is_in.Given as goal

abbrev pub invariant-loop-w : goal.invariant-loop-w
invariant-loop-w l = IsIn (drop l.w-index l.words) l.word ↔ IsIn l.words l.word
