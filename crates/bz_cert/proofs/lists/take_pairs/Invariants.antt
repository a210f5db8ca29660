-- The numbers are those of the pairs so far, and the rest; and where the pairs to come do not stand there, they do not
-- all stand in front.
use Rattle.std.proofs.Common.{◌≡◌, ◌+◌, ℕ}
use Rattle.bz_cert.specs.CertReading.{BeginsWithPairs}
use Rattle.bz_cert.proofs.SparseLists.{NoPairs}
use Rattle.bz_cert.proofs.lists.take_pairs.Given as goal

abbrev pub invariant-pairs : goal.invariant-pairs
invariant-pairs l = record {
  so_far : BeginsWithPairs l.counter l.pairs.items l.numbers l.rest;
  none : (more : ℕ) → more + l.counter ≡ l.count → NoPairs more l.rest → NoPairs l.count l.numbers;
}
