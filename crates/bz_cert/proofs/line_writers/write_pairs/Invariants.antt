-- The pairs so far stand behind the bytes of before, and their indexes are below 2 ^ 32.
use Rattle.std.proofs.Common.{◌^◌, take}
use Rattle.bz_algebra.specs.Sums.{AllBelow}
use Rattle.bz_cert.specs.CertWriting.{AddsNumbers, pair_numbers}
use Rattle.bz_cert.proofs.line_writers.write_pairs.Given as goal

abbrev pub invariant-pairs : goal.invariant-pairs
invariant-pairs l = record {
  text : AddsNumbers l.initial.out.items (pair_numbers (take l.pair-index l.pairs)) l.out.items;
  indexes : AllBelow (2 ^ 32) (take l.pair-index l.pairs);
}
