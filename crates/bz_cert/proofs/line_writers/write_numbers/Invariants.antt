-- The numbers so far stand behind the bytes of before.
use Rattle.std.proofs.Common.{take}
use Rattle.bz_cert.specs.CertWriting.{AddsNumbers}
use Rattle.bz_cert.proofs.line_writers.write_numbers.Given as goal

abbrev pub invariant-numbers : goal.invariant-numbers
invariant-numbers l = AddsNumbers l.initial.out.items (take l.number-index l.numbers) l.out.items
