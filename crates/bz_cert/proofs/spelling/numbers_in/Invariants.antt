-- The bytes are those of the numbers so far, and the rest; and where the rest is no numbers, they are none.
use Rattle.std.proofs.Common.{◌≡◌, ◌++◌, ◌∷◌, length}
use Rattle.std.specs.Fmt.{signed_decimal}
use Rattle.std.specs.List.{flat_map, AllByRecursion}
use Rattle.bz_algebra.specs.Numbers.{IsNarrow}
use Rattle.bz_cert.proofs.NumberTexts.{NoNumbers}
use Rattle.bz_cert.proofs.spelling.numbers_in.Given as goal

abbrev pub invariant-numbers : goal.invariant-numbers
invariant-numbers l = record {
  spelled : l.text ≡ flat_map (λ n. 32 ∷ signed_decimal n) l.numbers.items ++ l.rest;
  narrow : AllByRecursion IsNarrow l.numbers.items;
  none : NoNumbers l.rest → NoNumbers l.text;
}

abbrev pub decreases-numbers : goal.decreases-numbers
decreases-numbers l = length l.rest
