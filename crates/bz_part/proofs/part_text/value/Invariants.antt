-- The digits to come, behind the value so far, spell what all digits spell, up to the most that matters.
use Rattle.std.proofs.Common.{◌≡◌, ◌≤◌, drop, min, true}
use Rattle.std.specs.List.{list_all}
use Rattle.std.specs.Str.Parse.{digits_value, digits_value_after}
use Rattle.bz_part.specs.PartitionLines.{is_digit}
use Rattle.bz_part.proofs.part_text.value.Given as goal

abbrev pub invariant-loop-digit : goal.invariant-loop-digit
invariant-loop-digit l = record {
  small : l.value ≤ 257;
  digits : list_all is_digit (drop l.digit-index l.digits) ≡ true;
  same : min (digits_value_after 10 l.value (drop l.digit-index l.digits)) 257 ≡ min (digits_value 10 l.digits) 257;
}
