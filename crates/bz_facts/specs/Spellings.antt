-- The numbers that fields spell.
use Rattle.std.specs.Prelude.{ℕ, ℤ, pos, ◌^◌, ◌*ℤ◌, ◌+ℤ◌, Bool, true, false, nat_le, int_lt, fold, length, List, Some, option_and_then, Result, Ok, Err}
use Rattle.std.specs.Int.RustNames.{unsigned_abs}
use Rattle.std.specs.Option.{option_map_or}
use Rattle.bz_num.specs.declared.decimal.Dec.{Dec}
use Rattle.bz_num.specs.declared.decimal.NumFault.{NumFault}
use Rattle.bz_num.specs.declared.decimal.NumFault.TheVariants.{Form, TooWide as NumTooWide}
use Rattle.bz_num.specs.Decimals.{IsDecimal, IsDecimalText, IsTooWide, IsWithinLimits}
use Rattle.bz_num.specs.DecimalSteps.{end_of, kind_of, read_on, start}

-- What a field is as a number: a decimal within the limits, one that is outside of them, or none.
pub data Spelled : Type 0 where
  number : Dec → Spelled
  too_wide : Spelled
  no_number : Spelled

-- the field is that
abbrev pub IsSpelled : List ℕ → Spelled → Type 0
IsSpelled word (number d) = IsDecimal word d × IsWithinLimits d
IsSpelled word too_wide = IsTooWide word
IsSpelled word no_number = IsDecimalText word → ⊥

abbrev pub as_spelled : Result Dec NumFault → Spelled
as_spelled (Ok d) = number d
as_spelled (Err (Form at)) = no_number
as_spelled (Err NumTooWide) = too_wide

-- What a field is as a number, byte by byte. That it is so is a law, `fields_spell_one_number`: IsSpelled holds of each
-- field of fewer than 2^64 bytes and what it is, and of nothing else.
unfoldable pub spelled : List ℕ → Spelled
spelled word =
    option_map_or (λ r. as_spelled (end_of r (length word))) (fold (λ o b. option_and_then (λ r. read_on r (kind_of b)) o) (Some start) word) no_number

abbrev pub is_no_number : Spelled → Bool
is_no_number (number d) = false
is_no_number too_wide = false
is_no_number no_number = true

abbrev pub is_too_wide : Spelled → Bool
is_too_wide (number d) = false
is_too_wide too_wide = true
is_too_wide no_number = false

-- 0, as a decimal
abbrev pub zero_dec : Dec
zero_dec = record { mant = pos 0; exp = pos 0 }

-- the number, 0 where there is none
abbrev pub value : Spelled → Dec
value (number d) = d
value too_wide = zero_dec
value no_number = zero_dec

-- the decimal, 10^30 times as large: a whole number where the exponent is -30 or more
abbrev pub at_thirty : Dec → ℤ
at_thirty d = d.mant *ℤ pos (10 ^ unsigned_abs (d.exp +ℤ pos 30))

-- a decimal of size 10^20 or more
abbrev pub is_infinite : Dec → Bool
is_infinite d = nat_le (10 ^ 50) (unsigned_abs (at_thirty d))

-- a negative decimal
abbrev pub is_below_zero : Dec → Bool
is_below_zero d = int_lt d.mant (pos 0)
