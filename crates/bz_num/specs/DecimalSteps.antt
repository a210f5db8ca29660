-- The steps of the reader of decimals, which its private functions cite; what it reads is in Decimals.antt.
use Rattle.std.specs.Prelude.{ℕ, ◌+◌, ◌-◌, ◌*◌, ◌^◌, Bool, true, false, ◌&&◌, ◌||◌, nat_lt, nat_le, ◌==◌, Option, Some, None, ℤ, pos, ◌+ℤ◌, ◌-ℤ◌, Result, Ok, Err, if◌then◌else◌}
use Rattle.std.proofs.Math.IntN.{neg_ℤ}
use Rattle.std.specs.Int.RustNames.{unsigned_abs}
use Rattle.bz_num.specs.declared.decimal.Dec.{Dec}
use Rattle.bz_num.specs.declared.decimal.NumFault.{NumFault}
use Rattle.bz_num.specs.declared.decimal.NumFault.TheVariants.{Form, TooWide}
use Rattle.bz_num.specs.declared.digits.Kind.{Kind}
use Rattle.bz_num.specs.declared.digits.Kind.TheVariants.{Digit, PlusMinus, Point, Mark}
use Rattle.bz_num.specs.declared.digits.State.{State}
use Rattle.bz_num.specs.declared.digits.State.TheVariants.{Start, Signed, Whole, Pointed, Part, Marked, MarkSigned, Powered}
use Rattle.bz_num.specs.declared.digits.Mantissa.{Mantissa}
use Rattle.bz_num.specs.declared.digits.Reading.{Reading}

-- what a byte may be in a decimal
abbrev pub kind_of : ℕ → Option Kind
kind_of b =
    (if nat_le 48 b && nat_le b 57 then Some (Digit (b - 48)) else if b == 43 then Some (PlusMinus false) else if b == 45 then Some (PlusMinus true) else if b == 46 then Some Point else if (b == 101) || (b == 69) || (b == 100) || (b == 68) then Some Mark else None)

-- the number, if it is below 10 ^ 30
abbrev pub if_narrow : ℕ → Option ℕ
if_narrow n = (if nat_lt n (10 ^ 30) then Some n else None)

-- so many zeros and a digit behind the number
abbrev pub shifted_on : Option ℕ → ℕ → ℕ → Option ℕ
shifted_on None z digit = None
shifted_on (Some n) z digit = if_narrow (n * 10 ^ (z + 1) + digit)

-- one more digit of a mantissa
abbrev pub pushed : Mantissa → ℕ → Mantissa
pushed m digit =
    (if digit == 0 then record { number = m.number; zeros = m.zeros + 1 } else record { number = shifted_on m.number m.zeros digit; zeros = 0 })

-- the number, or 10 ^ 20 where it is larger
abbrev pub capped : ℕ → ℕ
capped n = (if nat_lt n (10 ^ 20) then n else 10 ^ 20)

abbrev pub with_state : State → Reading → Reading
with_state q r = record { state = q; minus = r.minus; mantissa = r.mantissa; places = r.places; power_minus = r.power_minus; power = r.power }

abbrev pub with_whole : ℕ → Reading → Reading
with_whole d r = record { state = Whole; minus = r.minus; mantissa = pushed r.mantissa d; places = r.places; power_minus = r.power_minus; power = r.power }

abbrev pub with_part : ℕ → Reading → Reading
with_part d r = record { state = Part; minus = r.minus; mantissa = pushed r.mantissa d; places = r.places + 1; power_minus = r.power_minus; power = r.power }

abbrev pub with_power : ℕ → Reading → Reading
with_power d r = record { state = Powered; minus = r.minus; mantissa = r.mantissa; places = r.places; power_minus = r.power_minus; power = capped (10 * r.power + d) }

abbrev pub with_sign : Bool → Reading → Reading
with_sign b r = record { state = Signed; minus = b; mantissa = r.mantissa; places = r.places; power_minus = r.power_minus; power = r.power }

abbrev pub with_power_sign : Bool → Reading → Reading
with_power_sign b r = record { state = MarkSigned; minus = r.minus; mantissa = r.mantissa; places = r.places; power_minus = b; power = r.power }

-- one more byte in a state
abbrev pub read_in : State → Reading → Kind → Option Reading
read_in Start r (Digit d) = Some (with_whole d r)
read_in Signed r (Digit d) = Some (with_whole d r)
read_in Whole r (Digit d) = Some (with_whole d r)
read_in Pointed r (Digit d) = Some (with_part d r)
read_in Part r (Digit d) = Some (with_part d r)
read_in Marked r (Digit d) = Some (with_power d r)
read_in MarkSigned r (Digit d) = Some (with_power d r)
read_in Powered r (Digit d) = Some (with_power d r)
read_in Start r (PlusMinus b) = Some (with_sign b r)
read_in Marked r (PlusMinus b) = Some (with_power_sign b r)
read_in _ r (PlusMinus b) = None
read_in Start r Point = Some (with_state Pointed r)
read_in Signed r Point = Some (with_state Pointed r)
read_in Whole r Point = Some (with_state Part r)
read_in _ r Point = None
read_in Whole r Mark = Some (with_state Marked r)
read_in Part r Mark = Some (with_state Marked r)
read_in _ r Mark = None

-- one more byte, where some decimal goes on so
abbrev pub read_on : Reading → Option Kind → Option Reading
read_on r None = None
read_on r (Some k) = read_in r.state r k

-- nothing was read
abbrev pub start : Reading
start = record { state = Start; minus = false; mantissa = record { number = Some 0; zeros = 0 }; places = 0; power_minus = false; power = 0 }

abbrev pub signed_as : Bool → ℕ → ℤ
signed_as true n = neg_ℤ (pos n)
signed_as false n = pos n

-- the exponent of the mantissa without its zeros
abbrev pub exponent_of : Reading → ℤ
exponent_of r = (signed_as r.power_minus r.power -ℤ pos r.places) +ℤ pos r.mantissa.zeros

-- the decimal, if it is not too wide
abbrev pub decimal_of : Option ℕ → Bool → ℤ → Result Dec NumFault
decimal_of None minus e = Err TooWide
decimal_of (Some n) minus e =
    (if n == 0 then Ok (record { mant = pos 0; exp = pos 0 }) else if nat_lt 30 (unsigned_abs e) then Err TooWide else Ok (record { mant = signed_as minus n; exp = e }))

abbrev pub value_of : Reading → Result Dec NumFault
value_of r = decimal_of r.mantissa.number r.minus (exponent_of r)

abbrev pub end_in : State → Reading → ℕ → Result Dec NumFault
end_in Whole r length = value_of r
end_in Part r length = value_of r
end_in Powered r length = value_of r
end_in _ r length = Err (Form length)

-- the decimal of a text of that length, of which all was read
abbrev pub end_of : Reading → ℕ → Result Dec NumFault
end_of r length = end_in r.state r length
