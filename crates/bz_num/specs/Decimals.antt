-- Decimals: which texts spell one, and which number they spell.
use Rattle.std.specs.Prelude.{ℕ, ℤ, pos, ◌≡◌, ◌<◌, ◌≤◌, ◌+◌, ◌^◌, ◌*ℤ◌, ◌+ℤ◌, ◌-ℤ◌, ◌⊎◌, Option, Some, None, List, [], ◌∷◌, ◌++◌, length, take}
use Rattle.std.specs.Int.{◌∣◌}
use Rattle.std.specs.Int.RustNames.{unsigned_abs}
use Rattle.std.specs.Str.Parse.{digits_value, AllDigits}
use Rattle.std.proofs.Math.IntN.{neg_ℤ}
use Rattle.bz_num.specs.declared.decimal.Dec.{Dec}
use Rattle.bz_num.specs.declared.decimal.NumFault.{NumFault}
use Rattle.bz_num.specs.declared.decimal.NumFault.TheVariants.{Form, TooWide}

-- a sign, or none
pub data Sign : Type 0 where
  unsigned : Sign
  plus : Sign
  minus : Sign

-- nothing, `+` (43) or `-` (45)
abbrev pub sign_bytes : Sign → List ℕ
sign_bytes unsigned = []
sign_bytes plus = 43 ∷ []
sign_bytes minus = 45 ∷ []

-- the number with the sign
abbrev pub signed : Sign → ℕ → ℤ
signed unsigned n = pos n
signed plus n = pos n
signed minus n = neg_ℤ (pos n)

-- a power of ten: its mark, its sign and its digits
pub record Power : Type 0 where
  pub mark : ℕ
  pub sign : Sign
  pub digits : List ℕ

-- the parts of a decimal: its sign, the digits before the point, those behind it where there is a point, and the power
-- of ten where there is one
pub record Spelling : Type 0 where
  pub sign : Sign
  pub whole : List ℕ
  pub part : Option (List ℕ)
  pub power : Option Power

-- the point (46) and the digits behind it
abbrev pub part_bytes : Option (List ℕ) → List ℕ
part_bytes None = []
part_bytes (Some digits) = 46 ∷ digits

-- the mark, the sign and the digits of the power
abbrev pub power_bytes : Option Power → List ℕ
power_bytes None = []
power_bytes (Some p) = p.mark ∷ sign_bytes p.sign ++ p.digits

-- the text of the parts
abbrev pub bytes_of : Spelling → List ℕ
bytes_of s = sign_bytes s.sign ++ s.whole ++ part_bytes s.part ++ power_bytes s.power

-- the digits behind the point
abbrev pub part_digits : Option (List ℕ) → List ℕ
part_digits None = []
part_digits (Some digits) = digits

-- one of `E` (69), `e` (101), `D` (68) and `d` (100)
abbrev pub IsMark : ℕ → Type 0
IsMark b = (b ≡ 69) ⊎ (b ≡ 101) ⊎ (b ≡ 68) ⊎ (b ≡ 100)

-- the power is a mark, a sign or none, and digits
pub record IsPower (p : Power) : Type 0 where
  pub mark : IsMark p.mark
  pub digits : AllDigits 10 p.digits
  pub some : 0 < length p.digits

-- there is no power, or it is one
abbrev pub MayBePower : Option Power → Type 0
MayBePower None = Unit {0}
MayBePower (Some p) = IsPower p

-- the parts are those of a decimal: digits, at least one before or behind the point, and maybe a power of ten
pub record IsSpelling (s : Spelling) : Type 0 where
  pub whole : AllDigits 10 s.whole
  pub part : AllDigits 10 (part_digits s.part)
  pub some : 0 < length s.whole + length (part_digits s.part)
  pub power : MayBePower s.power

-- the number of all digits, with the sign
abbrev pub mantissa : Spelling → ℤ
mantissa s = signed s.sign (digits_value 10 (s.whole ++ part_digits s.part))

-- the number of the power, 0 where there is none
abbrev pub power_of : Option Power → ℤ
power_of None = pos 0
power_of (Some p) = signed p.sign (digits_value 10 p.digits)

-- the exponent that goes with it: the power, less one for each digit behind the point
abbrev pub exponent : Spelling → ℤ
exponent s = power_of s.power -ℤ pos (length (part_digits s.part))

-- the decimal is n * 10 ^ e, with the zeros at the end of n moved to the exponent
pub record HasZerosMoved (n e : ℤ) (d : Dec) : Type 0 where
  pub zeros : ℕ
  pub number : n ≡ d.mant *ℤ pos (10 ^ zeros)
  pub exp : d.exp ≡ e +ℤ pos zeros
  pub last : 10 ∣ unsigned_abs d.mant → ⊥

-- the decimal is n and e, both of them 0
pub record IsZero (n : ℤ) (d : Dec) : Type 0 where
  pub number : n ≡ pos 0
  pub mant : d.mant ≡ pos 0
  pub exp : d.exp ≡ pos 0

-- the decimal is n * 10 ^ e in its least form: no zero at the end of its mantissa, or zero with exponent 0
abbrev pub IsReduced : ℤ → ℤ → Dec → Type 0
IsReduced n e d = IsZero n d ⊎ HasZerosMoved n e d

-- the parts are those of a decimal, and the text is theirs
pub record Spells (s : Spelling) (text : List ℕ) : Type 0 where
  pub parts : IsSpelling s
  pub bytes : text ≡ bytes_of s

-- the text is a decimal
pub record IsDecimalText (text : List ℕ) : Type 0 where
  pub spelling : Spelling
  pub spells : Spells spelling text

-- the text is a decimal, and d is its value
pub record IsDecimal (text : List ℕ) (d : Dec) : Type 0 where
  pub spelling : Spelling
  pub spells : Spells spelling text
  pub value : IsReduced (mantissa spelling) (exponent spelling) d

-- the decimal is within the limits that are read
pub record IsWithinLimits (d : Dec) : Type 0 where
  pub mant : unsigned_abs d.mant < 10 ^ 30
  pub exp : unsigned_abs d.exp ≤ 30

-- some bytes behind these make them a decimal
pub record BeginsDecimal (bytes : List ℕ) : Type 0 where
  pub behind : List ℕ
  pub whole : IsDecimalText (bytes ++ behind)

-- the text is no decimal, and stops being the beginning of one at this offset, or has this length
pub record IsStop (text : List ℕ) (at : ℕ) : Type 0 where
  pub none : IsDecimalText text → ⊥
  pub inside : at ≤ length text
  pub begins : BeginsDecimal (take at text)
  pub stops : at < length text → BeginsDecimal (take (at + 1) text) → ⊥

-- the text is a decimal that is outside of the limits
pub record IsTooWide (text : List ℕ) : Type 0 where
  pub decimal : Dec
  pub spelled : IsDecimal text decimal
  pub outside : IsWithinLimits decimal → ⊥

-- the text has the fault
abbrev pub IsNumFault : List ℕ → NumFault → Type 0
IsNumFault text (Form at) = IsStop text at
IsNumFault text TooWide = IsTooWide text
