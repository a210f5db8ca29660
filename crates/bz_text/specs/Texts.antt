-- The texts of numbers, fractions and lines.
use Rattle.std.specs.Prelude.{ℕ, ℤ, pos, ◌==◌, if◌then◌else◌, List, [], ◌∷◌, ◌++◌}
use Rattle.std.specs.Fmt.{signed_decimal}
use Rattle.std.specs.Int.RustNames.{unsigned_abs}
use Rattle.bz_algebra.specs.Fractions.{Fraction}

-- the bytes and a line feed
abbrev pub line : List ℕ → List ℕ
line bytes = bytes ++ 10 ∷ []

-- a number that isn't negative
abbrev pub number : ℕ → List ℕ
number n = signed_decimal (pos n)

-- a blank and a number
abbrev pub numbered : ℕ → List ℕ
numbered n = 32 ∷ number n

-- a text with two numbers, a blank before each
abbrev pub with_numbers : List ℕ → ℕ → ℕ → List ℕ
with_numbers text a b = text ++ numbered a ++ numbered b

-- what stands behind the numerator: nothing where the denominator is 1, and else `/` (47) and the denominator
abbrev pub over_text : ℤ → List ℕ
over_text den = (if unsigned_abs den == 1 then [] else 47 ∷ signed_decimal den)

-- `num` or `num/den`
abbrev pub fraction_text : Fraction → List ℕ
fraction_text f = signed_decimal f.num ++ over_text f.den

-- the line of a text, a blank and the fraction `num/den`
abbrev pub fraction_line : List ℕ → ℤ → ℤ → List ℕ
fraction_line name num den = line (name ++ 32 ∷ fraction_text (record { num = num; den = den }))
