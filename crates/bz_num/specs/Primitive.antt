-- Rows and their common divisors.
use Rattle.std.specs.Prelude.{ℕ, ℤ, ◌*ℤ◌, List, [], ◌∷◌}
use Rattle.std.specs.Int.{◌∣◌}
use Rattle.std.specs.Int.RustNames.{unsigned_abs}

-- d divides each number of the entries
abbrev pub DividesAll : ℕ → List (ℕ × ℤ) → Type 0
DividesAll d [] = Unit {0}
DividesAll d (e ∷ es) = (d ∣ unsigned_abs e.1) × DividesAll d es

-- g is the greatest common divisor of a row's numbers and its right side
pub record IsRowGcd (g : ℕ) (es : List (ℕ × ℤ)) (rhs : ℤ) : Type 0 where
  pub numbers : DividesAll g es
  pub side : g ∣ unsigned_abs rhs
  pub greatest : (d : ℕ) → DividesAll d es → d ∣ unsigned_abs rhs → d ∣ g

-- the entries with each number g times as large
abbrev pub times_entries : ℤ → List (ℕ × ℤ) → List (ℕ × ℤ)
times_entries g [] = []
times_entries g (e ∷ es) = (e.0, g *ℤ e.1) ∷ times_entries g es
