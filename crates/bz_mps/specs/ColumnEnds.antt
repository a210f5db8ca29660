-- The bounds of a column: what its own bound lines make of them, in order.
use Rattle.std.specs.Prelude.{ℕ, pos, ◌^◌, ◌*ℤ◌, ◌≡◌, Bool, true, false, ◌&&◌, ◌||◌, ◌==◌, not, int_lt, fold, filter, List, [], ◌∷◌, Option, Some, None, if◌then◌else◌}
use Rattle.std.specs.Int.{◌∣◌}
use Rattle.std.specs.Int.RustNames.{unsigned_abs}
use Rattle.std.specs.List.{last_or, list_any}
use Rattle.bz_num.specs.declared.Dec.{Dec}
use Rattle.bz_num.specs.declared.Frac.{Frac}
use Rattle.bz_facts.specs.declared.BoundLine.{BoundLine}
use Rattle.bz_facts.specs.declared.BoundType.{BoundType}
use Rattle.bz_facts.specs.declared.BoundType.TheVariants.{Up, Lo, Fx, Fr, Mi, Pl, Bv, Li, Ui}
use Rattle.bz_mps.specs.declared.column_ends.Ends.{Ends}
use Rattle.bz_facts.specs.Spellings.{at_thirty, is_below_zero, zero_dec}

-- 1, as a decimal
abbrev pub one_dec : Dec
one_dec = record { mant = pos 1; exp = pos 0 }

-- what a bound line of this kind, with its number where it has one, makes of the bounds
abbrev pub bounded : BoundType → Option Dec → Ends → Ends
bounded Up n e = record { lower = e.lower; upper = n }
bounded Ui n e = record { lower = e.lower; upper = n }
bounded Lo n e = record { lower = n; upper = e.upper }
bounded Li n e = record { lower = n; upper = e.upper }
bounded Fx n e = record { lower = n; upper = n }
bounded Fr n e = record { lower = None; upper = None }
bounded Mi n e = record { lower = None; upper = e.upper }
bounded Pl n e = record { lower = e.lower; upper = None }
bounded Bv n e = record { lower = Some zero_dec; upper = Some one_dec }

-- a column starts with the lower bound 0 and no upper one
abbrev pub starting : Ends
starting = record { lower = Some zero_dec; upper = None }

-- the bounds of a column with these bound lines: an integer column without any has 0 and 1
abbrev pub ends_by : Bool → List BoundLine → Ends
ends_by marked [] = if marked then record { lower = Some zero_dec; upper = Some one_dec } else starting
ends_by marked (b ∷ bs) = fold (λ e l. bounded l.kind l.number e) starting (b ∷ bs)

-- the bound lines of a column
abbrev pub lines_at : ℕ → List BoundLine → List BoundLine
lines_at j lines = filter (λ b. b.column == j) lines

-- a kind that makes its column an integer
abbrev pub makes_integer : BoundType → Bool
makes_integer Bv = true
makes_integer Li = true
makes_integer Ui = true
makes_integer _ = false

-- the column is an integer: by a marker or by one of its bound lines
abbrev pub is_integer : Bool → List BoundLine → Bool
is_integer marked lines = marked || list_any (λ b. makes_integer b.kind) lines

-- a kind that says something of the lower bound
abbrev pub speaks_of_lower : BoundType → Bool
speaks_of_lower Lo = true
speaks_of_lower Fx = true
speaks_of_lower Fr = true
speaks_of_lower Mi = true
speaks_of_lower Bv = true
speaks_of_lower Li = true
speaks_of_lower Up = false
speaks_of_lower Ui = false
speaks_of_lower Pl = false

-- the bound is there and below zero
abbrev pub is_negative : Option Dec → Bool
is_negative None = false
is_negative (Some d) = is_below_zero d

-- both are there, and the first is the greater
abbrev pub is_above : Option Dec → Option Dec → Bool
is_above (Some a) (Some b) = int_lt (at_thirty b) (at_thirty a)
is_above _ _ = false

-- The upper bound is negative, and no line speaks of the lower one. It was then set by UP or UI: every other kind that sets
-- an upper bound speaks of the lower one too.
abbrev pub has_negative_upper : Ends → List BoundLine → Bool
has_negative_upper e lines = is_negative e.upper && not (list_any (λ b. speaks_of_lower b.kind) lines)

abbrev pub number_of_line : Option BoundLine → ℕ
number_of_line None = 0
number_of_line (Some b) = b.line

-- the number of the last of the lines
abbrev pub last_bound_line : List BoundLine → ℕ
last_bound_line lines = number_of_line (last_or None lines)

-- the fraction is the decimal, in lowest terms
pub record IsFractionOf (d : Dec) (f : Frac) : Type 0 where
  pub value : f.num *ℤ pos (10 ^ 30) ≡ at_thirty d *ℤ f.den
  pub lowest : (k : ℕ) → k ∣ unsigned_abs f.num → k ∣ unsigned_abs f.den → k ≡ 1

-- the bound of a model's column is this one
abbrev pub IsBound : Option Dec → Option Frac → Type 0
IsBound None None = Unit {0}
IsBound None (Some f) = ⊥
IsBound (Some d) None = ⊥
IsBound (Some d) (Some f) = IsFractionOf d f
