-- The rows and the objective of a model, each multiplied by the least power of ten that makes its numbers whole.
use Rattle.std.specs.Prelude.{ℕ, ℤ, pos, ◌^◌, ◌*ℤ◌, ◌+ℤ◌, ◌-ℤ◌, Bool, false, ◌||◌, ◌==◌, not, int_lt, nat_lt, max, fold, filter, find, map, List, ◌∷◌, ◌++◌, Option, Some, None, option_map, option_to_list, unwrap_or, if◌then◌else◌}
use Rattle.std.specs.Int.RustNames.{unsigned_abs}
use Rattle.std.specs.List.{enumerate_from, list_any, position_or_len}
use Rattle.std.proofs.Math.IntN.{neg_ℤ}
use Rattle.bz_num.specs.Fold.{is_wide}
use Rattle.bz_num.specs.declared.Dec.{Dec}
use Rattle.bz_facts.specs.declared.Entry.{Entry}
use Rattle.bz_facts.specs.declared.Facts.{Facts}
use Rattle.bz_facts.specs.declared.Given.{Given}
use Rattle.bz_facts.specs.declared.RowType.{RowType}
use Rattle.bz_facts.specs.declared.RowType.TheVariants.{Free, AtMost, AtLeast, Equal}
use Rattle.bz_facts.specs.LineTests.{is_free}
use Rattle.bz_facts.specs.Spellings.{zero_dec}

-- the digits of a decimal behind its point
abbrev pub digits_behind_point : Dec → ℕ
digits_behind_point d = if int_lt d.exp (pos 0) then unsigned_abs d.exp else 0

-- The greatest number of digits that one of the decimals has behind its point. Ten to this power is the least power of
-- ten that makes them all whole, which is a law, `model_scales_are_least`: no decimal of a text has a zero at its end.
abbrev pub most_digits : List Dec → ℕ
most_digits ds = fold (λ k d. max k (digits_behind_point d)) 0 ds

-- the decimal, 10^k times as large: a whole number where it has at most k digits behind its point
abbrev pub scaled : ℕ → Dec → ℤ
scaled k d = d.mant *ℤ pos (10 ^ unsigned_abs (d.exp +ℤ pos k))

-- the entries of a row, in file order
abbrev pub entries_at : ℕ → List Entry → List Entry
entries_at r entries = filter (λ e. e.row == r) entries

-- the right side or the range of a row, where it has one
abbrev pub given_at : ℕ → List Given → Option Dec
given_at r gs = option_map (λ g. g.number) (find (λ g. g.row == r) gs)

-- the terms of some entries, 10^k times as large: zeros are not kept
abbrev pub terms_by : ℕ → List Entry → List (ℕ × ℤ)
terms_by k entries = map (λ e. (e.column, scaled k e.number)) (filter (λ e. nat_lt 0 (unsigned_abs e.number.mant)) entries)

-- a row's terms and sides as whole numbers
pub record Scaled : Type 0 where
  pub terms : List (ℕ × ℤ)
  pub lower : Option ℤ
  pub upper : Option ℤ

-- the lower side of a row with this right side, and a range where it has one
abbrev pub lower_side : RowType → ℤ → Option ℤ → Option ℤ
lower_side Free rhs range = None
lower_side AtMost rhs range = option_map (λ r. rhs -ℤ pos (unsigned_abs r)) range
lower_side AtLeast rhs range = Some rhs
lower_side Equal rhs range = Some (let r = unwrap_or range (pos 0) in if int_lt r (pos 0) then rhs +ℤ r else rhs)

-- its upper side
abbrev pub upper_side : RowType → ℤ → Option ℤ → Option ℤ
upper_side Free rhs range = None
upper_side AtMost rhs range = Some rhs
upper_side AtLeast rhs range = option_map (λ r. rhs +ℤ pos (unsigned_abs r)) range
upper_side Equal rhs range = Some (let r = unwrap_or range (pos 0) in if int_lt r (pos 0) then rhs else rhs +ℤ r)

-- the decimals that make a row: those of its entries, its right side, and its range where it has one
abbrev pub decimals_of : List Entry → Dec → Option Dec → List Dec
decimals_of entries rhs range = map (λ e. e.number) entries ++ rhs ∷ option_to_list range

abbrev pub scaled_row : RowType → List Entry → Dec → Option Dec → Scaled
scaled_row t entries rhs range =
    let k = most_digits (decimals_of entries rhs range) in
    record {
      terms = terms_by k entries;
      lower = lower_side t (scaled k rhs) (option_map (scaled k) range);
      upper = upper_side t (scaled k rhs) (option_map (scaled k) range);
    }

-- the rows but those of kind N, each with its place among all rows
abbrev pub constraints : List RowType → List (ℕ × RowType)
constraints types = filter (λ r. not (is_free r.1)) (enumerate_from 0 types)

-- the right side of a row, 0 where none is given
abbrev pub right_side_at : Facts → ℕ → Dec
right_side_at f r = unwrap_or (given_at r f.right_sides) zero_dec

-- the row at a place
abbrev pub row_at : Facts → ℕ × RowType → Scaled
row_at f r = scaled_row r.1 (entries_at r.0 f.entries) (right_side_at f r.0) (given_at r.0 f.ranges)

-- the objective: the first row of kind N
abbrev pub objective_place : List RowType → ℕ
objective_place types = position_or_len is_free types

abbrev pub objective_entries : Facts → List Entry
objective_entries f = entries_at (objective_place f.row_types) f.entries

abbrev pub objective_side : Facts → Dec
objective_side f = right_side_at f (objective_place f.row_types)

-- the greatest number of digits behind a point in the objective, whose range is ignored
abbrev pub objective_digits : Facts → ℕ
objective_digits f = most_digits (decimals_of (objective_entries f) (objective_side f) None)

abbrev pub cost_of : Facts → List (ℕ × ℤ)
cost_of f = terms_by (objective_digits f) (objective_entries f)

-- the constant is the right side with the other sign
abbrev pub constant_of : Facts → ℤ
constant_of f = neg_ℤ (scaled (objective_digits f) (objective_side f))

abbrev pub has_wide_term : List (ℕ × ℤ) → Bool
has_wide_term terms = list_any (λ t. is_wide t.1) terms

abbrev pub is_wide_side : Option ℤ → Bool
is_wide_side None = false
is_wide_side (Some z) = is_wide z

-- a number of the row is wide
abbrev pub is_wide_row : Scaled → Bool
is_wide_row row = has_wide_term row.terms || (is_wide_side row.lower || is_wide_side row.upper)

-- a number of the objective is wide
abbrev pub is_wide_objective : Facts → Bool
is_wide_objective f = has_wide_term (cost_of f) || is_wide (constant_of f)
