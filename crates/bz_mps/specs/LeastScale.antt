-- Powers of ten that make a row whole.
use Rattle.std.specs.Prelude.{ℕ, ℤ, pos, ◌≡◌, ◌≤◌, ◌^◌, ◌*ℤ◌, List, Option, None, IfSome}
use Rattle.std.specs.List.{AllByRecursion}
use Rattle.std.specs.Option.{option_map}
use Rattle.std.proofs.Math.IntN.{neg_ℤ}
use Rattle.bz_num.specs.declared.Dec.{Dec}
use Rattle.bz_model.specs.declared.records.Model.{Model}
use Rattle.bz_model.specs.declared.records.Row.{Row}
use Rattle.bz_facts.specs.declared.Entry.{Entry}
use Rattle.bz_facts.specs.declared.Facts.{Facts}
use Rattle.bz_facts.specs.declared.RowType.{RowType}
use Rattle.bz_facts.specs.declared.RowType.TheVariants.{AtLeast}
use Rattle.bz_facts.specs.SoundFacts.{IsReadDecimal}
use Rattle.bz_facts.specs.Spellings.{at_thirty}
use Rattle.bz_mps.specs.ScaledRows.{decimals_of, entries_at, given_at, lower_side, objective_entries, objective_side, right_side_at, scaled, terms_by, upper_side}

-- 10^k times the number is whole, where z is the number, 10^30 times as large
pub record IsWholeAt (k : ℕ) (z : ℤ) : Type 0 where
  pub whole : ℤ
  pub is : whole *ℤ pos (10 ^ 30) ≡ z *ℤ pos (10 ^ k)

-- the row's terms and sides are whole once they are 10^k times as large
pub record AreWholeAt (k : ℕ) (t : RowType) (entries : List Entry) (rhs : Dec) (range : Option Dec) : Type 0 where
  pub terms : AllByRecursion (λ e. IsWholeAt k (at_thirty e.number)) entries
  pub lower : IfSome (lower_side t (at_thirty rhs) (option_map at_thirty range)) (IsWholeAt k)
  pub upper : IfSome (upper_side t (at_thirty rhs) (option_map at_thirty range)) (IsWholeAt k)

-- 10^k is the least power of ten that makes the row's terms and sides whole
pub record IsLeastScale (k : ℕ) (t : RowType) (entries : List Entry) (rhs : Dec) (range : Option Dec) : Type 0 where
  pub whole : AreWholeAt k t entries rhs range
  pub least : (j : ℕ) → AreWholeAt j t entries rhs range → k ≤ j

-- all decimals of a row are decimals of a text
abbrev pub AreReadDecimals : List Entry → Dec → Option Dec → Type 0
AreReadDecimals entries rhs range = AllByRecursion IsReadDecimal (decimals_of entries rhs range)

-- the row's terms and sides are those of the text, multiplied by the least power of ten that makes them all whole
pub record IsLeastRow (f : Facts) (r : ℕ × RowType) (row : Row) : Type 0 where
  pub digits : ℕ
  pub least : IsLeastScale digits r.1 (entries_at r.0 f.entries) (right_side_at f r.0) (given_at r.0 f.ranges)
  pub terms : row.terms ≡ terms_by digits (entries_at r.0 f.entries)
  pub lower : row.lower ≡ lower_side r.1 (scaled digits (right_side_at f r.0)) (option_map (scaled digits) (given_at r.0 f.ranges))
  pub upper : row.upper ≡ upper_side r.1 (scaled digits (right_side_at f r.0)) (option_map (scaled digits) (given_at r.0 f.ranges))

-- so are the objective's terms and its constant: the model's scale is that power of ten
pub record IsLeastObjective (f : Facts) (m : Model) : Type 0 where
  pub digits : ℕ
  pub least : IsLeastScale digits AtLeast (objective_entries f) (objective_side f) None
  pub cost : m.cost ≡ terms_by digits (objective_entries f)
  pub constant : m.constant ≡ neg_ℤ (scaled digits (objective_side f))
  pub scale : m.scale ≡ pos (10 ^ digits)
