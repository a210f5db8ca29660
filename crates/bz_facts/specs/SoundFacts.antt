-- What holds of the facts of every text, which is a law, `facts_are_sound`. The maker of models builds on it alone.
use Rattle.std.specs.Prelude.{ℕ, pos, ◌<◌, ◌≤◌, ◌≡◌, ◌⊎◌, true, false, filter, length, List, [], ◌∷◌}
use Rattle.std.specs.Int.{◌∣◌}
use Rattle.std.specs.Int.RustNames.{unsigned_abs}
use Rattle.std.specs.List.{AllByRecursion, IsDistinct, list_any}
use Rattle.std.specs.Option.{ForSome}
use Rattle.bz_num.specs.declared.decimal.Dec.{Dec}
use Rattle.bz_num.specs.Decimals.{IsWithinLimits}
use Rattle.bz_facts.specs.declared.records.BoundLine.{BoundLine}
use Rattle.bz_facts.specs.declared.records.Entry.{Entry}
use Rattle.bz_facts.specs.declared.records.Facts.{Facts}
use Rattle.bz_facts.specs.declared.records.Given.{Given}
use Rattle.bz_facts.specs.LineTests.{is_counted, is_free, is_same_entry, is_same_row}
use Rattle.bz_facts.specs.Spellings.{is_infinite}

-- a decimal of a text: within its limits, and with no zero at its end unless it is 0, with the exponent 0
pub record IsReadDecimal (d : Dec) : Type 0 where
  pub within : IsWithinLimits d
  pub ends : (d.exp ≡ pos 0) ⊎ (10 ∣ unsigned_abs d.mant → ⊥)

-- an entry of one of so many columns and one of so many rows
pub record IsEntryAmong (columns rows : ℕ) (e : Entry) : Type 0 where
  pub column : e.column < columns
  pub row : e.row < rows
  pub read : IsReadDecimal e.number

-- a right side or a range of one of so many rows
pub record IsGivenAmong (rows : ℕ) (g : Given) : Type 0 where
  pub row : g.row < rows
  pub read : IsReadDecimal g.number

-- a bound, which is finite
pub record IsFinite (d : Dec) : Type 0 where
  pub within : IsWithinLimits d
  pub finite : is_infinite d ≡ false

-- a bound line of one of so many columns
pub record IsBoundAmong (columns : ℕ) (b : BoundLine) : Type 0 where
  pub column : b.column < columns
  pub finite : ForSome b.number IsFinite

-- the columns of the entries never fall, from low on
abbrev pub NeverFallFrom : ℕ → List Entry → Type 0
NeverFallFrom low [] = Unit {0}
NeverFallFrom low (e ∷ es) = (low ≤ e.column) × NeverFallFrom e.column es

-- the facts fit one another and the limits
pub record AreSound (f : Facts) : Type 0 where
  pub types : length f.row_types ≡ length f.row_names
  pub objective : list_any is_free f.row_types ≡ true
  pub integers : length f.integers ≡ length f.columns
  pub few_columns : length f.columns ≤ 2048
  pub few_rows : length (filter is_counted f.row_types) ≤ 2048
  pub few_entries : length f.entries ≤ 65536
  pub entries : AllByRecursion (IsEntryAmong (length f.columns) (length f.row_names)) f.entries
  pub in_order : NeverFallFrom 0 f.entries
  pub entries_once : IsDistinct is_same_entry f.entries
  pub right_sides : AllByRecursion (IsGivenAmong (length f.row_names)) f.right_sides
  pub right_sides_once : IsDistinct is_same_row f.right_sides
  pub ranges : AllByRecursion (IsGivenAmong (length f.row_names)) f.ranges
  pub ranges_once : IsDistinct is_same_row f.ranges
  pub bounds : AllByRecursion (IsBoundAmong (length f.columns)) f.bounds
