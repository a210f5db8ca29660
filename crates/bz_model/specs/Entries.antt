-- The numbers of inequalities, by position.
use Rattle.std.specs.Prelude.{ℕ, suc, ℤ, ◌≡◌, ◌<◌, ◌^◌, List, [], length, slice_index_or}
use Rattle.std.specs.List.{AllByRecursion, enumerate_from}
use Rattle.bz_algebra.specs.Sums.{AllBelow, coef}
use Rattle.bz_model.specs.declared.entries.ByPosition.{ByPosition}
use Rattle.bz_model.specs.declared.entries.Terms.{Terms}
use Rattle.bz_model.specs.declared.entries.Terms.TheVariants.{Own, Master}
use Rattle.bz_model.specs.declared.records.Ineq.{Ineq}
use Rattle.bz_model.specs.declared.records.Model.{Model}
use Rattle.bz_model.specs.Parting.{blocks_of, inequalities_of, width_of}
use Rattle.bz_model.specs.Rows.{master_at, own_at}

-- number n of the list is what the terms numbered n have at the position
abbrev pub IsEntriesAt : (ℕ → List (ℕ × ℤ)) → ℕ → List (ℕ × ℤ) → Type 0
IsEntriesAt terms position entries = (n : ℕ) → coef entries n ≡ coef (terms n) position

-- there is such a list for each position below the width
pub record AreEntries (width : ℕ) (terms : ℕ → List (ℕ × ℤ)) (lists : List (List (ℕ × ℤ))) : Type 0 where
  pub count : length lists ≡ width
  pub each : (i : ℕ) → i < width → IsEntriesAt terms i (slice_index_or lists i [])

-- the inequalities speak of positions below these widths
pub record RowsFit (width master_width : ℕ) (rows : List Ineq) : Type 0 where
  pub own : AllByRecursion (λ i. AllBelow width i.own) rows
  pub master : AllByRecursion (λ i. AllBelow master_width i.master) rows
  pub few : length rows < 2 ^ 32

-- the lists of the own and of the master terms of inequalities
pub record HasEntries (width master_width : ℕ) (rows : List Ineq) (entries : ByPosition) : Type 0 where
  pub own : AreEntries width (own_at rows) entries.own.items
  pub master : AreEntries master_width (master_at rows) entries.master.items

-- how many columns list b has
abbrev pub width_in : List (List ℕ) → ℕ → ℕ
width_in columns b = length (slice_index_or columns b [])

-- those of each list of inequalities, whose parts have these columns
pub record AreEntryLists (columns : List (List ℕ)) (ineqs : List (List Ineq)) (lists : List ByPosition) : Type 0 where
  pub count : length lists ≡ length ineqs
  pub each : AllByRecursion
      (λ e. HasEntries (width_in columns e.0) (width_in columns 0) (slice_index_or ineqs e.0 []) e.1)
      (enumerate_from 0 lists)

-- those of each part of a model
pub record ArePartEntries (m : Model) (part : List ℕ) (lists : List ByPosition) : Type 0 where
  pub count : length lists ≡ suc (blocks_of part)
  pub each : AllByRecursion
      (λ e. HasEntries (width_of part e.0) (width_of part 0) (inequalities_of m part e.0) e.1)
      (enumerate_from 0 lists)

-- how many positions the own or the master terms of a part's inequalities may stand at
abbrev pub width_at : Terms → List ℕ → ℕ → ℕ
width_at Own part b = width_of part b
width_at Master part b = width_of part 0

-- the lists of the own or of the master terms
abbrev pub rows_of : Terms → ByPosition → List (List (ℕ × ℤ))
rows_of Own entries = entries.own.items
rows_of Master entries = entries.master.items
