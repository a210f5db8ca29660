-- Lists by part, while they grow and when they are complete.
use Rattle.std.specs.Prelude.{ℕ, suc, ◌≡◌, ◌<◌, List, [], ◌++◌, length, slice_index, slice_index_or, if◌then◌else◌, ◌==◌, ◌&&◌, not, filter}
use Rattle.std.specs.List.{enumerate_from, flat_map}
use Rattle.bz_model.specs.declared.records.Column.{Column}
use Rattle.bz_model.specs.declared.records.Ineq.{Ineq}
use Rattle.bz_model.specs.declared.records.Model.{Model}
use Rattle.bz_model.specs.declared.records.Row.{Row}
use Rattle.bz_model.specs.Parting.{blocks_of, columns_of, inequalities_of, part_of, position_of, home_of, sides_of_row, sides_of_column}

-- there are n lists, and list b is f b
pub record ListsAre {X : Type 0} (n : ℕ) (f : ℕ → List X) (lists : List (List X)) : Type 0 where
  pub count : length lists ≡ n
  pub each : (b : ℕ) → b < n → slice_index_or lists b [] ≡ f b

-- each list is the old one, followed by what `more` gives for its number
pub record AreJoined {X : Type 0} (old new : List (List X)) (more : ℕ → List X) : Type 0 where
  pub count : length new ≡ length old
  pub each : (b : ℕ) → b < length old → slice_index_or new b [] ≡ slice_index_or old b [] ++ more b

-- the list at the number `at`, and nothing at others
abbrev pub only_at : {X : Type 0} → ℕ → List X → ℕ → List X
only_at at xs b = (if at == b then xs else [])

-- list b has these at its end, and the others are as they were
abbrev pub Gains : {X : Type 0} → List (List X) → List (List X) → ℕ → List X → Type 0
Gains old new b xs = AreJoined old new (only_at b xs)

-- what rows add to the inequalities of part b
abbrev pub sides_of_rows : List ℕ → List Row → ℕ → List Ineq
sides_of_rows part rows b = flat_map (sides_of_row part b) (filter (λ row. home_of part row.terms == b) rows)

-- what columns, each with its number, add to the inequalities of part b
abbrev pub sides_of_columns : List ℕ → List (ℕ × Column) → ℕ → List Ineq
sides_of_columns part es b =
    flat_map (sides_of_column part b) (filter (λ e. (part_of part e.0 == b) && not e.1.integer) es)

-- the same of all columns
abbrev pub bounds_of : List ℕ → List Column → ℕ → List Ineq
bounds_of part columns b = sides_of_columns part (enumerate_from 0 columns) b

-- what one column adds to the inequalities of part b
abbrev pub bounds_at : List ℕ → ℕ × Column → ℕ → List Ineq
bounds_at part e b = (if (part_of part e.0 == b) && not e.1.integer then sides_of_column part b e else [])

-- a list for each part, and in it the part's columns
abbrev pub AreColumnLists : List ℕ → List (List ℕ) → Type 0
AreColumnLists part lists = ListsAre (suc (blocks_of part)) (columns_of part) lists

-- a list for each part, and in it the part's inequalities
abbrev pub AreInequalityLists : Model → List ℕ → List (List Ineq) → Type 0
AreInequalityLists m part lists = ListsAre (suc (blocks_of part)) (inequalities_of m part) lists

-- the position of each column
pub record ArePositions (part positions : List ℕ) : Type 0 where
  pub count : length positions ≡ length part
  pub each : (j : ℕ) → j < length part → slice_index positions j ≡ position_of part j
