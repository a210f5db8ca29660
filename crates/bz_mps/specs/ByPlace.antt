-- Items by their place.
use Rattle.std.specs.Prelude.{ℕ, ◌<◌, ◌≡◌, ◌==◌, List, [], ◌∷◌, ◌++◌, filter, length, if◌then◌else◌}
use Rattle.std.specs.List.{slice_index_or}

-- what stands at each place below the count, in order
pub record AreByPlace {X : Type 0} (place : X → ℕ) (count : ℕ) (items : List X) (lists : List (List X)) : Type 0 where
  pub many : length lists ≡ count
  pub each : (r : ℕ) → r < count → slice_index_or lists r [] ≡ filter (λ x. place x == r) items

-- the item stands behind those of its place, where that is one of these
pub record AddsItem {X : Type 0} (place : X → ℕ) (old : List (List X)) (item : X) (new : List (List X)) : Type 0 where
  pub many : length new ≡ length old
  pub each : (r : ℕ) → r < length old → slice_index_or new r [] ≡ slice_index_or old r [] ++ (if place item == r then item ∷ [] else [])
