-- Names in an order, each by its place.
use Rattle.std.specs.Prelude.{ℕ, ◌≡◌, List, [], ◌∷◌, ◌++◌, Bool, Option, Some, None, bytes_eq, length, if◌then◌else◌}
use Rattle.std.specs.Borrow.{Bor}
use Rattle.std.specs.BTreeMap.{BTreeMap, get_by}
use Rattle.std.specs.Cmp.Lexicographic.{slice_cmp}
use Rattle.std.specs.List.{list_any, position_or_len}
use Rattle.std.specs.Ordering.{nat_cmp}

-- one of some names
abbrev pub is_among : List (List ℕ) → List ℕ → Bool
is_among names name = list_any (bytes_eq name) names

-- the place of a name among names
abbrev pub place : List (List ℕ) → List ℕ → ℕ
place names name = position_or_len (bytes_eq name) names

-- the name, after the others where it is none of them
abbrev pub with_name : List (List ℕ) → List ℕ → List (List ℕ)
with_name names name = if is_among names name then names else names ++ name ∷ []

-- the place of a name among names, where it is one of them
abbrev pub place_among : List (List ℕ) → List ℕ → Option ℕ
place_among names name = if is_among names name then Some (place names name) else None

-- the map has the place of each of the names, and nothing else
abbrev pub HasPlaces : List (List ℕ) → BTreeMap (Bor (List ℕ)) ℕ → Type 0
HasPlaces names places = (name : List ℕ) → get_by (λ k. slice_cmp nat_cmp name k.now) places ≡ place_among names name

-- noted after `place` names, the map has the places of all
abbrev pub Notes : List ℕ → ℕ → BTreeMap (Bor (List ℕ)) ℕ → BTreeMap (Bor (List ℕ)) ℕ → Type 0
Notes name place old new =
    (names : List (List ℕ)) → length names ≡ place → HasPlaces names old → HasPlaces (names ++ name ∷ []) new
