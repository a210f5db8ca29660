-- What the tables hold beside the facts.
use Rattle.std.proofs.Common.{suc, ◌+◌, not, ◌≡◌, ◌≤◌, ◌∙◌, ap, refl, arith, Bool, true, false, ◌||◌, List, [], ◌∷◌, length, filter, map, cond}
use Rattle.std.specs.List.{list_any, position_or_len}

-- a test of places, on the items that have them
pub any-placed : {X K : Type 0} (same : K → K → Bool) (place : X → K) (k : K) (xs : List X) (keys : List K) → keys ≡ map place xs → list_any (same k) keys ≡ list_any (λ x. same k (place x)) xs
any-placed {X = X} same place k xs keys e = ap (list_any (same k)) e ∙ inside xs
  where
    inside : (xs : List X) → list_any (same k) (map place xs) ≡ list_any (λ x. same k (place x)) xs
    inside [] = refl
    inside (x ∷ xs) = ap (λ b. same k (place x) || b) (inside xs)

pub filter-shorter : {X : Type 0} (p : X → Bool) (xs : List X) → length (filter p xs) ≤ length xs
filter-shorter p [] = omega arith
filter-shorter p (x ∷ xs) = by (p x) (filter-shorter p xs)
  where
    by : (b : Bool) → length (filter p xs) ≤ length xs → length (cond b (x ∷ filter p xs) (filter p xs)) ≤ suc (length xs)
    by true h = omega arith
    by false h = omega arith

-- the place of an item
pub place-within : {X : Type 0} (p : X → Bool) (xs : List X) → position_or_len p xs ≤ length xs
place-within p [] = omega arith
place-within p (x ∷ xs) = by (p x) (place-within p xs)
  where
    by : (b : Bool) → position_or_len p xs ≤ length xs → cond (not b) (1 + position_or_len p xs) 0 ≤ suc (length xs)
    by true h = omega arith
    by false h = omega arith
