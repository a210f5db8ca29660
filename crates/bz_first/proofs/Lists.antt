-- Tests of the items of a list, and what holds of each item.
use Rattle.std.specs.Prelude.{ℕ, ◌+◌, List, [], ◌∷◌}
use Rattle.std.specs.List.{AllByRecursion, enumerate_from}
use Rattle.bz_first.specs.Tests.{Test, AllHold, each_of}
use Rattle.bz_first.proofs.TestLemmas.{all_behind, all_front, all_joined}

-- what its tests tell of an item holds of each
pub each_told : {F X : Type 0} (tests : X → List (Test F)) (P : X → Type 0) (xs : List X) → ((x : X) → AllHold (tests x) → P x) → AllHold (each_of tests xs) → AllByRecursion P xs
each_told tests P [] f h = tt
each_told tests P (x ∷ xs) f h = (f x (all_front (tests x) (each_of tests xs) h), each_told tests P xs f (all_behind (tests x) (each_of tests xs) h))

-- the tests of each item hold where they follow from what holds of it
pub each_tested : {F X : Type 0} (tests : X → List (Test F)) (P Q : X → Type 0) (xs : List X) → ((x : X) → P x → Q x → AllHold (tests x)) → AllByRecursion P xs → AllByRecursion Q xs → AllHold (each_of tests xs)
each_tested tests P Q [] f h g = tt
each_tested tests P Q (x ∷ xs) f h g = all_joined (tests x) (each_of tests xs) (f x h.0 g.0) (each_tested tests P Q xs f h.1 g.1)

-- the same of items with their numbers, where what holds of them doesn't speak of these
pub numbered_told : {F X : Type 0} (tests : ℕ × X → List (Test F)) (P : X → Type 0) (n : ℕ) (xs : List X) → ((e : ℕ × X) → AllHold (tests e) → P e.1) → AllHold (each_of tests (enumerate_from n xs)) → AllByRecursion P xs
numbered_told tests P n [] f h = tt
numbered_told tests P n (x ∷ xs) f h = (f (n, x) (all_front (tests (n, x)) (each_of tests (enumerate_from (n + 1) xs)) h), numbered_told tests P (n + 1) xs f (all_behind (tests (n, x)) (each_of tests (enumerate_from (n + 1) xs)) h))

pub numbered_tested : {F X : Type 0} (tests : ℕ × X → List (Test F)) (P Q : X → Type 0) (n : ℕ) (xs : List X) → ((e : ℕ × X) → P e.1 → Q e.1 → AllHold (tests e)) → AllByRecursion P xs → AllByRecursion Q xs → AllHold (each_of tests (enumerate_from n xs))
numbered_tested tests P Q n [] f h g = tt
numbered_tested tests P Q n (x ∷ xs) f h g = all_joined (tests (n, x)) (each_of tests (enumerate_from (n + 1) xs)) (f (n, x) h.0 g.0) (numbered_tested tests P Q (n + 1) xs f h.1 g.1)

-- what follows of each item
pub all_weaker : {X : Type 0} (P Q : X → Type 0) (xs : List X) → ((x : X) → P x → Q x) → AllByRecursion P xs → AllByRecursion Q xs
all_weaker P Q [] f h = tt
all_weaker P Q (x ∷ xs) f h = (f x h.0, all_weaker P Q xs f h.1)
