-- The tests of each item of a list with its number, as a loop comes to them.
use Rattle.std.specs.Prelude.{ℕ, ◌≡◌, ◌+◌, ◌<◌, ◌≤◌, List, length, drop, Result}
use Rattle.std.specs.List.{enumerate_from}
use Rattle.std.specs.Result.{IsErrAnd}
use Rattle.std.proofs.Common.{refl, ◌∙◌, ap, get_or}
use Rattle.std.proofs.lemmas.List.FromFn.{get_or-enumerate_from, length-enumerate_from}
use Rattle.bz_first.specs.Tests.{AllHold, IsFirstFault, Judges, Test, each_of}
use Rattle.bz_first.proofs.Chains.{passed_on}
use Rattle.bz_first.proofs.TestLemmas.{Reduces, items_end, items_fault, items_next}

-- the item at a place has its number, and its tests are the next
numbered_is : {F X : Type 0} (tests : ℕ × X → List (Test F)) (n : ℕ) (xs : List X) (i k : ℕ) (x : X) → i < length xs → k ≡ n + i → x ≡ get_or xs i x → tests (get_or (enumerate_from n xs) i (0, x)) ≡ tests (k, x)
numbered_is tests n xs i k x l e s =
    let item : (n + i, get_or xs i x) ≡ (k, x) = rw (← e, ← s) refl in
    ap tests (get_or-enumerate_from n xs i (0, x) l ∙ item)

-- after an item whose tests hold
pub numbered_next : {F X : Type 0} (tests : ℕ × X → List (Test F)) (n : ℕ) (xs : List X) (i k : ℕ) (x : X) (whole : List (Test F)) → i < length xs → k ≡ n + i → x ≡ get_or xs i x → AllHold (tests (k, x)) → Reduces (each_of tests (drop i (enumerate_from n xs))) whole → Reduces (each_of tests (drop (i + 1) (enumerate_from n xs))) whole
numbered_next tests n xs i k x whole l e s h r =
    items_next tests (enumerate_from n xs) i (0, x) whole (rw (length-enumerate_from n xs) l) (rw (numbered_is tests n xs i k x l e s) h) r

-- at an item with a fault
pub numbered_stop : {F X T : Type 0} (tests : ℕ × X → List (Test F)) (n : ℕ) (xs : List X) (i k : ℕ) (x : X) (whole : List (Test F)) (f : F) (result : Result T F) → IsErrAnd result (λ g. g ≡ f) → i < length xs → k ≡ n + i → x ≡ get_or xs i x → IsFirstFault (tests (k, x)) f → Reduces (each_of tests (drop i (enumerate_from n xs))) whole → Judges whole result
numbered_stop tests n xs i k x whole f result told l e s h r =
    passed_on whole f result told (items_fault tests (enumerate_from n xs) i (0, x) whole f (rw (length-enumerate_from n xs) l) (rw (numbered_is tests n xs i k x l e s) h) r)

-- after all items
pub numbered_end : {F X : Type 0} (tests : ℕ × X → List (Test F)) (n : ℕ) (xs : List X) (i : ℕ) (whole : List (Test F)) → length xs ≤ i → Reduces (each_of tests (drop i (enumerate_from n xs))) whole → AllHold whole
numbered_end tests n xs i whole l r = items_end tests (enumerate_from n xs) i whole (rw (length-enumerate_from n xs) l) r
