-- The tests of an integer column, from its whole quotient.
use Rattle.std.proofs.Common.{◌≡◌, refl, ap, ℕ, suc, ◌+◌, ◌<◌, List, [], ◌∷◌, ◌++◌, length, map, arith, ℤ, pos, ◌*ℤ◌, ◌<ℤ◌, ◌≤ℤ◌, inl, inr}
use Rattle.std.proofs.lemmas.Int.{ints}
use Rattle.std.specs.List.{AllByRecursion, enumerate_from}
use Rattle.bz_model.specs.declared.Column.{Column}
use Rattle.bz_model.specs.declared.Master.{Master}
use Rattle.bz_model.specs.declared.Model.{Model}
use Rattle.bz_model.specs.Parting.{inequalities_of, integers_of, position_of, width_of}
use Rattle.bz_first.specs.Tests.{AllHold, IsFirstFault, Test, each_of}
use Rattle.bz_model.specs.Decomposed.{IsDecomposed}
use Rattle.bz_model.proofs.BoundedIntegers.{IsBoundedInMaster, integers_bounded}
use Rattle.bz_judge.specs.declared.faults.CheckFault.TheVariants as fault
use Rattle.bz_tree.specs.Boxes.{Box}
use Rattle.bz_tree.specs.Integers.{positions_of}
use Rattle.bz_judge.specs.IntegerTests.{between_tests}
use Rattle.bz_judge.specs.PointTests.{integers_tests, position_tests}
use Rattle.bz_judge.proofs.WholeQuotients.{at_least_down, at_least_up, at_most_down, at_most_up}

pub upper_fault : (at : ℕ) (x den lower upper q : ℤ) → pos 0 <ℤ den → x ≡ q *ℤ den → upper <ℤ q → IsFirstFault (between_tests at x den lower upper) (fault.Point 0 at)
upper_fault at x den lower upper q some e h =
    inr ((q, e), inl (λ k. let l : q ≤ℤ upper = at_most_down x q upper den some e k in omega (arith, ints), refl))

pub lower_fault : (at : ℕ) (x den lower upper q : ℤ) → pos 0 <ℤ den → x ≡ q *ℤ den → q ≤ℤ upper → q <ℤ lower → IsFirstFault (between_tests at x den lower upper) (fault.Point 0 (at + 1))
lower_fault at x den lower upper q some e h l =
    inr ((q, e), inr (at_most_up x q upper den some e h, inl (λ k. let m : lower ≤ℤ q = at_least_down x q lower den some e k in omega (arith, ints), refl)))

pub all_between : (at : ℕ) (x den lower upper q : ℤ) → pos 0 <ℤ den → x ≡ q *ℤ den → q ≤ℤ upper → lower ≤ℤ q → AllHold (between_tests at x den lower upper)
all_between at x den lower upper q some e h l = ((q, e), (at_most_up x q upper den some e h, (at_least_up x q lower den some e l, tt)))

-- the positions of integer columns by their places
pub length-mapped : {X Y : Type 0} (f : X → Y) (xs : List X) → length (map f xs) ≡ length xs
length-mapped f [] = refl
length-mapped f (x ∷ xs) = ap suc (length-mapped f xs)

all_mapped : {X : Type 0} (P : X → Type 0) (f : X → ℕ) (n : ℕ) (xs : List X) → ((x : X) → P x → f x < n) → AllByRecursion P xs → AllByRecursion (λ y. y < n) (map f xs)
all_mapped P f n [] g h = tt
all_mapped P f n (x ∷ xs) g h = (g x h.0, all_mapped P f n xs g h.1)

pub positions_within : (m : Model) (part : List ℕ) → IsDecomposed m part → AllByRecursion (λ p. p < width_of part 0) (positions_of m part)
positions_within m part d = all_mapped (IsBoundedInMaster part) (λ (e : ℕ × Column). position_of part e.0) (width_of part 0) (integers_of m) (λ e b. b.position) (integers_bounded m part d)

pub same_count : (m : Model) (part : List ℕ) → length (positions_of m part) ≡ length (integers_of m)
same_count m part = length-mapped (λ (x : ℕ × Column). position_of part x.0) (integers_of m)

-- the tests of mapped items are tests of the items
mapped_tests : {F X Y : Type 0} (tests : ℕ × Y → List (Test F)) (f : X → Y) (n : ℕ) (xs : List X) → each_of tests (enumerate_from n (map f xs)) ≡ each_of (λ e. tests (e.0, f e.1)) (enumerate_from n xs)
mapped_tests tests f n [] = refl
mapped_tests {F = F} tests f n (x ∷ xs) = ap (λ (ts : List (Test F)). tests (n, f x) ++ ts) (mapped_tests tests f (n + 1) xs)

pub tests_by_position : (m : Model) (part : List ℕ) (box : Box) (master : Master) → each_of (position_tests box master (length (inequalities_of m part 0))) (enumerate_from 0 (positions_of m part)) ≡ integers_tests m part box master
tests_by_position m part box master = mapped_tests (position_tests box master (length (inequalities_of m part 0))) (λ (e : ℕ × Column). position_of part e.0) 0 (integers_of m)
