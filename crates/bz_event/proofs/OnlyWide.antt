-- Tests of which all hold but those that a number isn't wide.
use Rattle.std.specs.Prelude.{ℕ, ◌+◌, ◌≡◌, ◌⊎◌, List, [], ◌∷◌, ◌++◌}
use Rattle.std.specs.List.{enumerate_from, AllByRecursion}
use Rattle.std.proofs.Common.{inl, inr, subst}
use Rattle.bz_first.specs.Tests.{AllHold, IsFirstFault, Test, each_of}
use Rattle.bz_judge.specs.declared.faults.CheckFault.{CheckFault}
use Rattle.bz_judge.specs.PointTests.{Tests}
use Rattle.bz_event.specs.Failing.{Fails, IsWideFault, OthersHold}

-- the first that fails is one that fails
pub first_fails : {F : Type 0} (ts : List (Test F)) (f : F) → IsFirstFault ts f → Fails ts f
first_fails [] f h = absurd h
first_fails (t ∷ ts) f (inl h) = inl h
first_fails (t ∷ ts) f (inr h) = inr (first_fails ts f h.1)

-- where the others hold, only that a number is wide is answered
pub only_wide : (ts : Tests) (f : CheckFault) → OthersHold ts → IsFirstFault ts f → IsWideFault f
only_wide [] f h g = absurd g
only_wide (t ∷ ts) f (inl w, h) (inl g) = subst IsWideFault g.1 w
only_wide (t ∷ ts) f (inr k, h) (inl g) = absurd (g.0 k)
only_wide (t ∷ ts) f (k, h) (inr g) = only_wide ts f h g.1

-- ---- lists of such tests
pub others_joined : (xs ys : Tests) → OthersHold xs → OthersHold ys → OthersHold (xs ++ ys)
others_joined [] ys h g = g
others_joined (x ∷ xs) ys h g = (h.0, others_joined xs ys h.1 g)

-- the tests of each item with its number
pub others_numbered : {X : Type 0} (tests : ℕ × X → Tests) (P : X → Type 0) (n : ℕ) (xs : List X) → ((e : ℕ × X) → P e.1 → OthersHold (tests e)) → AllByRecursion P xs → OthersHold (each_of tests (enumerate_from n xs))
others_numbered tests P n [] f h = tt
others_numbered tests P n (x ∷ xs) f h = others_joined (tests (n, x)) (each_of tests (enumerate_from (n + 1) xs)) (f (n, x) h.0) (others_numbered tests P (n + 1) xs f h.1)

-- ---- what fails of two lists
pub fails_where : {F : Type 0} (xs ys : List (Test F)) (f : F) → Fails (xs ++ ys) f → Fails xs f ⊎ Fails ys f
fails_where [] ys f h = inr h
fails_where (x ∷ xs) ys f (inl h) = inl (inl h)
fails_where (x ∷ xs) ys f (inr h) = later (fails_where xs ys f h)
  where
    later : Fails xs f ⊎ Fails ys f → Fails (x ∷ xs) f ⊎ Fails ys f
    later (inl g) = inl (inr g)
    later (inr g) = inr g

pub fails_front : {F : Type 0} (xs ys : List (Test F)) (f : F) → Fails xs f → Fails (xs ++ ys) f
fails_front [] ys f h = absurd h
fails_front (x ∷ xs) ys f (inl h) = inl h
fails_front (x ∷ xs) ys f (inr h) = inr (fails_front xs ys f h)

pub fails_behind : {F : Type 0} (xs ys : List (Test F)) (f : F) → Fails ys f → Fails (xs ++ ys) f
fails_behind [] ys f h = h
fails_behind (x ∷ xs) ys f h = inr (fails_behind xs ys f h)
