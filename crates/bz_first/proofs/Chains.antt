-- Lists of tests as a chain of calls comes to them.
use Rattle.std.specs.Prelude.{◌≡◌, ◌⊎◌, List, ◌++◌, Result, Ok, Err}
use Rattle.std.specs.Result.{IsErrAnd}
use Rattle.std.proofs.Common.{inl, inr}
use Rattle.bz_first.specs.Tests.{AllHold, IsFirstFault, Judges, JudgesUnless, Test}
use Rattle.bz_first.proofs.TestLemmas.{all_behind, all_front, all_joined, fault_behind, fault_in_front, fault_where, judges_then}

-- a fault that is passed on
pub passed_on : {F T : Type 0} (whole : List (Test F)) (f : F) (result : Result T F) → IsErrAnd result (λ g. g ≡ f) → IsFirstFault whole f → Judges whole result
passed_on whole f (Ok x) told h = absurd told
passed_on whole f (Err g) told h = rw told h

-- a fault of the tests in front
pub stopped : {F T : Type 0} (front rest : List (Test F)) (f : F) (result : Result T F) → IsErrAnd result (λ g. g ≡ f) → IsFirstFault front f → Judges (front ++ rest) result
stopped front rest f result told h = passed_on (front ++ rest) f result told (fault_in_front front rest f h)

-- ---- tests that need memory
-- what judges may want memory
pub unless : {F T : Type 0} (want : F) (tests : List (Test F)) (result : Result T F) → Judges tests result → JudgesUnless want tests result
unless want tests (Ok x) h = h
unless want tests (Err f) h = inr h

-- a fault of the tests in front
pub unless_stopped : {F T : Type 0} (want : F) (front rest : List (Test F)) (f : F) (result : Result T F) → IsErrAnd result (λ g. g ≡ f) → IsFirstFault front f → JudgesUnless want (front ++ rest) result
unless_stopped want front rest f (Ok x) told h = absurd told
unless_stopped want front rest f (Err g) told h = inr (rw told (fault_in_front front rest f h))

-- tests that hold, and then tests that are judged
pub unless_then : {F T : Type 0} (want : F) (front rest : List (Test F)) (result : Result T F) → AllHold front → JudgesUnless want rest result → JudgesUnless want (front ++ rest) result
unless_then want front rest (Ok x) h g = all_joined front rest h g
unless_then want front rest (Err f) h (inl e) = inl e
unless_then want front rest (Err f) h (inr g) = inr (fault_behind front rest f h g)

-- the same where the tests behind are two lists, the first of them joined with those in front
pub unless_then_two : {F T : Type 0} (want : F) (front first second : List (Test F)) (result : Result T F) → AllHold front → JudgesUnless want (first ++ second) result → JudgesUnless want ((front ++ first) ++ second) result
unless_then_two want front first second (Ok x) h g =
    all_joined (front ++ first) second (all_joined front first h (all_front first second g)) (all_behind first second g)
unless_then_two want front first second (Err f) h (inl e) = inl e
unless_then_two want front first second (Err f) h (inr g) = inr (place (fault_where first second f g))
  where
    place : IsFirstFault first f ⊎ (AllHold first × IsFirstFault second f) → IsFirstFault ((front ++ first) ++ second) f
    place (inl k) = fault_in_front (front ++ first) second f (fault_behind front first f h k)
    place (inr k) = fault_behind (front ++ first) second f (all_joined front first h k.0) k.1

-- ---- five lists of tests
pub fault_second : {F : Type 0} (vs xs ys zs ws : List (Test F)) (f : F) → AllHold vs → IsFirstFault xs f → IsFirstFault (vs ++ xs ++ ys ++ zs ++ ws) f
fault_second vs xs ys zs ws f h g = fault_in_front (vs ++ xs ++ ys ++ zs) ws f (fault_in_front (vs ++ xs ++ ys) zs f (fault_in_front (vs ++ xs) ys f (fault_behind vs xs f h g)))

pub fault_third : {F : Type 0} (vs xs ys zs ws : List (Test F)) (f : F) → AllHold vs → AllHold xs → IsFirstFault ys f → IsFirstFault (vs ++ xs ++ ys ++ zs ++ ws) f
fault_third vs xs ys zs ws f h a g = fault_in_front (vs ++ xs ++ ys ++ zs) ws f (fault_in_front (vs ++ xs ++ ys) zs f (fault_behind (vs ++ xs) ys f (all_joined vs xs h a) g))

pub fault_fourth : {F : Type 0} (vs xs ys zs ws : List (Test F)) (f : F) → AllHold vs → AllHold xs → AllHold ys → IsFirstFault zs f → IsFirstFault (vs ++ xs ++ ys ++ zs ++ ws) f
fault_fourth vs xs ys zs ws f h a b g = fault_in_front (vs ++ xs ++ ys ++ zs) ws f (fault_behind (vs ++ xs ++ ys) zs f (all_joined (vs ++ xs) ys (all_joined vs xs h a) b) g)

pub judged_last : {F T : Type 0} (vs xs ys zs ws : List (Test F)) (r : Result T F) → AllHold vs → AllHold xs → AllHold ys → AllHold zs → Judges ws r → Judges (vs ++ xs ++ ys ++ zs ++ ws) r
judged_last vs xs ys zs ws r h a b d j = judges_then (vs ++ xs ++ ys ++ zs) ws r (all_joined (vs ++ xs ++ ys) zs (all_joined (vs ++ xs) ys (all_joined vs xs h a) b) d) j
