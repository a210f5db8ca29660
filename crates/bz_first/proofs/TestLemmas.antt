-- Lists of tests: their ends, their fronts, and the tests of many items.
use Rattle.std.specs.Prelude.{ℕ, zero, suc, ◌+◌, ◌≡◌, ◌<◌, ◌≤◌, ◌⊎◌, List, [], ◌∷◌, ◌++◌, Result, Ok, Err, ◌↔◌, IsTrue, is_ok, length, drop, get_or}
use Rattle.std.proofs.Common.{refl, ap, subst, arith, inl, inr}
use Rattle.std.proofs.lemmas.List.{drop_more}
use Rattle.std.proofs.Math.ListN.{drop_of_length-le}
use Rattle.bz_first.specs.Tests.{Test, AllHold, IsFirstFault, Judges, answered, each_below, each_of, test}

pub all_joined : {F : Type 0} (xs ys : List (Test F)) → AllHold xs → AllHold ys → AllHold (xs ++ ys)
all_joined [] ys h g = g
all_joined (x ∷ xs) ys h g = (h.0, all_joined xs ys h.1 g)

pub all_front : {F : Type 0} (xs ys : List (Test F)) → AllHold (xs ++ ys) → AllHold xs
all_front [] ys h = tt
all_front (x ∷ xs) ys h = (h.0, all_front xs ys h.1)

pub all_behind : {F : Type 0} (xs ys : List (Test F)) → AllHold (xs ++ ys) → AllHold ys
all_behind [] ys h = h
all_behind (x ∷ xs) ys h = all_behind xs ys h.1

-- a fault in front is the first of the whole
pub fault_in_front : {F : Type 0} (xs ys : List (Test F)) (f : F) → IsFirstFault xs f → IsFirstFault (xs ++ ys) f
fault_in_front [] ys f h = absurd h
fault_in_front (x ∷ xs) ys f (inl h) = inl h
fault_in_front (x ∷ xs) ys f (inr h) = inr (h.0, fault_in_front xs ys f h.1)

-- a fault behind tests that hold is the first of the whole
pub fault_behind : {F : Type 0} (xs ys : List (Test F)) (f : F) → AllHold xs → IsFirstFault ys f → IsFirstFault (xs ++ ys) f
fault_behind [] ys f h g = g
fault_behind (x ∷ xs) ys f h g = inr (h.0, fault_behind xs ys f h.1 g)

-- a fault of the whole is in front, or behind tests that hold
pub fault_where : {F : Type 0} (xs ys : List (Test F)) (f : F) → IsFirstFault (xs ++ ys) f → IsFirstFault xs f ⊎ (AllHold xs × IsFirstFault ys f)
fault_where [] ys f h = inr (tt, h)
fault_where (x ∷ xs) ys f (inl h) = inl (inl h)
fault_where (x ∷ xs) ys f (inr h) = deeper (fault_where xs ys f h.1)
  where
    deeper : IsFirstFault xs f ⊎ (AllHold xs × IsFirstFault ys f) → IsFirstFault (x ∷ xs) f ⊎ (AllHold (x ∷ xs) × IsFirstFault ys f)
    deeper (inl g) = inl (inr (h.0, g))
    deeper (inr g) = inr ((h.0, g.0), g.1)

-- tests that all hold have no fault, and a list has one first fault
pub none_where_all : {F : Type 0} (xs : List (Test F)) (f : F) → AllHold xs → IsFirstFault xs f → ⊥
none_where_all [] f h g = g
none_where_all (x ∷ xs) f h (inl g) = g.0 h.0
none_where_all (x ∷ xs) f h (inr g) = none_where_all xs f h.1 g.1

pub one_fault : {F : Type 0} (xs : List (Test F)) (f g : F) → IsFirstFault xs f → IsFirstFault xs g → f ≡ g
one_fault [] f g h k = absurd h
one_fault (x ∷ xs) f g (inl h) (inl k) = cc
one_fault (x ∷ xs) f g (inl h) (inr k) = absurd (h.0 k.0)
one_fault (x ∷ xs) f g (inr h) (inl k) = absurd (k.0 h.0)
one_fault (x ∷ xs) f g (inr h) (inr k) = one_fault xs f g h.1 k.1

by_le : (k n : ℕ) → (k ≤ n) ⊎ (n < k)
by_le k n = search arith

-- a fault of the tests below a bound is one below each greater bound
pub fault_below : {F : Type 0} (k n : ℕ) (tests : ℕ → List (Test F)) (f : F) → k ≤ n → IsFirstFault (each_below k tests) f → IsFirstFault (each_below n tests) f
fault_below k zero tests f l h = let e : k ≡ 0 = omega arith in subst (λ (j : ℕ). IsFirstFault (each_below j tests) f) e h
fault_below k (suc n) tests f l h = choose (λ g. fault_below k n tests f g h) (by_le k n)
  where
    choose : (k ≤ n → IsFirstFault (each_below n tests) f) → (k ≤ n) ⊎ (n < k) → IsFirstFault (each_below (suc n) tests) f
    choose before (inl g) = fault_in_front (each_below n tests) (tests n) f (before g)
    choose before (inr g) = let e : k ≡ suc n = omega arith in subst (λ (j : ℕ). IsFirstFault (each_below j tests) f) e h

-- the tests below a bound hold where each holds
pub all_below_hold : {F : Type 0} (n : ℕ) (tests : ℕ → List (Test F)) → ((i : ℕ) → i < n → AllHold (tests i)) → AllHold (each_below n tests)
all_below_hold zero tests h = tt
all_below_hold (suc n) tests h = all_joined (each_below n tests) (tests n) (all_below_hold n tests (λ i l. h i (omega arith))) (h n (omega arith))

pub each_below_holds : {F : Type 0} (n : ℕ) (tests : ℕ → List (Test F)) → AllHold (each_below n tests) → (i : ℕ) → i < n → AllHold (tests i)
each_below_holds zero tests h i l = absurd (omega arith)
each_below_holds (suc n) tests h i l = choose (λ g. each_below_holds n tests (all_front (each_below n tests) (tests n) h) i g) (by_le n i)
  where
    choose : (i < n → AllHold (tests i)) → (n ≤ i) ⊎ (i < n) → AllHold (tests i)
    choose before (inl g) = let e : n ≡ i = omega arith in subst (λ (j : ℕ). AllHold (tests j)) e (all_behind (each_below n tests) (tests n) h)
    choose before (inr g) = before g

-- other answers
pub answered_hold : {F G : Type 0} (h : F → G) (ts : List (Test F)) → AllHold ts → AllHold (answered h ts)
answered_hold h [] a = tt
answered_hold h (t ∷ ts) a = (a.0, answered_hold h ts a.1)

pub hold_answered : {F G : Type 0} (h : F → G) (ts : List (Test F)) → AllHold (answered h ts) → AllHold ts
hold_answered h [] a = tt
hold_answered h (t ∷ ts) a = (a.0, hold_answered h ts a.1)

pub answered_fault : {F G : Type 0} (h : F → G) (ts : List (Test F)) (f : F) → IsFirstFault ts f → IsFirstFault (answered h ts) (h f)
answered_fault h [] f g = absurd g
answered_fault h (t ∷ ts) f (inl g) = let e : h t.answer ≡ h f = cc in inl (g.0, e)
answered_fault h (t ∷ ts) f (inr g) = inr (g.0, answered_fault h ts f g.1)

-- ---- what judges
-- tests that hold, and behind them tests that are judged
pub judges_then : {F T : Type 0} (xs ys : List (Test F)) (r : Result T F) → AllHold xs → Judges ys r → Judges (xs ++ ys) r
judges_then xs ys (Ok t) h j = all_joined xs ys h j
judges_then xs ys (Err f) h j = fault_behind xs ys f h j

-- one test, said in another way
pub judges_same : {F T : Type 0} (answer : F) (P Q : Type 0) (r : Result T F) → (P → Q) → (Q → P) → Judges (test answer P ∷ []) r → Judges (test answer Q ∷ []) r
judges_same answer P Q (Ok t) there back j = (there j.0, tt)
judges_same answer P Q (Err f) there back (inl j) = inl (λ q. j.0 (back q), j.1)
judges_same answer P Q (Err f) there back (inr j) = absurd j.1

-- the tests of a number below a bound, behind those of lesser numbers
pub fault_at : {F : Type 0} (k n : ℕ) (tests : ℕ → List (Test F)) (f : F) → k < n → AllHold (each_below k tests) → IsFirstFault (tests k) f → IsFirstFault (each_below n tests) f
fault_at k n tests f l h g = fault_below (suc k) n tests f (omega arith) (fault_behind (each_below k tests) (tests k) f h g)

-- after tests that hold the tests of the next number
pub below_next : {F : Type 0} (k : ℕ) (tests : ℕ → List (Test F)) → AllHold (each_below k tests) → AllHold (tests k) → AllHold (each_below (k + 1) tests)
below_next k tests h g = let e : suc k ≡ k + 1 = omega arith in subst (λ (j : ℕ). AllHold (each_below j tests)) e (all_joined (each_below k tests) (tests k) h g)

-- what a `?` hands on
pub judges_handed : {F T : Type 0} (xs : List (Test F)) (r : Result T F) (f : F) → r ≡ Err f → IsFirstFault xs f → Judges xs r
judges_handed xs r f e h = rw e h

-- the answer is none exactly where all tests hold
pub judged : {F T : Type 0} (xs : List (Test F)) (r : Result T F) → Judges xs r → IsTrue (is_ok r) ↔ AllHold xs
judged xs (Ok t) h = (λ e. h, λ e. refl)
judged xs (Err f) h = (λ e. absurd cc, λ a. absurd (none_where_all xs f a h))

-- ---- what a loop over tests has left
-- the tests behind tell what all tell, those in front hold
pub record Reduces {F : Type 0} (rest all : List (Test F)) : Type 0 where
  pub hold : AllHold rest → AllHold all
  pub fault : (f : F) → IsFirstFault rest f → IsFirstFault all f

pub reduces_start : {F : Type 0} (all : List (Test F)) → Reduces all all
reduces_start all = record { hold = λ h. h; fault = λ f h. h }

-- tests in front that hold are left behind
pub reduces_next : {F : Type 0} (xs rest all : List (Test F)) → AllHold xs → Reduces (xs ++ rest) all → Reduces rest all
reduces_next xs rest all h r = record { hold = λ g. r.hold (all_joined xs rest h g); fault = λ f g. r.fault f (fault_behind xs rest f h g) }

-- a fault of the tests in front
pub reduces_fault : {F : Type 0} (xs rest all : List (Test F)) (f : F) → IsFirstFault xs f → Reduces (xs ++ rest) all → IsFirstFault all f
reduces_fault xs rest all f h r = r.fault f (fault_in_front xs rest f h)

-- the tests of the items that are left
pub each_of_next : {F X : Type 0} (tests : X → List (Test F)) (xs : List X) (i : ℕ) (d : X) → i < length xs → each_of tests (drop i xs) ≡ tests (get_or xs i d) ++ each_of tests (drop (i + 1) xs)
each_of_next tests xs i d l = ap (each_of tests) (drop_more xs i d l)

pub each_of_none : {F X : Type 0} (tests : X → List (Test F)) (xs : List X) (i : ℕ) → length xs ≤ i → each_of tests (drop i xs) ≡ []
each_of_none tests xs i l = ap (each_of tests) (drop_of_length-le xs l)

-- one item more, a fault of an item, and the end
pub items_next : {F X : Type 0} (tests : X → List (Test F)) (xs : List X) (i : ℕ) (d : X) (all : List (Test F)) → i < length xs → AllHold (tests (get_or xs i d)) → Reduces (each_of tests (drop i xs)) all → Reduces (each_of tests (drop (i + 1) xs)) all
items_next tests xs i d all l h r = reduces_next (tests (get_or xs i d)) (each_of tests (drop (i + 1) xs)) all h (rw (each_of_next tests xs i d l) at r)

pub items_fault : {F X : Type 0} (tests : X → List (Test F)) (xs : List X) (i : ℕ) (d : X) (all : List (Test F)) (f : F) → i < length xs → IsFirstFault (tests (get_or xs i d)) f → Reduces (each_of tests (drop i xs)) all → IsFirstFault all f
items_fault tests xs i d all f l h r = reduces_fault (tests (get_or xs i d)) (each_of tests (drop (i + 1) xs)) all f h (rw (each_of_next tests xs i d l) at r)

pub items_end : {F X : Type 0} (tests : X → List (Test F)) (xs : List X) (i : ℕ) (all : List (Test F)) → length xs ≤ i → Reduces (each_of tests (drop i xs)) all → AllHold all
items_end tests xs i all l r = r.hold (rw (each_of_none tests xs i l) tt)
