-- The columns of a part and their positions: each column of a part stands at its position, and each position holds a
-- column of the part.
use Rattle.std.specs.Prelude.{ℕ, zero, suc, ◌+◌, ◌<◌, ◌≤◌, ◌≡◌, true, false, cond, eqb, nat_lt, List, [], ◌∷◌, length, take, filter, map, count_by, get_or}
use Rattle.std.specs.List.{enumerate_from}
use Rattle.std.proofs.Common.{refl, ap, ◌∙◌, arith, inl, inr}
use Rattle.std.proofs.lemmas.Bool.{cases_Bool, eq-eqb, eqb-true, ltb-true, ltb-false}
use Rattle.std.proofs.lemmas.List.Sums.{sum_by-cons}
use Rattle.bz_model.specs.Parting.{part_of, blocks_of, columns_of, column_at, width_of, position_of}

-- ---- how many of the numbers are b
many : ℕ → List ℕ → ℕ
many b xs = count_by (λ c. eqb c b) xs

as_many : (b : ℕ) (xs : List ℕ) → count_by (λ c. eqb c b) xs ≡ many b xs
unfolding many
as_many b xs = refl

many-nil : (b : ℕ) → many b [] ≡ 0
unfolding many
many-nil b = refl

many-cons : (b x : ℕ) (xs : List ℕ) → many b (x ∷ xs) ≡ cond (eqb x b) 1 0 + many b xs
unfolding many
many-cons b x xs = sum_by-cons (λ c. cond (eqb c b) 1 0) x xs

many-here : (b x : ℕ) (xs : List ℕ) → eqb x b ≡ true → many b (x ∷ xs) ≡ suc (many b xs)
many-here b x xs t = rw (many-cons b x xs, t) (omega arith)

many-there : (b x : ℕ) (xs : List ℕ) → eqb x b ≡ false → many b (x ∷ xs) ≡ many b xs
many-there b x xs t = rw (many-cons b x xs, t) (omega arith)

-- ---- the numbers of the entries that are b, where the first has the number n
places : ℕ → ℕ → List ℕ → List ℕ
places n b xs = map (λ e. e.0) (filter (λ e. eqb e.1 b) (enumerate_from n xs))

as_places : (b : ℕ) (xs : List ℕ) → columns_of xs b ≡ places 0 b xs
unfolding places
as_places b xs = refl

places-nil : (n b : ℕ) → places n b [] ≡ []
unfolding places
places-nil n b = refl

places-here : (n b x : ℕ) (xs : List ℕ) → eqb x b ≡ true → places n b (x ∷ xs) ≡ n ∷ places (n + 1) b xs
unfolding places
places-here n b x xs t = rw t

places-there : (n b x : ℕ) (xs : List ℕ) → eqb x b ≡ false → places n b (x ∷ xs) ≡ places (n + 1) b xs
unfolding places
places-there n b x xs t = rw t

length-places : (n b : ℕ) (xs : List ℕ) → length (places n b xs) ≡ many b xs
length-places n b [] = rw (places-nil n b, many-nil b)
length-places n b (x ∷ xs) = elim (cases_Bool (eqb x b)) [
  | inl t ↦ rw (places-here n b x xs t, many-here b x xs t) (ap suc (length-places (n + 1) b xs))
  | inr t ↦ rw (places-there n b x xs t, many-there b x xs t) (length-places (n + 1) b xs)
]

-- an entry's number stands after those of the earlier entries like it
places-at : (n b : ℕ) (xs : List ℕ) (j : ℕ) → j < length xs → get_or xs j 0 ≡ b → get_or (places n b xs) (many b (take j xs)) 0 ≡ n + j
places-at n b [] j h e = absurd (omega arith)
places-at n b (x ∷ xs) zero h e = rw (many-nil b, places-here n b x xs (eq-eqb x b e)) (omega arith)
places-at n b (x ∷ xs) (suc j) h e = elim (cases_Bool (eqb x b)) [
  | inl t ↦ rw (many-here b x (take j xs) t, places-here n b x xs t, places-at (n + 1) b xs j (omega arith) e) (omega arith)
  | inr t ↦ rw (many-there b x (take j xs) t, places-there n b x xs t, places-at (n + 1) b xs j (omega arith) e) (omega arith)
]

-- fewer entries are b before an entry that is b than in all
many-before : (b : ℕ) (xs : List ℕ) (j : ℕ) → j < length xs → get_or xs j 0 ≡ b → many b (take j xs) < many b xs
many-before b [] j h e = absurd (omega arith)
many-before b (x ∷ xs) zero h e = rw (many-nil b, many-here b x xs (eq-eqb x b e)) (omega arith)
many-before b (x ∷ xs) (suc j) h e = let more : many b (take j xs) < many b xs = many-before b xs j (omega arith) e in elim (cases_Bool (eqb x b)) [
  | inl t ↦ rw (many-here b x (take j xs) t, many-here b x xs t) (omega arith)
  | inr t ↦ rw (many-there b x (take j xs) t, many-there b x xs t) more
]

-- j is the number of the entry at place i among those that are b, counted from n
record IsPlaced (n b : ℕ) (xs : List ℕ) (i j : ℕ) : Type 0 where
  number : get_or (places n b xs) i 0 ≡ n + j
  within : j < length xs
  part : get_or xs j 0 ≡ b
  place : many b (take j xs) ≡ i

placed : (n b : ℕ) (xs : List ℕ) (i : ℕ) → i < many b xs → (j : ℕ) × IsPlaced n b xs i j
placed n b [] i h = absurd (omega (arith, many-nil b))
placed n b (x ∷ xs) i h = elim (cases_Bool (eqb x b)) [
  | inl t ↦ here t i h (placed (n + 1) b xs)
  | inr t ↦ there t (placed (n + 1) b xs i (rw (← many-there b x xs t) h))
]
  where
    later : {i' i j : ℕ} → get_or (places n b (x ∷ xs)) i 0 ≡ get_or (places (n + 1) b xs) i' 0 → many b (x ∷ take j xs) ≡ i → IsPlaced (n + 1) b xs i' j → IsPlaced n b (x ∷ xs) i (suc j)
    later e f r = record { number = e ∙ r.number ∙ omega arith; within = omega arith; part = r.part; place = f }

    there : {i : ℕ} → eqb x b ≡ false → ((j : ℕ) × IsPlaced (n + 1) b xs i j) → (j : ℕ) × IsPlaced n b (x ∷ xs) i j
    there {i} t r = (suc r.0, later (ap (λ (ys : List ℕ). get_or ys i 0) (places-there n b x xs t)) (many-there b x (take r.0 xs) t ∙ r.1.place) r.1)

    here : eqb x b ≡ true → (i : ℕ) → i < many b (x ∷ xs) → ((i' : ℕ) → i' < many b xs → (j : ℕ) × IsPlaced (n + 1) b xs i' j) → (j : ℕ) × IsPlaced n b (x ∷ xs) i j
    here t zero h more = (0, record { number = ap (λ (ys : List ℕ). get_or ys 0 0) (places-here n b x xs t) ∙ omega arith; within = omega arith; part = eqb-true x b t; place = many-nil b })
    here t (suc i) h more = let r = more i (omega (arith, many-here b x xs t)) in
        (suc r.0, later (ap (λ (ys : List ℕ). get_or ys (suc i) 0) (places-here n b x xs t)) (many-here b x (take r.0 xs) t ∙ ap suc r.1.place) r.1)

-- ---- what others cite
-- a column's position is below the width of its part
pub position_within : (part : List ℕ) (j : ℕ) → j < length part → position_of part j < width_of part (part_of part j)
unfolding many
position_within part j h = many-before (part_of part j) part j h refl

-- a column stands at its position
pub column_of_position : (part : List ℕ) (j : ℕ) → j < length part → column_at part (part_of part j) (position_of part j) ≡ j
unfolding many places
column_of_position part j h = places-at 0 (part_of part j) part j h refl ∙ omega arith

-- the same, where the part has a name
pub position_within_part : (part : List ℕ) (b j : ℕ) → j < length part → part_of part j ≡ b → position_of part j < width_of part b
position_within_part part b j h e = rw (← e) (position_within part j h)

pub column_of_position_in : (part : List ℕ) (b j : ℕ) → j < length part → part_of part j ≡ b → column_at part b (position_of part j) ≡ j
column_of_position_in part b j h e = rw (← e) (column_of_position part j h)

-- what is at a position of a part: a column of the part, with this position
pub record IsColumnAt (part : List ℕ) (b i j : ℕ) : Type 0 where
  pub within : j < length part
  pub part_is : part_of part j ≡ b
  pub position : position_of part j ≡ i

pub column_at_is : (part : List ℕ) (b i : ℕ) → i < width_of part b → IsColumnAt part b i (column_at part b i)
unfolding many places
column_at_is part b i h =
    let r = placed 0 b part i h in
    let e : get_or (places 0 b part) i 0 ≡ r.0 = r.1.number ∙ omega arith in
    rw e (record { within = r.1.within; part_is = r.1.part; position = rw r.1.part r.1.place })

pub length-columns_of : (part : List ℕ) (b : ℕ) → length (columns_of part b) ≡ width_of part b
unfolding many places
length-columns_of part b = length-places 0 b part

-- each part is a block or the master
pub part_within_blocks : (part : List ℕ) (j : ℕ) → part_of part j ≤ blocks_of part
part_within_blocks [] j = omega arith
part_within_blocks (b ∷ bs) zero = elim (cases_Bool (nat_lt b (blocks_of bs))) [
  | inl t ↦ rw t (omega (arith, ltb-true b (blocks_of bs) t))
  | inr t ↦ rw t (omega arith)
]
part_within_blocks (b ∷ bs) (suc j) = let l : part_of bs j ≤ blocks_of bs = part_within_blocks bs j in elim (cases_Bool (nat_lt b (blocks_of bs))) [
  | inl t ↦ rw t l
  | inr t ↦ rw t (omega (arith, ltb-false b (blocks_of bs) t))
]

-- a part that has a column isn't empty
pub width_positive : (part : List ℕ) (j : ℕ) → j < length part → 0 < width_of part (part_of part j)
width_positive part j h = let l : position_of part j < width_of part (part_of part j) = position_within part j h in omega arith
