-- The columns of a part rise, and so a column is found in its part alone.
use Rattle.std.proofs.Common.{ℕ, zero, suc, ◌<◌, ◌≤◌, ◌≡◌, refl, sym, ap, subst, ◌∙◌, arith, inl, inr, List, [], ◌∷◌, length, get_or, take, Result, Ok, Err}
use Rattle.std.specs.Prelude.{◌⊎◌}
use Rattle.std.specs.List.Sorted.{IsBinarySearchResult}
use Rattle.std.specs.Ordering.{nat_cmp}
use Rattle.std.proofs.lemmas.Bool.{cases_lt}
use Rattle.std.proofs.lemmas.List.{length-take}
use Rattle.std.proofs.lemmas.List.Sorted.{searched}
use Rattle.bz_model.specs.Parting.{column_at, columns_of, part_of, position_of, width_of}
use Rattle.bz_model.proofs.Positions.{IsColumnAt, column_at_is, column_of_position_in, length-columns_of, position_within, position_within_part}

get_or_front : (xs : List ℕ) (n i : ℕ) → i < n → get_or (take n xs) i 0 ≡ get_or xs i 0
get_or_front [] zero i l = absurd (omega (arith, l))
get_or_front [] (suc n) i l = refl
get_or_front (x ∷ xs) zero i l = absurd (omega (arith, l))
get_or_front (x ∷ xs) (suc n) zero l = refl
get_or_front (x ∷ xs) (suc n) (suc i) l = get_or_front xs n i (omega (arith, l))

take_front : (xs : List ℕ) (n i : ℕ) → i ≤ n → take i (take n xs) ≡ take i xs
take_front xs n zero l = refl
take_front xs zero (suc i) l = absurd (omega (arith, l))
take_front [] (suc n) (suc i) l = refl
take_front (x ∷ xs) (suc n) (suc i) l = ap (λ (ys : List ℕ). x ∷ ys) (take_front xs n i (omega (arith, l)))

-- of two columns of a part the earlier one has the smaller position
pub positions_rise : (part : List ℕ) (j k : ℕ) → j < k → k < length part → part_of part j ≡ part_of part k → position_of part j < position_of part k
positions_rise part j k l w e =
    let front : List ℕ = take k part in
    let inside : j < length front = omega (arith, l, w, length-take k part) in
    let here : part_of front j ≡ part_of part j = get_or_front part k j l in
    let first : position_of front j ≡ position_of part j = ap (λ (b : ℕ). width_of (take j front) b) here ∙ ap (λ (xs : List ℕ). width_of xs (part_of part j)) (take_front part k j (omega (arith, l))) in
    let second : width_of front (part_of front j) ≡ position_of part k = ap (width_of front) (here ∙ e) in
    let less : position_of front j < width_of front (part_of front j) = position_within front j inside in
    omega (arith, less, first, second)

-- the columns of a part rise
pub columns_rise : (part : List ℕ) (b i j : ℕ) → i ≤ j → j < length (columns_of part b) → get_or (columns_of part b) i 0 ≤ get_or (columns_of part b) j 0
columns_rise part b i j l w = by (cases_lt (column_at part b j) (column_at part b i))
  where
    width : j < width_of part b
    width = omega (arith, w, length-columns_of part b)

    first : IsColumnAt part b i (column_at part b i)
    first = column_at_is part b i (omega (arith, l, width))

    second : IsColumnAt part b j (column_at part b j)
    second = column_at_is part b j width

    by : (column_at part b j < column_at part b i) ⊎ (column_at part b i ≤ column_at part b j) → column_at part b i ≤ column_at part b j
    by (inl less) =
        let rise : position_of part (column_at part b j) < position_of part (column_at part b i) =
        positions_rise part (column_at part b j) (column_at part b i) less first.within (second.part_is ∙ sym first.part_is) in
        absurd (omega (arith, rise, first.position, second.position, l))
    by (inr most) = most

-- the column that stands at a position is in the part, with this position
pub record IsFoundAt (part : List ℕ) (b column position : ℕ) : Type 0 where
  pub within : position < width_of part b
  pub part_is : part_of part column ≡ b
  pub position_is : position ≡ position_of part column

pub found_at : (part : List ℕ) (b column position : ℕ) → position < length (columns_of part b) → get_or (columns_of part b) position 0 ≡ column → IsFoundAt part b column position
found_at part b column position l e =
    let width : position < width_of part b = omega (arith, l, length-columns_of part b) in
    let own : IsColumnAt part b position (column_at part b position) = column_at_is part b position width in
    record {
      within = width;
      part_is = subst (λ (j : ℕ). part_of part j ≡ b) e own.part_is;
      position_is = sym (subst (λ (j : ℕ). position_of part j ≡ position) e own.position);
    }

search_in : (part : List ℕ) (b column : ℕ) (columns : List ℕ) (r out : Result ℕ ℕ) → columns ≡ columns_of part b → IsBinarySearchResult (λ y. nat_cmp y column) columns r → r ≡ out → IsBinarySearchResult (λ y. nat_cmp y column) (columns_of part b) out
search_in part b column columns r out same s is =
    subst (λ (x : Result ℕ ℕ). IsBinarySearchResult (λ y. nat_cmp y column) (columns_of part b) x) is (subst (λ (xs : List ℕ). IsBinarySearchResult (λ y. nat_cmp y column) xs r) same s)

-- what a search of the part's columns says
pub search_finds : (part : List ℕ) (b column : ℕ) (columns : List ℕ) (r : Result ℕ ℕ) (position : ℕ) → columns ≡ columns_of part b → IsBinarySearchResult (λ y. nat_cmp y column) columns r → r ≡ Ok position → IsFoundAt part b column position
search_finds part b column columns r position same s is =
    let own : IsBinarySearchResult (λ y. nat_cmp y column) (columns_of part b) (Ok position) = search_in part b column columns r (Ok position) same s is in
    let known = searched (columns_of part b) column (Ok position) own (λ i j. columns_rise part b i j) in
    found_at part b column position known.0 known.1

pub search_misses : (part : List ℕ) (b column : ℕ) (columns : List ℕ) (r : Result ℕ ℕ) (place : ℕ) → column < length part → columns ≡ columns_of part b → IsBinarySearchResult (λ y. nat_cmp y column) columns r → r ≡ Err place → part_of part column ≡ b → ⊥
search_misses part b column columns r place inside same s is e =
    let own : IsBinarySearchResult (λ y. nat_cmp y column) (columns_of part b) (Err place) = search_in part b column columns r (Err place) same s is in
    let known = searched (columns_of part b) column (Err place) own (λ i j. columns_rise part b i j) in
    let i : ℕ = position_of part column in
    let width : i < width_of part b = position_within_part part b column inside e in
    let within : i < length (columns_of part b) = omega (arith, width, length-columns_of part b) in
    let here : get_or (columns_of part b) i 0 ≡ column = column_of_position_in part b column inside e in
    by i within here known.1 known.2 (cases_lt i place)
  where
    by : (i : ℕ) → i < length (columns_of part b) → get_or (columns_of part b) i 0 ≡ column → ((k : ℕ) → k < place → get_or (columns_of part b) k 0 < column) → ((k : ℕ) → place ≤ k → k < length (columns_of part b) → column < get_or (columns_of part b) k 0) → (i < place) ⊎ (place ≤ i) → ⊥
    by i within here below above (inl l) = let less = below i l in omega (arith, less, here)
    by i within here below above (inr l) = let more = above i l within in omega (arith, more, here)
