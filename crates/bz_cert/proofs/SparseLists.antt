-- Where sparse lists end among numbers.
use Rattle.std.proofs.Common.{◌≡◌, ◌==◌, false, true, ◌∷◌, ◌++◌, ◌∙◌, [], ℕ, suc, ◌+◌, ℤ, pos, List, length, arith, ◌<◌, ◌≤◌, ◌^◌, ap, sym, refl, append-nil, append_assoc, length-append}
use Rattle.std.specs.Int.RustNames.{unsigned_abs}
use Rattle.std.specs.List.{flat_map}
use Rattle.std.proofs.lemmas.Grind.{flat_map-append}
use Rattle.std.proofs.lemmas.Bool.{eqb-true}
use Rattle.bz_algebra.specs.Sums.{AllBelow}
use Rattle.bz_cert.proofs.ListLemmas.{same_head, same_tail}
use Rattle.bz_cert.specs.CertText.{sparse_numbers}
use Rattle.bz_cert.specs.CertReading.{AreTwoLists, BeginsWithList, BeginsWithPairs}

-- pairs of an index and a value, without their count
abbrev pub pair_numbers : List (ℕ × ℤ) → List ℤ
pair_numbers es = flat_map (λ e. pos e.0 ∷ e.1 ∷ []) es

pub same_index : (m n : ℕ) → pos m ≡ pos n → m ≡ n
same_index m n e = ap unsigned_abs e

-- as many pairs in front of two lists of numbers
pub same_pairs : (es fs : List (ℕ × ℤ)) (r s : List ℤ) → length es ≡ length fs → pair_numbers es ++ r ≡ pair_numbers fs ++ s →
    (es ≡ fs) × (r ≡ s)
same_pairs [] [] r s many e = (refl, e)
same_pairs [] (f ∷ fs) r s many e = absurd (omega arith)
same_pairs (e ∷ es) [] r s many is = absurd (omega arith)
same_pairs (e ∷ es) (f ∷ fs) r s many is =
    let index : e.0 ≡ f.0 = same_index e.0 f.0 (same_head _ _ _ _ is) in
    let number : e.1 ≡ f.1 = same_head _ _ _ _ (same_tail _ _ _ _ is) in
    let rest : (es ≡ fs) × (r ≡ s) = same_pairs es fs r s (omega arith) (same_tail _ _ _ _ (same_tail _ _ _ _ is)) in
    (ap (λ i. (i, e.1) ∷ es) index ∙ ap (λ z. (f.0, z) ∷ es) number ∙ ap (λ t. f ∷ t) rest.0, rest.1)

-- a sparse list in front of two lists of numbers
pub same_list : (es fs : List (ℕ × ℤ)) (r s : List ℤ) → sparse_numbers es ++ r ≡ sparse_numbers fs ++ s → (es ≡ fs) × (r ≡ s)
same_list es fs r s is =
    same_pairs es fs r s (same_index (length es) (length fs) (same_head _ _ _ _ is)) (same_tail _ _ _ _ is)

-- so many pairs do not stand in front of the numbers
abbrev pub NoPairs : ℕ → List ℤ → Type 0
NoPairs count numbers = (es : List (ℕ × ℤ)) (rest : List ℤ) → BeginsWithPairs count es numbers rest → ⊥

pub no_pairs_behind : (count i : ℕ) (z : ℤ) (numbers behind : List ℤ) → numbers ≡ pos i ∷ z ∷ behind → NoPairs count behind → NoPairs (suc count) numbers
no_pairs_behind count i z numbers behind are none [] rest h = let many : 0 ≡ suc count = h.many in absurd (omega arith)
no_pairs_behind count i z numbers behind are none (e ∷ es) rest h =
    none es rest (record {
      laid_out = same_tail _ _ _ _ (same_tail _ _ _ _ (sym are ∙ h.laid_out));
      many = let many : suc (length es) ≡ suc count = h.many in omega arith;
      indexes = h.indexes.1;
    })

pub no_pair_here : (count : ℕ) (numbers : List ℤ) → ((i : ℕ) (z : ℤ) (behind : List ℤ) → numbers ≡ pos i ∷ z ∷ behind → i < 2 ^ 32 → ⊥) →
    NoPairs (suc count) numbers
no_pair_here count numbers none [] rest h = let many : 0 ≡ suc count = h.many in absurd (omega arith)
no_pair_here count numbers none (e ∷ es) rest h = none e.0 e.1 (pair_numbers es ++ rest) h.laid_out h.indexes.0

-- a list has fewer pairs than numbers
pub fewer_pairs : (es : List (ℕ × ℤ)) (rest : List ℤ) → length es ≤ length (pair_numbers es ++ rest)
fewer_pairs [] rest = omega arith
fewer_pairs (e ∷ es) rest = omega (arith, fewer_pairs es rest)

-- the pairs behind a count are those of the list in front
pub pairs_of_list : (count : ℕ) (es fs : List (ℕ × ℤ)) (numbers behind rest r : List ℤ) → numbers ≡ pos count ∷ behind →
    BeginsWithPairs count es behind rest → BeginsWithList fs numbers r → (es ≡ fs) × (rest ≡ r)
pairs_of_list count es fs numbers behind rest r are h k =
    same_list es fs rest r (ap (λ n. pos n ∷ pair_numbers es ++ rest) h.many ∙ ap (λ t. pos count ∷ t) (sym h.laid_out) ∙ sym are ∙ k.laid_out)

-- the list in front is that many pairs behind its count
pub list_pairs : (count : ℕ) (es : List (ℕ × ℤ)) (numbers behind rest : List ℤ) → numbers ≡ pos count ∷ behind → BeginsWithList es numbers rest →
    BeginsWithPairs count es behind rest
list_pairs count es numbers behind rest are h = record {
  laid_out = same_tail _ _ _ _ (sym are ∙ h.laid_out);
  many = sym (same_index count (length es) (same_head _ _ _ _ (sym are ∙ h.laid_out)));
  indexes = h.indexes;
}

-- two lists that are all of the numbers
pub first_of_two : (es fs : List (ℕ × ℤ)) (numbers : List ℤ) → AreTwoLists es fs numbers → BeginsWithList es numbers (sparse_numbers fs)
first_of_two es fs numbers h = record { laid_out = h.laid_out; count = h.first_count; indexes = h.first_indexes }

pub behind_first : (first es fs : List (ℕ × ℤ)) (numbers rest : List ℤ) → BeginsWithList first numbers rest → AreTwoLists es fs numbers →
    BeginsWithList fs rest []
behind_first first es fs numbers rest h k = record {
  laid_out = (same_list first es rest (sparse_numbers fs) (sym h.laid_out ∙ k.laid_out)).1 ∙ sym (append-nil (sparse_numbers fs));
  count = k.second_count;
  indexes = k.second_indexes;
}

-- behind a list that is all of the numbers there is none
pub nothing_behind : (es fs : List (ℕ × ℤ)) (numbers rest : List ℤ) → BeginsWithList es numbers rest → BeginsWithList fs numbers [] → rest ≡ []
nothing_behind es fs numbers rest h k = (same_list es fs rest [] (sym h.laid_out ∙ k.laid_out)).1

pub not_empty : {X : Type 0} (xs : List X) → (length xs == 0) ≡ false → xs ≡ [] → ⊥
not_empty [] some e = absurd (cc)
not_empty (x ∷ xs) some e = absurd (omega (arith, ap length e))

below_push : (n : ℕ) (es : List (ℕ × ℤ)) (i : ℕ) (z : ℤ) → AllBelow n es → i < n → AllBelow n (es ++ (i, z) ∷ [])
below_push n [] i z h below = (below, tt)
below_push n (e ∷ es) i z h below = (h.0, below_push n es i z h.1 below)

pub pair_pushed : (count : ℕ) (es : List (ℕ × ℤ)) (i : ℕ) (z : ℤ) (numbers middle rest : List ℤ) →
    BeginsWithPairs count es numbers middle → middle ≡ pos i ∷ z ∷ rest → i < 2 ^ 32 →
    BeginsWithPairs (count + 1) (es ++ (i, z) ∷ []) numbers rest
pair_pushed count es i z numbers middle rest h are below = record {
  laid_out = h.laid_out ∙ ap (λ t. pair_numbers es ++ t) are ∙ sym (append_assoc (pair_numbers es) (pos i ∷ z ∷ []) rest)
      ∙ ap (λ t. t ++ rest) (sym (flat_map-append (λ (e : ℕ × ℤ). pos e.0 ∷ e.1 ∷ []) es ((i, z) ∷ [])));
  many = let e : length es ≡ count = h.many in omega (arith, length-append es ((i, z) ∷ []));
  indexes = below_push (2 ^ 32) es i z h.indexes below;
}

pub empty_now : {X : Type 0} (xs : List X) → (length xs == 0) ≡ true → xs ≡ []
empty_now [] e = refl
empty_now (x ∷ xs) e = absurd (omega (arith, eqb-true (length (x ∷ xs)) 0 e))
