-- The rows of each part are counted in one pass over their homes.
use Rattle.std.proofs.Common.{◌≡◌, ◌∙◌, ℕ, zero, suc, ◌+◌, ◌<◌, ◌≤◌, ◌^◌, ◌==◌, List, [], ◌∷◌, drop, length, filter, Bool, true, false, inl, inr, refl, ap, sym, arith}
use Rattle.std.specs.Prelude.{All, slice_index_or, slice_set, if◌then◌else◌}
use Rattle.std.proofs.lemmas.Bool.{cases_eq, eq-eqb, ne_eqb}
use Rattle.std.proofs.lemmas.List.{get_or-set_other, get_or-set_same, length-map, length-set}
use Rattle.std.proofs.lemmas.Grind.{get_or_default_zero}
use Rattle.std.proofs.lemmas.List.Sums.{count_by-le-length, length-filter}
use Rattle.bz_model.specs.declared.records.Row.{Row}
use Rattle.bz_model.specs.Parting.{blocks_of, home_of, homes_of}
use Rattle.bz_model.specs.Splits.{Decomposition}
use Rattle.bz_model.proofs.MeetingParts.{home_within}
use Rattle.bz_model.proofs.Sparse.{left_at, none_left}
use Rattle.bz_split.specs.Counts.{AreRowCounts, rows_of_part}

-- how many of these homes are part b
abbrev pub count_at : ℕ → List ℕ → ℕ
count_at b homes = length (filter (λ home. home == b) homes)

-- there is a number per part, and with what the rest gives the part it is what all give it
pub record AreCounts (part counts rest all : List ℕ) : Type 0 where
  pub long : length counts ≡ blocks_of part + 1
  pub each : (b : ℕ) → b ≤ blocks_of part → slice_index_or counts b 0 + count_at b rest ≡ count_at b all

-- a home is a part
home_at : (part : List ℕ) (rows : List Row) (i : ℕ) → slice_index_or (homes_of part rows) i 0 ≤ blocks_of part
home_at part [] i = omega arith
home_at part (row ∷ rows) zero = home_within part row.terms
home_at part (row ∷ rows) (suc i) = home_at part rows i

-- so it has a number
pub has_room : (part counts rest all : List ℕ) (rows : List Row) (i : ℕ) → AreCounts part counts rest all → all ≡ homes_of part rows →
    slice_index_or all i 0 < length counts
has_room part counts rest all rows i a e =
    let l : slice_index_or all i 0 ≤ blocks_of part = rw e (home_at part rows i) in omega (arith, l, a.long)

-- no more homes are counted than there are
at_most_all : (p : ℕ → Bool) (homes : List ℕ) → length (filter p homes) ≤ length homes
at_most_all p homes = omega (arith, length-filter p homes, count_by-le-length p homes)

pub stay_small : (part counts rest all : List ℕ) → AreCounts part counts rest all → All (λ n. n ≤ length all) counts
stay_small part counts rest all a = λ k d l.
    let few : count_at k all ≤ length all = at_most_all (λ home. home == k) all in
    omega (arith, a.each k (omega (arith, l, a.long)), few, get_or_default_zero counts k d l)

-- one more is counted
count_here : (b h : ℕ) (homes : List ℕ) → b ≡ h → count_at b (h ∷ homes) ≡ suc (count_at b homes)
count_here b h homes e = rw (eq-eqb h b (sym e)) refl

count_there : (b h : ℕ) (homes : List ℕ) → (b ≡ h → ⊥) → count_at b (h ∷ homes) ≡ count_at b homes
count_there b h homes n = rw (ne_eqb h b (λ e. n (sym e))) refl

pub count_more : (part counts all : List ℕ) (i n : ℕ) → AreCounts part counts (drop i all) all → i < length all →
    slice_index_or all i 0 < length counts → n ≡ slice_index_or counts (slice_index_or all i 0) 0 →
    AreCounts part (slice_set counts (slice_index_or all i 0) (n + 1)) (drop (i + 1) all) all
count_more part counts all i n a l room e = record {
  long = length-set counts (slice_index_or all i 0) (n + 1) ∙ a.long;
  each = λ b w.
      let left : count_at b (drop i all) ≡ count_at b (slice_index_or all i 0 ∷ drop (i + 1) all) = ap (count_at b) (left_at all i 0 l) in
      let old = a.each b w in
      elim (cases_eq b (slice_index_or all i 0)) [
        | inl h ↦
            let now : slice_index_or (slice_set counts (slice_index_or all i 0) (n + 1)) b 0 ≡ n + 1 =
            ap (λ (k : ℕ). slice_index_or (slice_set counts (slice_index_or all i 0) (n + 1)) k 0) h
            ∙ get_or-set_same counts (slice_index_or all i 0) (n + 1) 0 room in
            let before : slice_index_or counts b 0 ≡ n = ap (λ (k : ℕ). slice_index_or counts k 0) h ∙ sym e in
            omega (arith, now, before, old, left, count_here b (slice_index_or all i 0) (drop (i + 1) all) h)
        | inr d ↦
            let now : slice_index_or (slice_set counts (slice_index_or all i 0) (n + 1)) b 0 ≡ slice_index_or counts b 0 =
            get_or-set_other counts (slice_index_or all i 0) b (n + 1) 0 d in
            omega (arith, now, old, left, count_there b (slice_index_or all i 0) (drop (i + 1) all) d)
      ];
}

-- as many homes are part b as rows belong to it
count_one : {X : Type 0} (b : Bool) (x : X) (y : ℕ) (xs : List X) (ys : List ℕ) → length xs ≡ length ys →
    length (if b then x ∷ xs else xs) ≡ length (if b then y ∷ ys else ys)
count_one true x y xs ys e = ap suc e
count_one false x y xs ys e = e

pub counted_rows : (part : List ℕ) (rows : List Row) (b : ℕ) →
    length (filter (λ row. home_of part row.terms == b) rows) ≡ count_at b (homes_of part rows)
counted_rows part [] b = refl
counted_rows part (row ∷ rows) b =
    count_one (home_of part row.terms == b) row (home_of part row.terms) (filter (λ r. home_of part r.terms == b) rows)
    (filter (λ home. home == b) (homes_of part rows)) (counted_rows part rows b)

-- where all are counted, each part has the number of its rows
pub all_counted : (d : Decomposition) (counts all : List ℕ) (i : ℕ) → AreCounts d.part counts (drop i all) all → length all ≤ i →
    all ≡ homes_of d.part d.model.rows → AreRowCounts d counts
all_counted d counts all i a l e = record {
  parts = a.long;
  counts = λ b w.
      let none : count_at b (drop i all) ≡ 0 = ap (count_at b) (none_left all i l) in
      let rows : rows_of_part d.model d.part b ≡ count_at b all = counted_rows d.part d.model.rows b ∙ sym (ap (count_at b) e) in
      omega (arith, none, rows, a.each b w);
}

-- there are as many homes as rows
pub few_homes : (d : Decomposition) (all : List ℕ) → all ≡ homes_of d.part d.model.rows → length all < 2 ^ 28
few_homes d all e =
    let same : length all ≡ length d.model.rows = ap length e ∙ length-map d.model.rows (λ row. home_of d.part row.terms) in
    omega (arith, same, d.model.few_rows)
