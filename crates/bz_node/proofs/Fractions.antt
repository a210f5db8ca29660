-- Whole numbers, and the first of many that isn't.
use Rattle.std.specs.Prelude.{ℕ, suc, ◌<◌, ◌≤◌, ◌≡◌, ℤ, pos, ◌+ℤ◌, ◌*ℤ◌, ◌<ℤ◌, ◌≤ℤ◌, List, [], ◌∷◌, length, None, slice_index_or}
use Rattle.std.specs.List.{AllByRecursion}
use Rattle.std.specs.Int.RustNames.{unsigned_abs}
use Rattle.std.proofs.Common.{sym, subst, ◌∙◌, arith}
use Rattle.std.proofs.lemmas.Int.{ints}
use Rattle.bz_first.proofs.Facts.{all_at}
use Rattle.bz_judge.proofs.WholeQuotients.{whole_rest}
use Rattle.bz_model.specs.Points.{IsWhole}
use Rattle.bz_model.proofs.MeetingParts.{all_both}
use Rattle.bz_event.specs.Nodes.{IsFirstFractional}
use Rattle.bz_node.specs.Fractional.{FindsFractional}

-- ---- one number
module _ (x den q r : ℤ) (positive : (pos 0) <ℤ den) (divided : (q *ℤ den) +ℤ r ≡ x) (low : (pos 0) ≤ℤ r) (high : r <ℤ den) where
  -- what leaves no rest is whole
  pub no_rest : r ≡ pos 0 → IsWhole x den
  no_rest e = (q, omega (arith, ints))

  -- and what is whole leaves none
  pub rest_of_whole : IsWhole x den → r ≡ pos 0
  rest_of_whole w =
      let small : unsigned_abs r < unsigned_abs den = omega (arith, ints) in
      whole_rest w.0 q r den positive (divided ∙ w.1) small

-- ---- many numbers
all_from_places : (P : ℕ → Type 0) (ps : List ℕ) → ((k : ℕ) → k < length ps → P (slice_index_or ps k 0)) → AllByRecursion P ps
all_from_places P [] h = tt
all_from_places P (p ∷ ps) h = (h 0 (omega arith), all_from_places P ps (λ k l. h (suc k) (omega arith)))

pub none_fractional : (ps : List ℕ) (v : ℕ → ℤ) (den : ℤ) (k : ℕ) → length ps ≤ k → ((i : ℕ) → i < k → IsWhole (v (slice_index_or ps i 0)) den) → FindsFractional ps v den None
none_fractional ps v den k l h = all_from_places (λ p. IsWhole (v p) den) ps (λ i b. h i (omega arith))

-- the first is one of the positions
pub first_inside : (ps : List ℕ) (n : ℕ) (v : ℕ → ℤ) (den : ℤ) (position : ℕ) → AllByRecursion (λ p. p < n) ps → IsFirstFractional ps v den position → position < n
first_inside ps n v den position inside h = subst (λ (p : ℕ). p < n) h.position_is (all_at (λ p. p < n) ps h.place 0 inside h.inside)

-- the numbers of a list are those of a function
module _ (ps : List ℕ) (n : ℕ) (f g : ℕ → ℤ) (den : ℤ) (inside : AllByRecursion (λ p. p < n) ps) (same : (j : ℕ) → j < n → f j ≡ g j) where
  at_place : (k : ℕ) → k < length ps → f (slice_index_or ps k 0) ≡ g (slice_index_or ps k 0)
  at_place k l = same (slice_index_or ps k 0) (all_at (λ p. p < n) ps k 0 inside l)

  pub same_fractional : (position : ℕ) → IsFirstFractional ps f den position → IsFirstFractional ps g den position
  same_fractional position h = record {
    place = h.place;
    inside = h.inside;
    position_is = h.position_is;
    fractional = λ w. h.fractional (subst (λ (z : ℤ). IsWhole z den) (sym (here h)) w);
    before = λ k l. subst (λ (z : ℤ). IsWhole z den) (at_place k (omega (arith, h.inside))) (h.before k l);
  }
    where
      here : IsFirstFractional ps f den position → f position ≡ g position
      here h = subst (λ (p : ℕ). f p ≡ g p) h.position_is (at_place h.place h.inside)

  pub same_whole : AllByRecursion (λ p. IsWhole (f p) den) ps → AllByRecursion (λ p. IsWhole (g p) den) ps
  same_whole h = all_both (λ p. p < n) (λ p. IsWhole (f p) den) (λ p. IsWhole (g p) den) ps inside h (λ p l w. subst (λ (z : ℤ). IsWhole z den) (same p l) w)
