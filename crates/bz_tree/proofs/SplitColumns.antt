-- Which integer column stands at a position.
use Rattle.std.proofs.Common.{◌≡◌, refl, ap, ℕ, ◌+◌, ◌<◌, List, [], ◌∷◌, length, map, get_or, arith, ℤ, pos, ◌+ℤ◌, Bool, inl, inr, Some}
use Rattle.std.proofs.lemmas.Bool.{cases_Bool}
use Rattle.std.proofs.lemmas.List.{length-map}
use Rattle.std.proofs.lemmas.List.Sums.{passes_at_first}
use Rattle.std.proofs.lemmas.Option.{slice_get-get_or}
use Rattle.std.specs.List.{position_or_len, slice_get}
use Rattle.std.specs.Bool.{◌==◌}
use borrow.Author.Tests.{eqb-true}
use Rattle.bz_model.specs.declared.Column.{Column}
use Rattle.bz_model.specs.declared.Model.{Model}
use Rattle.bz_model.specs.Parting.{integers_of, position_of}
use Rattle.bz_tree.specs.Integers.{integer_at, positions_of}
use Rattle.bz_tree.specs.Trees.{IsSplitOf}

place_mapped : {X : Type 0} (f : X → ℕ) (xs : List X) (p : ℕ) → position_or_len (λ n. n == p) (map f xs) ≡ position_or_len (λ x. f x == p) xs
place_mapped f [] p = refl
place_mapped f (x ∷ xs) p = elim (cases_Bool (f x == p)) [ inl t ↦ rw t refl | inr t ↦ rw t (ap (λ (n : ℕ). 1 + n) (place_mapped f xs p)) ]

-- the place among the positions is that among the integer columns
pub place_is : (m : Model) (part : List ℕ) (p : ℕ) → position_or_len (λ n. n == p) (positions_of m part) ≡ integer_at m part p
place_is m part p = place_mapped (λ e. position_of part e.0) (integers_of m) p

stands_at : (part : List ℕ) (es : List (ℕ × Column)) (p : ℕ) → position_or_len (λ e. position_of part e.0 == p) es < length es → (e : ℕ × Column) × (slice_get es (position_or_len (λ d. position_of part d.0 == p) es) ≡ Some e) × (position_of part e.0 ≡ p)
stands_at part [] p l = absurd (omega arith)
stands_at part (e ∷ es) p l =
    let test : ℕ × Column → Bool = λ d. position_of part d.0 == p in
    let k : ℕ = position_or_len test (e ∷ es) in
    (get_or (e ∷ es) k e, slice_get-get_or (e ∷ es) k e l, eqb-true (position_of part (get_or (e ∷ es) k e).0) p (passes_at_first test (e ∷ es) e l))

pub splits_where : (m : Model) (part : List ℕ) (p : ℕ) (left right : ℤ) → right ≡ left +ℤ pos 1 → position_or_len (λ n. n == p) (positions_of m part) < length (positions_of m part) → IsSplitOf m part (integer_at m part p) p left right
splits_where m part p left right next within =
    let same = place_is m part p in
    let count = length-map (integers_of m) (λ e. position_of part e.0) in
    let at = stands_at part (integers_of m) p (omega (arith, same, count, within)) in
    record { column = at.0; is_column = at.1; at_position = at.2; next = next }
