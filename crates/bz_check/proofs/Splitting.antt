-- Which integer column stands at a position.
use Rattle.std.proofs.Common.{◌≡◌, refl, ap, ℕ, ◌+◌, ◌<◌, ◌≤◌, List, [], ◌∷◌, length, map, get_or, arith, ℤ, pos, ◌+ℤ◌, nat_lt, Bool, inl, inr, Option, Some, Result}
use Rattle.std.proofs.lemmas.Bool.{cases_Bool}
use Rattle.std.proofs.lemmas.List.{length-map}
use Rattle.std.proofs.lemmas.List.Sums.{passes_at_first}
use Rattle.std.proofs.lemmas.Option.{slice_get-get_or, slice_get_within}
use Rattle.std.specs.List.{position, position_or_len, slice_get}
use Rattle.std.specs.Bool.{◌==◌}
use borrow.Author.Tests.{eqb-true, ltb-true, ltb-false}
use Rattle.bz_model.specs.declared.Column.{Column}
use Rattle.bz_model.specs.declared.Model.{Model}
use Rattle.bz_model.specs.Parting.{integers_of, position_of}
use Rattle.std.specs.Option.{ok_or}
use Rattle.bz_first.specs.Tests.{Judges, test}
use Rattle.bz_tree.specs.Trees.{IsSplitOf}
use Rattle.bz_judge.specs.declared.CheckFault.{CheckFault}
use Rattle.bz_judge.specs.declared.CheckFault.TheVariants as fault
use Rattle.bz_tree.specs.Integers.{integer_at, positions_of}
use Rattle.bz_tree.proofs.SplitColumns.{place_is, splits_where}

pub none_where : (m : Model) (part : List ℕ) (p : ℕ) (left right : ℤ) → length (positions_of m part) ≤ position_or_len (λ n. n == p) (positions_of m part) → IsSplitOf m part (integer_at m part p) p left right → ⊥
none_where m part p left right past h =
    let same = place_is m part p in
    let count = length-map (integers_of m) (λ e. position_of part e.0) in
    let within : integer_at m part p < length (integers_of m) = slice_get_within (integers_of m) (integer_at m part p) h.column h.is_column in
    omega (arith, same, count, past, within)

-- the place that is looked for, or none
pub split_judged : (m : Model) (part positions : List ℕ) (node p : ℕ) (left right : ℤ) (found : Option ℕ) (r : Result ℕ CheckFault) → positions ≡ positions_of m part → right ≡ left +ℤ pos 1 → found ≡ position (λ n. n == p) positions → r ≡ ok_or found (fault.Cover node) → Judges (test (fault.Cover node) (IsSplitOf m part (integer_at m part p) p left right) ∷ []) r
split_judged m part positions node p left right found r are next e o =
    let k : ℕ = position_or_len (λ n. n == p) positions in
    elim (cases_Bool (nat_lt k (length positions))) [
      | inl t ↦
          let within : k < length positions = ltb-true k (length positions) t in
          rw (o, e, t) (splits_where m part p left right next (rw are at within), tt)
      | inr t ↦
          let past : length positions ≤ k = ltb-false k (length positions) t in
          rw (o, e, t) (inl (none_where m part p left right (rw are at past), refl))
    ]
