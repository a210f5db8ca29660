-- Integer columns that a split names by their position.
use Rattle.std.proofs.Common.{◌≡◌, refl, ℕ, zero, suc, ◌<◌, List, [], ◌∷◌, length, arith, ℤ, pos, ◌+ℤ◌, true, inl, inr}
use Rattle.std.specs.Prelude.{slice_index_or}
use Rattle.std.proofs.lemmas.Bool.{cases_Bool, eq-eqb}
use Rattle.std.specs.List.{position_or_len}
use Rattle.std.specs.Bool.{◌==◌}
use Rattle.bz_model.specs.declared.Model.{Model}
use Rattle.bz_tree.specs.Integers.{integer_at, positions_of}
use Rattle.bz_tree.specs.Trees.{IsSplitOf}
use Rattle.bz_tree.proofs.SplitColumns.{splits_where}

found_within : (positions : List ℕ) (place position : ℕ) → place < length positions → slice_index_or positions place 0 ≡ position → position_or_len (λ n. n == position) positions < length positions
found_within [] place position inside is = absurd (omega arith)
found_within (q ∷ qs) zero position inside is =
    let same : (q == position) ≡ true = eq-eqb q position is in
    rw same (omega arith)
found_within (q ∷ qs) (suc place) position inside is =
    let rest : position_or_len (λ n. n == position) qs < length qs = found_within qs place position (omega arith) is in
    elim (cases_Bool (q == position)) [ inl t ↦ rw t (omega arith) | inr t ↦ rw t (omega arith) ]

-- a number of the list of positions is that of an integer column, which may be split
pub splits_at : (m : Model) (part : List ℕ) (place position : ℕ) (value : ℤ) → place < length (positions_of m part) → slice_index_or (positions_of m part) place 0 ≡ position → IsSplitOf m part (integer_at m part position) position value (value +ℤ pos 1)
splits_at m part place position value inside is = splits_where m part position value (value +ℤ pos 1) refl (found_within (positions_of m part) place position inside is)
