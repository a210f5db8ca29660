-- The sides of a box of which no end is wide have no wide end.
use Rattle.std.specs.Prelude.{ℕ, zero, suc, ℤ, pos, ◌+ℤ◌, ◌<ℤ◌, ◌≤ℤ◌, List, [], ◌∷◌, set}
use Rattle.std.specs.List.{AllByRecursion}
use Rattle.std.proofs.Common.{arith}
use Rattle.std.proofs.lemmas.Int.{ints}
use Rattle.bz_algebra.specs.Numbers.{IsNarrow}
use Rattle.bz_model.specs.Points.{coordinate}
use Rattle.bz_tree.specs.declared.records.NodeBox.{NodeBox}

-- no number is wide after one is set, and so none at a place
pub set_narrow : (xs : List ℤ) (k : ℕ) (v : ℤ) → IsNarrow v → AllByRecursion IsNarrow xs → AllByRecursion IsNarrow (set xs k v)
set_narrow [] k v h g = tt
set_narrow (x ∷ xs) zero v h g = (h, g.1)
set_narrow (x ∷ xs) (suc k) v h g = (g.0, set_narrow xs k v h g.1)

pub narrow_at : (xs : List ℤ) (k : ℕ) → AllByRecursion IsNarrow xs → IsNarrow (coordinate xs k)
narrow_at [] k h = omega arith
narrow_at (x ∷ xs) zero h = h.0
narrow_at (x ∷ xs) (suc k) h = narrow_at xs k h.1

between : (l v u : ℤ) → IsNarrow l → IsNarrow u → l ≤ℤ v → v <ℤ u → IsNarrow v × IsNarrow (v +ℤ pos 1)
between l v u h g low high = (omega (arith, ints), omega (arith, ints))

-- no end is wide after an upper end is set, or a lower end to the next number
pub narrow_upper : (b : NodeBox) (k : ℕ) (v : ℤ) → (coordinate b.lower k) ≤ℤ v → v <ℤ (coordinate b.upper k) → AllByRecursion IsNarrow (set b.upper k v)
narrow_upper b k v low high = set_narrow b.upper k v (between (coordinate b.lower k) v (coordinate b.upper k) (narrow_at b.lower k b.lower_narrow) (narrow_at b.upper k b.upper_narrow) low high).0 b.upper_narrow

pub narrow_lower : (b : NodeBox) (k : ℕ) (v : ℤ) → (coordinate b.lower k) ≤ℤ v → v <ℤ (coordinate b.upper k) → AllByRecursion IsNarrow (set b.lower k (v +ℤ pos 1))
narrow_lower b k v low high = set_narrow b.lower k (v +ℤ pos 1) (between (coordinate b.lower k) v (coordinate b.upper k) (narrow_at b.lower k b.lower_narrow) (narrow_at b.upper k b.upper_narrow) low high).1 b.lower_narrow
