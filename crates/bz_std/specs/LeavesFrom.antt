-- Leaves that multipliers of a node's sides make, as an answer of its program names them.
use Rattle.std.specs.Prelude.{ℕ, ℤ, ◌≡◌, length}
use Rattle.std.proofs.Math.IntN.{neg_ℤ}
use Rattle.bz_tree.specs.declared.Leaf.{Leaf}
use Rattle.bz_std.specs.CutsFrom.{AreEntries}
use Rattle.bz_std.specs.Meanings.{sum_right}
use Rattle.bz_std.specs.Posed.{Posed}

-- The leaf has the multipliers y for its lambda, `by` for its delta, and for its bound what they make of the right
-- sides, with the other sign.
pub record IsLeafFrom (q : Posed) (y : ℕ → ℤ) (by : ℤ) (leaf : Leaf) : Type 0 where
  pub lambda : AreEntries (length q.rows) y leaf.lambda
  pub delta : leaf.delta ≡ by
  pub bound : leaf.bound ≡ neg_ℤ (sum_right q y)
