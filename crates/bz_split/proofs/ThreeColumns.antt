-- The partition of the tests: three columns, in the master, block 2 and block 1.
use Rattle.std.specs.Prelude.{ℕ, zero, suc, ◌<◌, ◌≤◌, ◌≡◌, Contains, [], ◌∷◌, length}
use Rattle.std.proofs.Common.{refl, arith, sym}
use Rattle.bz_model.specs.declared.records.Model.{Model}
use Rattle.bz_model.specs.Strict.{IsPartition}

used : (b : ℕ) → 0 < b → b ≤ 2 → Contains (0 ∷ 2 ∷ 1 ∷ []) b
used zero l h = absurd (omega (arith, l))
used (suc zero) l h = (2, omega arith, refl)
used (suc (suc zero)) l h = (1, omega arith, refl)
used (suc (suc (suc b))) l h = absurd (omega (arith, h))

pub partition_of_three : (m : Model) → length m.columns ≡ 3 → IsPartition m (0 ∷ 2 ∷ 1 ∷ [])
partition_of_three m e = record { numbers = sym e; used = used; few = omega arith }
