-- Two costs over one row by hand, so that the definitions are seen to say what they should: in one column, d <= 0.
use Rattle.std.specs.Prelude.{◌≡◌, pos, negsuc, [], ◌∷◌}
use Rattle.std.proofs.Common.{refl, arith}
use Rattle.std.proofs.lemmas.Int.{ints}
use Rattle.bz_farkas.specs.SparseFalls.{IsFallOf, IsBalanceOf}

-- the cost d falls along d = -1
falling : IsFallOf (((0, pos 1) ∷ []) ∷ []) ((0, pos 1) ∷ []) (λ j. negsuc 0)
falling = record { rows_hold = (omega (arith, ints), tt); cost_falls = omega (arith, ints) }

-- the cost -2 d is balanced by twice the row: 2 d - 2 d
balanced : IsBalanceOf 1 (((0, pos 1) ∷ []) ∷ []) ((0, negsuc 1) ∷ []) ((0, pos 2) ∷ []) (pos 1)
balanced = record { multipliers = (omega arith, omega (arith, ints), tt); positive = omega (arith, ints); balanced = λ j l. let first : j ≡ 0 = omega arith in rw first refl }
