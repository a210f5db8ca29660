-- Lists of inequalities, by the places in them.
use Rattle.std.specs.Prelude.{ℕ, zero, suc, ℤ, pos, List, [], ◌∷◌}
use Rattle.bz_model.specs.declared.records.Ineq.{Ineq}
use Rattle.bz_model.specs.declared.entries.Terms.{Terms}
use Rattle.bz_model.specs.declared.entries.Terms.TheVariants.{Own, Master}

-- the own terms of inequality n of a list; none past its end
abbrev pub own_at : List Ineq → ℕ → List (ℕ × ℤ)
own_at [] n = []
own_at (i ∷ is) zero = i.own
own_at (i ∷ is) (suc n) = own_at is n

-- its master terms
abbrev pub master_at : List Ineq → ℕ → List (ℕ × ℤ)
master_at [] n = []
master_at (i ∷ is) zero = i.master
master_at (i ∷ is) (suc n) = master_at is n

-- its right side
abbrev pub rhs_at : List Ineq → ℕ → ℤ
rhs_at [] n = pos 0
rhs_at (i ∷ is) zero = i.rhs
rhs_at (i ∷ is) (suc n) = rhs_at is n

-- the own or the master terms of an inequality
abbrev pub terms_of : Terms → Ineq → List (ℕ × ℤ)
terms_of Own i = i.own
terms_of Master i = i.master

-- the own or the master terms of inequality n of a list; none past its end
abbrev pub terms_at : Terms → List Ineq → ℕ → List (ℕ × ℤ)
terms_at Own rows n = own_at rows n
terms_at Master rows n = master_at rows n
