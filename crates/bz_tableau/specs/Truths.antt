-- What an answer says of all the points of its program, in words that know no basis.
use Rattle.std.specs.Prelude.{ℕ, ℤ, pos, ◌+ℤ◌, ◌*ℤ◌, ◌≤ℤ◌, ◌<ℤ◌, Bool, true, false}
use Rattle.bz_algebra.specs.Tableaus.{Program, rows_of}
use Rattle.bz_tableau.specs.Points.{MeetsRows, cost_at}

-- x / den is a point of the program, relaxed as said: each row holds, and no number is negative
pub record IsPointOf (relaxed : Bool) (p : Program) (x : ℕ → ℤ) (den : ℤ) : Type 0 where
  pub positive : (pos 0) <ℤ den
  pub meets : MeetsRows (rows_of relaxed p) x den

-- z / den is a point, and no point costs less
pub record CostsLeast (relaxed : Bool) (p : Program) (z : ℕ → ℤ) (den : ℤ) : Type 0 where
  pub point : IsPointOf relaxed p z den
  pub least : (x : ℕ → ℤ) (q : ℤ) → IsPointOf relaxed p x q → (cost_at relaxed p z *ℤ q) ≤ℤ (cost_at relaxed p x *ℤ den)

-- no point of the relaxed program has a lesser s than z / den, which is one
pub record HasLeastS (p : Program) (z : ℕ → ℤ) (den : ℤ) : Type 0 where
  pub point : IsPointOf true p z den
  pub least : (x : ℕ → ℤ) (q : ℤ) → IsPointOf true p x q → (z p.columns *ℤ q) ≤ℤ (x p.columns *ℤ den)

-- the program has no point
abbrev pub HasNoPoint : Program → Type 0
HasNoPoint p = (x : ℕ → ℤ) (q : ℤ) → IsPointOf false p x q → ⊥

-- z + k d
abbrev pub along : (ℕ → ℤ) → (ℕ → ℤ) → ℤ → ℕ → ℤ
along z d k j = z j +ℤ (k *ℤ d j)

-- (z + k d) / den is a point for every k that isn't negative, and whatever the number n, one of these points costs less
pub record FallsBelowAll (p : Program) (z : ℕ → ℤ) (den : ℤ) (d : ℕ → ℤ) : Type 0 where
  pub points : (k : ℤ) → (pos 0) ≤ℤ k → IsPointOf false p (along z d k) den
  pub costs : (n : ℤ) → (k : ℤ) × ((pos 0) ≤ℤ k) × ((cost_at false p (along z d k)) <ℤ (n *ℤ den))
