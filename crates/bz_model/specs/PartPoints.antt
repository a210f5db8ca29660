-- The point that parts state: the master's, and each block's, and what it is for it to meet the split.
use Rattle.std.specs.Prelude.{ℕ, ℤ, pos, ◌≡◌, ◌-◌, ◌+ℤ◌, ◌*ℤ◌, ◌<◌, ◌<ℤ◌, ◌≤ℤ◌, List, [], ◌∷◌, length}
use Rattle.std.specs.List.{AllByRecursion, enumerate_from}
use Rattle.bz_algebra.specs.Sums.{dot}
use Rattle.bz_model.specs.declared.parts.BlockPart.{BlockPart}
use Rattle.bz_model.specs.declared.records.Ineq.{Ineq}
use Rattle.bz_model.specs.declared.parts.Master.{Master}
use Rattle.bz_model.specs.declared.records.Model.{Model}
use Rattle.bz_model.specs.declared.parts.Parts.{Parts}
use Rattle.bz_model.specs.Parting.{blocks_of, width_of, column_at, terms_in, inequalities_of, inner_cost}
use Rattle.bz_model.specs.Points.{coordinate}

-- the eta of a block
abbrev pub eta_of : Master → ℕ → ℤ
eta_of master b = coordinate master.eta (b - 1)

-- the numbers of a list together
abbrev pub total : List ℤ → ℤ
total [] = pos 0
total (x ∷ xs) = x +ℤ total xs

-- the master's numbers are as many as its columns, over a positive denominator; nothing is said of the etas
pub record HasMasterShape (part : List ℕ) (master : Master) : Type 0 where
  pub den : pos 0 <ℤ master.den
  pub x : length master.x ≡ width_of part 0

-- block b's numbers are as many as its columns, over a positive denominator
abbrev pub HasBlockShape : List ℕ → ℕ × BlockPart → Type 0
HasBlockShape part e = (pos 0 <ℤ e.1.times) × (length e.1.y ≡ width_of part e.0)

-- the lists of the parts' point fit the model's parts; nothing is said of the etas
pub record HasPointShape (m : Model) (part : List ℕ) (parts : Parts) : Type 0 where
  pub master : HasMasterShape part parts.master
  pub blocks : length parts.blocks ≡ blocks_of part
  pub each : AllByRecursion (HasBlockShape part) (enumerate_from 1 parts.blocks)

-- the lists of the parts fit the model's parts, one eta for each block among them
pub record HasShape (m : Model) (part : List ℕ) (parts : Parts) : Type 0 where
  pub point : HasPointShape m part parts
  pub eta : length parts.master.eta ≡ blocks_of part

-- an inequality of the master holds at its point x / den
abbrev pub HoldsInMaster : Master → Ineq → Type 0
HoldsInMaster master i = dot i.own (coordinate master.x) ≤ℤ (i.rhs *ℤ master.den)

-- an inequality of a block holds at x / den with y / (den times)
abbrev pub HoldsInBlock : Master → BlockPart → Ineq → Type 0
HoldsInBlock master block i =
    ((block.times *ℤ dot i.master (coordinate master.x)) +ℤ dot i.own (coordinate block.y))
    ≤ℤ (i.rhs *ℤ (master.den *ℤ block.times))

-- the block's inequalities hold, and its inner cost is at most its eta
pub record BlockHolds (m : Model) (part : List ℕ) (master : Master) (b : ℕ) (block : BlockPart) : Type 0 where
  pub rows : AllByRecursion (HoldsInBlock master block) (inequalities_of m part b)
  pub cost : dot (terms_in part b (inner_cost m)) (coordinate block.y) ≤ℤ (eta_of master b *ℤ block.times)

-- the point p / q of the model is the one of the parts: x / den in the master and y / (den times) in each block
pub record IsPointOf (m : Model) (part : List ℕ) (parts : Parts) (p : List ℤ) (q : ℤ) : Type 0 where
  pub positive : pos 0 <ℤ q
  pub numbers : length p ≡ length m.columns
  pub master : (i : ℕ) → i < width_of part 0 →
      coordinate p (column_at part 0 i) *ℤ parts.master.den ≡ coordinate parts.master.x i *ℤ q
  pub blocks : AllByRecursion
      (λ e. (i : ℕ) → i < width_of part e.0 →
      coordinate p (column_at part e.0 i) *ℤ (parts.master.den *ℤ e.1.times) ≡ coordinate e.1.y i *ℤ q)
      (enumerate_from 1 parts.blocks)
