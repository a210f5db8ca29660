-- Where the sums of a point are not wide: no sum or product that tells what holds there.
use Rattle.std.specs.Prelude.{ℕ, ℤ, ◌*ℤ◌, List}
use Rattle.std.specs.List.{AllByRecursion, enumerate_from}
use Rattle.bz_algebra.specs.Numbers.{IsNarrow}
use Rattle.bz_algebra.specs.Sums.{dot}
use Rattle.bz_num.specs.Fold.{IsNarrowSum}
use Rattle.bz_model.specs.declared.parts.BlockPart.{BlockPart}
use Rattle.bz_model.specs.declared.records.Ineq.{Ineq}
use Rattle.bz_model.specs.declared.parts.Master.{Master}
use Rattle.bz_model.specs.declared.records.Model.{Model}
use Rattle.bz_model.specs.declared.parts.Parts.{Parts}
use Rattle.bz_model.specs.Parting.{inequalities_of, inner_cost, terms_in}
use Rattle.bz_model.specs.PartPoints.{eta_of}
use Rattle.bz_model.specs.Points.{coordinate}
use Rattle.bz_model.specs.PointSums.{joined_pairs, row_pairs, stated_pairs}

-- In a sum the pairs stand with their indexes rising.

-- an inequality of the master at its point: the sum, and the right side times the denominator
pub record FitsInMaster (master : Master) (i : Ineq) : Type 0 where
  pub sum : IsNarrowSum (row_pairs i.own master.x)
  pub side : IsNarrow (i.rhs *ℤ master.den)

-- An inequality of a block: its sum in the master, its sum in the block, the first times `times` and then the second
-- together, and the right side times the block's denominator.
pub record FitsInBlock (master : Master) (block : BlockPart) (i : Ineq) : Type 0 where
  pub in_master : IsNarrowSum (row_pairs i.master master.x)
  pub in_block : IsNarrowSum (row_pairs i.own block.y)
  pub together : IsNarrowSum (joined_pairs block.times (dot i.master (coordinate master.x)) (dot i.own (coordinate block.y)))
  pub side : IsNarrow (i.rhs *ℤ (master.den *ℤ block.times))

-- a block: its denominator and its inequalities
pub record FitsBlock (m : Model) (part : List ℕ) (master : Master) (b : ℕ) (block : BlockPart) : Type 0 where
  pub scale : IsNarrow (master.den *ℤ block.times)
  pub rows : AllByRecursion (FitsInBlock master block) (inequalities_of m part b)

-- the point of the parts
pub record FitsPoint (m : Model) (part : List ℕ) (parts : Parts) : Type 0 where
  pub master : AllByRecursion (FitsInMaster parts.master) (inequalities_of m part 0)
  pub blocks : AllByRecursion (λ e. FitsBlock m part parts.master e.0 e.1) (enumerate_from 1 parts.blocks)

-- a block's inner cost, and its eta times `times`
pub record FitsCost (m : Model) (part : List ℕ) (master : Master) (b : ℕ) (block : BlockPart) : Type 0 where
  pub cost : IsNarrowSum (row_pairs (terms_in part b (inner_cost m)) block.y)
  pub eta : IsNarrow (eta_of master b *ℤ block.times)

-- the objective that a value over a denominator states: its numerator's sum, and the product of its denominator
pub record FitsStated (m : Model) (value den : ℤ) : Type 0 where
  pub sum : IsNarrowSum (stated_pairs m value den)
  pub product : IsNarrow (m.scale *ℤ den)
