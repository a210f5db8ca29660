-- The values of a model's columns and its objective at the point that parts state, and when they are told.
use Rattle.std.specs.Prelude.{ℕ, zero, suc, ◌≡◌, ◌<◌, ℤ, pos, ◌*ℤ◌, List, length, Option, Some, None}
use Rattle.std.specs.List.{AllByRecursion, slice_get}
use Rattle.bz_algebra.specs.Fractions.{Fraction, whole}
use Rattle.bz_algebra.specs.Numbers.{IsNarrow}
use Rattle.bz_model.specs.declared.BlockPart.{BlockPart}
use Rattle.bz_model.specs.declared.Master.{Master}
use Rattle.bz_model.specs.declared.Parts.{Parts}
use Rattle.bz_model.specs.Decomposed.{IsDecomposed}
use Rattle.bz_model.specs.Parting.{part_of, position_of}
use Rattle.bz_model.specs.PartPoints.{HasPointShape, IsPointOf}
use Rattle.bz_model.specs.Points.{coordinate}
use Rattle.bz_model.specs.Splits.{Decomposition}
use Rattle.bz_model.specs.Stated.{objective_of}
use Rattle.bz_cut.specs.declared.Mode.TheVariants as mode
use Rattle.bz_std.specs.Tasks.{IsMasterOf}
use Rattle.bz_event.specs.declared.events.Entry.{Entry}
use Rattle.bz_event.specs.Nodes.{FitsValue, value_of}
use Rattle.bz_history.specs.declared.state.Post.{Post}
use Rattle.bz_history.specs.declared.state.Region.{Region}
use Rattle.bz_history.specs.Finished.{parts_of}
use Rattle.bz_history.specs.Histories.{IsReplay}
use Rattle.bz_history.specs.States.{State}
use Rattle.bz_history.specs.Steps.{IsBest}
use Rattle.bz_report.specs.LowestTerms.{IsLowestOf, lowest}

-- ---- values
-- the value at a position of the master: x / den
abbrev pub master_value : Master → ℕ → Fraction
master_value master i = record { num = coordinate master.x i; den = master.den }

-- the value at a position of a block: y / (den times), with the master's denominator
abbrev pub block_value : Master → BlockPart → ℕ → Fraction
block_value master block i = record { num = coordinate block.y i; den = master.den *ℤ block.times }

-- the same, where the block has a part, and else 0
abbrev pub value_in_block : Master → Option BlockPart → ℕ → Fraction
value_in_block master None i = whole (pos 0)
value_in_block master (Some block) i = block_value master block i

-- the value at a position of a part: the master is part 0, and block b's part stands at place b - 1
abbrev pub value_in : Parts → ℕ → ℕ → Fraction
value_in parts zero i = master_value parts.master i
value_in parts (suc b) i = value_in_block parts.master (slice_get parts.blocks b) i

-- the value of a column of the model
abbrev pub value_at : List ℕ → Parts → ℕ → Fraction
value_at part parts j = value_in parts (part_of part j) (position_of part j)

-- the objective that the master's point states with its etas
abbrev pub objective_at : Decomposition → Parts → Fraction
objective_at d parts = objective_of d.model (value_of d.model d.part parts.master) parts.master.den

-- ---- what is known of the parts
-- they have the lists of the model's parts, and no denominator of a block is wide
pub record HasValues (d : Decomposition) (parts : Parts) : Type 0 where
  pub columns : length d.part ≡ length d.model.columns
  pub shape : HasPointShape d.model d.part parts
  pub narrow : AllByRecursion (λ block. IsNarrow (parts.master.den *ℤ block.times)) parts.blocks

-- the master's point has an eta for each block, and no sum is wide that makes its objective
pub record HasObjective (d : Decomposition) (parts : Parts) : Type 0 where
  pub shape : IsMasterOf d.part parts.master
  pub fits : FitsValue d.model d.part mode.Cost parts.master

-- ---- laws
-- What is printed of each column is its coordinate, in lowest terms, at each point of the parts.
abbrev pub ValuesAreCoordinates : Type 0
ValuesAreCoordinates =
    (d : Decomposition) (parts : Parts) (p : List ℤ) (q : ℤ) → HasValues d parts → IsPointOf d.model d.part parts p q →
    (j : ℕ) → j < length d.model.columns →
    IsLowestOf (record { num = coordinate p j; den = q }) (lowest (value_at d.part parts j))

-- The parts of the best post of every legal history have such values.
abbrev pub BestHasValues : Type 0
BestHasValues =
    (d : Decomposition) (budget : ℕ) (root : Region) (es : List Entry) (t : State) → IsDecomposed d.model d.part →
    IsReplay d budget root es t → (post : Post) → IsBest t post → HasValues d (parts_of post)
