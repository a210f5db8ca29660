-- How long the lists of a search are.
use Rattle.std.specs.Prelude.{ℕ, ◌+◌, ◌*◌, ◌≡◌, ◌≤◌, List, [], ◌∷◌, cond, length}
use Rattle.bz_model.specs.Parting.{blocks_of}
use Rattle.bz_model.specs.Splits.{Decomposition}
use Rattle.bz_event.specs.declared.events.Entry.{Entry}
use Rattle.bz_history.specs.declared.state.Node.{Node}
use Rattle.bz_history.specs.declared.state.Region.{Region}
use Rattle.bz_history.specs.Histories.{IsReplay}
use Rattle.bz_history.specs.States.{State, is_open}

-- how many nodes are closed
abbrev pub closed_in : List Node → ℕ
closed_in [] = 0
closed_in (node ∷ nodes) = cond (is_open node) 0 1 + closed_in nodes

-- The entries are counted. The units are those of the closed nodes and of the cuts that came after the floors, and never
-- more than the budget; a closed node opens two at most.
pub record AreSizes (d : Decomposition) (budget : ℕ) (es : List Entry) (t : State) : Type 0 where
  pub entries : t.entries ≡ length es
  pub units : length t.floors + t.units ≡ length t.cuts + closed_in t.nodes
  pub spent : t.units ≤ budget
  pub nodes : length t.nodes ≤ 1 + 2 * closed_in t.nodes
  pub floors : length t.floors ≤ blocks_of d.part

abbrev pub SizesAreRight : Type 0
SizesAreRight =
    (d : Decomposition) (budget : ℕ) (root : Region) (es : List Entry) (t : State) → IsReplay d budget root es t →
    AreSizes d budget es t
