-- The nodes of a worked example.
use Rattle.std.specs.Prelude.{ℕ, ◌≡◌, Some}
use Rattle.bz_event.specs.declared.events.How.{How}
use Rattle.bz_event.specs.declared.events.How.TheVariants as how
use Rattle.bz_history.specs.declared.state.Node.{Node}

-- it is a leaf
abbrev pub IsLeafEnd : How → Type 0
IsLeafEnd (how.Split front basis position value) = ⊥
IsLeafEnd (how.Leaf front leaf) = Unit {0}

-- the node is closed so, by the first entry
abbrev pub IsEndedBy : How → ℕ → Node → Type 0
IsEndedBy h kids node = node.closing ≡ Some (record { how = h; at = 0; kids = kids })
