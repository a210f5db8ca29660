-- Marks of the nodes and posts that an answer of a node adds.
use Rattle.std.specs.Prelude.{ℕ, ◌-◌, false, [], ◌∷◌, ◌++◌, length, replicate}
use Rattle.bz_model.specs.Parting.{blocks_of}
use Rattle.bz_model.specs.Splits.{Decomposition}
use Rattle.bz_event.specs.declared.answers.NodeAnswer.{NodeAnswer}
use Rattle.bz_event.specs.declared.answers.Solved.{Solved}
use Rattle.bz_event.specs.declared.events.Event.{Event}
use Rattle.bz_event.specs.declared.events.Event.TheVariants as event
use Rattle.bz_event.specs.declared.events.How.TheVariants as how
use Rattle.bz_history.specs.States.{State}
use Rattle.bz_rules.specs.Entries.{after, node_entries}
use Rattle.bz_core.specs.Handing.{unmarked}
use Rattle.bz_core.specs.Searches.{Marks}

-- what the later state has more than the earlier one isn't handed out
abbrev pub with_room : Decomposition → (before later : State) → Marks → Marks
with_room d before later marks = record marks {
  nodes = marks.nodes ++ replicate (length later.nodes - length before.nodes) false;
  blocks = marks.blocks ++ replicate (length later.posts - length before.posts) (replicate (blocks_of d.part) false);
}

-- what an accepted answer of a node adds isn't handed out, and the node's own mark is off
abbrev pub node_marks : Decomposition → (budget : ℕ) → State → Solved NodeAnswer → Marks → Marks
node_marks d budget t s marks = unmarked s.task (with_room d t (after d t (node_entries d budget t s)) marks)

-- by the event: the two sides of a split, and the blocks of a posted point, aren't handed out
abbrev pub with_added : (blocks : ℕ) → Event → Marks → Marks
with_added blocks (event.Close node (how.Split front basis position value)) marks =
    record marks { nodes = marks.nodes ++ false ∷ false ∷ [] }
with_added blocks (event.Close node (how.Leaf front leaf)) marks = marks
with_added blocks (event.Post node front point leaf) marks =
    record marks { blocks = marks.blocks ++ replicate blocks false ∷ [] }
with_added blocks (event.Floor block basis cut) marks = marks
with_added blocks (event.Ray block direction) marks = marks
with_added blocks (event.Append post basis cut) marks = marks
with_added blocks (event.Again post basis place) marks = marks
with_added blocks (event.Fill post block y) marks = marks
with_added blocks (event.Incumbent post) marks = marks
with_added blocks (event.Stop reason) marks = marks
