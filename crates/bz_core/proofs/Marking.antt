-- Marks are as many as before.
use Rattle.std.proofs.Common.{◌≡◌, ◌-◌, ◌∙◌, ℕ, zero, suc, Bool, false, List, [], ◌∷◌, length, set}
use Rattle.std.proofs.lemmas.List.{length-set}
use Rattle.std.specs.List.{AllByRecursion}
use Rattle.bz_model.specs.Parting.{blocks_of}
use Rattle.bz_model.specs.Splits.{Decomposition}
use Rattle.bz_event.specs.declared.tasks.TaskName.{TaskName}
use Rattle.bz_event.specs.declared.tasks.TaskName.TheVariants as name
use Rattle.bz_history.specs.States.{State}
use Rattle.bz_history.proofs.Lists.{length-changed}
use Rattle.bz_core.specs.Handing.{block_marked, unmarked}
use Rattle.bz_core.specs.Searches.{AreMarks, Marks}

lengths_kept : (n : ℕ) (marks : List (List Bool)) (number block : ℕ) (mark : Bool) → AllByRecursion (λ m. length m ≡ n) marks
    → AllByRecursion (λ m. length m ≡ n) (block_marked marks number block mark)
lengths_kept n [] number block mark h = h
lengths_kept n (m ∷ ms) zero block mark h = (length-set m (block - 1) mark ∙ h.0, h.1)
lengths_kept n (m ∷ ms) (suc number) block mark h = (h.0, lengths_kept n ms number block mark h.1)

pub block_marked_kept : (d : Decomposition) (t : State) (marks : Marks) (number block : ℕ) (mark : Bool) → AreMarks d t marks
    → AreMarks d t (record marks { blocks = block_marked marks.blocks number block mark })
block_marked_kept d t marks number block mark h = record {
  nodes = h.nodes;
  posts = length-changed (λ (m : List Bool). set m (block - 1) mark) marks.blocks number ∙ h.posts;
  blocks = lengths_kept (blocks_of d.part) marks.blocks number block mark h.blocks;
}

-- without the mark of a task there are as many
pub unmarked_kept : (d : Decomposition) (t : State) (marks : Marks) (task : TaskName) → AreMarks d t marks → AreMarks d t (unmarked task marks)
unmarked_kept d t marks (name.Floor block) h = record { nodes = h.nodes; posts = h.posts; blocks = h.blocks }
unmarked_kept d t marks (name.Node number front) h = record { nodes = length-set marks.nodes number false ∙ h.nodes; posts = h.posts; blocks = h.blocks }
unmarked_kept d t marks (name.Sep number block) h = block_marked_kept d t marks number block false h
