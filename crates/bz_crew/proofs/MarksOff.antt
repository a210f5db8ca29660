-- After a give no mark is set.
use Rattle.std.proofs.Common.{refl, ◌-◌, ℕ, zero, suc, Bool, true, false, List, [], ◌∷◌, ◌++◌, length, set}
use Rattle.std.specs.Prelude.{replicate}
use Rattle.std.specs.List.{AllByRecursion}
use Rattle.bz_model.specs.Parting.{blocks_of}
use Rattle.bz_model.specs.Splits.{Decomposition}
use Rattle.bz_event.specs.declared.tasks.TaskName.TheVariants as name
use Rattle.bz_history.specs.States.{State}
use Rattle.bz_core.specs.Handing.{block_marked, unmarked}
use Rattle.bz_core.specs.Marking.{with_room}
use Rattle.bz_core.specs.Searches.{Marks}
use Rattle.bz_crew.specs.Alone.{AllOff, NothingIsHanded}

-- ---- lists of marks
off_set : (marks : List Bool) (i : ℕ) → AllOff marks → AllOff (set marks i false)
off_set [] i h = h
off_set (m ∷ ms) zero h = (refl, h.1)
off_set (m ∷ ms) (suc i) h = (h.0, off_set ms i h.1)

-- a mark that was set and taken off again
off_again : (marks : List Bool) (i : ℕ) (mark : Bool) → AllOff marks → AllOff (set (set marks i mark) i false)
off_again [] i mark h = h
off_again (m ∷ ms) zero mark h = (refl, h.1)
off_again (m ∷ ms) (suc i) mark h = (h.0, off_again ms i mark h.1)

off_more : (n : ℕ) → AllOff (replicate n false)
off_more zero = tt
off_more (suc n) = (refl, off_more n)

-- more marks, none of them set, behind those of which one is taken off
off_append : (marks more : List Bool) (i : ℕ) → AllOff more → AllOff (set marks i false) → AllOff (set (marks ++ more) i false)
off_append [] more i g h = off_set more i g
off_append (m ∷ ms) more zero g h = (refl, all_append ms more h.1 g)
  where
    all_append : (xs ys : List Bool) → AllOff xs → AllOff ys → AllOff (xs ++ ys)
    all_append [] ys h g = g
    all_append (x ∷ xs) ys h g = (h.0, all_append xs ys h.1 g)
off_append (m ∷ ms) more (suc i) g h = (h.0, off_append ms more i g h.1)

-- ---- blocks of posts
blocks_again : (marks : List (List Bool)) (number block : ℕ) (mark : Bool) → AllByRecursion AllOff marks
    → AllByRecursion AllOff (block_marked (block_marked marks number block mark) number block false)
blocks_again [] number block mark h = h
blocks_again (m ∷ ms) zero block mark h = (off_again m (block - 1) mark h.0, h.1)
blocks_again (m ∷ ms) (suc number) block mark h = (h.0, blocks_again ms number block mark h.1)

blocks_more : (xs ys : List (List Bool)) → AllByRecursion AllOff xs → AllByRecursion AllOff ys → AllByRecursion AllOff (xs ++ ys)
blocks_more [] ys h g = g
blocks_more (x ∷ xs) ys h g = (h.0, blocks_more xs ys h.1 g)

none_of_blocks : (n blocks : ℕ) → AllByRecursion AllOff (replicate n (replicate blocks false))
none_of_blocks zero blocks = tt
none_of_blocks (suc n) blocks = (off_more blocks, none_of_blocks n blocks)

-- ---- the mark of what was handed out, taken off again
pub floor_off : (marks : Marks) (block : ℕ) → NothingIsHanded marks → NothingIsHanded (unmarked (name.Floor block) (record marks { floor = true }))
floor_off marks block h = record { floor = refl; nodes = h.nodes; blocks = h.blocks }

pub node_off : (marks : Marks) (number front : ℕ) → NothingIsHanded marks → NothingIsHanded (unmarked (name.Node number front) (record marks { nodes = set marks.nodes number true }))
node_off marks number front h = record { floor = h.floor; nodes = off_again marks.nodes number true h.nodes; blocks = h.blocks }

pub separation_off : (marks : Marks) (number block : ℕ) → NothingIsHanded marks
    → NothingIsHanded (unmarked (name.Sep number block) (record marks { blocks = block_marked marks.blocks number block true }))
separation_off marks number block h = record { floor = h.floor; nodes = h.nodes; blocks = blocks_again marks.blocks number block true h.blocks }

-- ---- with marks of what an answer of a node adds
pub off_with_room : (d : Decomposition) (before later : State) (marks : Marks) (number front : ℕ) → NothingIsHanded (unmarked (name.Node number front) marks)
    → NothingIsHanded (unmarked (name.Node number front) (with_room d before later marks))
off_with_room d before later marks number front h = record {
  floor = h.floor;
  nodes = off_append marks.nodes (replicate (length later.nodes - length before.nodes) false) number (off_more (length later.nodes - length before.nodes)) h.nodes;
  blocks = blocks_more marks.blocks (replicate (length later.posts - length before.posts) (replicate (blocks_of d.part) false)) h.blocks (none_of_blocks (length later.posts - length before.posts) (blocks_of d.part));
}
