-- What contracts see of a search, and what its type keeps.
use Rattle.std.specs.Prelude.{ℕ, ◌≡◌, ◌<◌, ◌≤◌, Bool, true, false, List, length, Some, None}
use Rattle.std.specs.List.{AllByRecursion, slice_get}
use Rattle.bz_model.specs.Decomposed.{IsDecomposed}
use Rattle.bz_model.specs.Parting.{blocks_of}
use Rattle.bz_model.specs.Splits.{Decomposition}
use Rattle.bz_event.specs.declared.events.Entry.{Entry}
use Rattle.bz_history.specs.declared.state.Post.{Post}
use Rattle.bz_history.specs.declared.state.Region.{Region}
use Rattle.bz_history.specs.Budgets.{greatest_budget}
use Rattle.bz_history.specs.Histories.{IsReplay}
use Rattle.bz_history.specs.States.{State, is_done, is_live, opening, replay}
use Rattle.bz_history.specs.Steps.{IsAt}

-- which tasks are handed out: the floor of the next block, each node, and each block of each posted point
pub record Marks : Type 0 where
  pub floor : Bool
  pub nodes : List Bool
  pub blocks : List (List Bool)

-- a search: its split and budget, the region that it began with, what it appended to its history, what is handed out, and
-- whether someone called it off
pub record Seen : Type 0 where
  pub split : Decomposition
  pub budget : ℕ
  pub root : Region
  pub history : List Entry
  pub marks : Marks
  pub quit : Bool

-- what the search knows now: what its history made of the region that it began with
abbrev pub now : Seen → State
now v = replay v.split (opening v.root) v.history

-- a block of the post isn't completed
pub record HasGap (post : Post) : Type 0 where
  pub place : ℕ
  pub empty : slice_get post.fills place ≡ Some None

-- there is a mark for each node, and for each block of each post
pub record AreMarks (d : Decomposition) (t : State) (marks : Marks) : Type 0 where
  pub nodes : length marks.nodes ≡ length t.nodes
  pub posts : length marks.blocks ≡ length t.posts
  pub blocks : AllByRecursion (λ m. length m ≡ blocks_of d.part) marks.blocks

-- The state is what the legal history makes. While the search isn't done, a live post has a block that isn't completed, and
-- units are left: these two aren't true of every legal history, but of what answers append.
pub record IsSearch (d : Decomposition) (budget : ℕ) (root : Region) (es : List Entry) (t : State) (marks : Marks)
    : Type 0 where
  pub decomposed : IsDecomposed d.model d.part
  pub positive : 0 < budget
  pub at_most : budget ≤ greatest_budget
  pub replayed : IsReplay d budget root es t
  pub marks_are : AreMarks d t marks
  pub gaps : is_done t ≡ false → (i : ℕ) (post : Post) → IsAt t.posts i post → is_live post ≡ true → HasGap post
  pub left : is_done t ≡ false → t.units < budget
