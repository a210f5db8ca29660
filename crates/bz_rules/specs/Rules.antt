-- By what an answer is refused: tests with their answers, in their order. Of those that fail the first answers.
use Rattle.std.specs.Prelude.{ℕ, ◌-◌, ◌≡◌, ◌<◌, ◌≤◌, false, true, List, [], ◌∷◌, length, take, suc, Option, Some, None, slice_index_or}
use Rattle.std.specs.List.{slice_get}
use Rattle.bz_first.specs.Tests.{Test, test}
use Rattle.bz_model.specs.declared.Master.{Master}
use Rattle.bz_model.specs.Parting.{blocks_of, inequalities_of}
use Rattle.bz_model.specs.Splits.{Decomposition}
use Rattle.bz_tableau.specs.declared.answers.WideAt.{WideAt}
use Rattle.bz_tableau.specs.declared.answers.WideAt.TheVariants.{Build, Pivot, Den, Fold}
use Rattle.bz_tableau.specs.declared.programs.Lp.{Lp}
use Rattle.bz_std.specs.Posed.{IsProgramOf}
use Rattle.bz_std.specs.Tasks.{IsNodeLp, IsSeparationLp, floor}
use Rattle.bz_event.specs.declared.answers.FloorAnswer.{FloorAnswer}
use Rattle.bz_event.specs.declared.answers.NodeAnswer.{NodeAnswer}
use Rattle.bz_event.specs.declared.answers.SepAnswer.{SepAnswer}
use Rattle.bz_event.specs.declared.answers.SepAnswer.TheVariants as answer
use Rattle.bz_event.specs.declared.answers.Solved.{Solved}
use Rattle.bz_event.specs.declared.tasks.TaskName.{TaskName}
use Rattle.bz_event.specs.declared.tasks.TaskName.TheVariants as name
use Rattle.bz_event.specs.Stops.{IsWideRow}
use Rattle.bz_history.specs.declared.state.Closing.{Closing}
use Rattle.bz_history.specs.declared.state.FallingRay.{FallingRay}
use Rattle.bz_history.specs.declared.state.Filled.{Filled}
use Rattle.bz_history.specs.declared.state.Node.{Node}
use Rattle.bz_history.specs.declared.state.Post.{Post}
use Rattle.bz_history.specs.States.{State, box_of, is_done, is_live, is_open, least_front, mode_of}
use Rattle.bz_history.specs.Steps.{AreFloorsReady}
use Rattle.bz_rules.specs.declared.refused.Refused.{Refused}
use Rattle.bz_rules.specs.declared.refused.Refused.TheVariants as refused

abbrev pub Rules : Type 1
Rules = List (Test Refused)

-- ---- places in the history, 0 of what isn't there
abbrev pub place_of_ray : Option FallingRay → ℕ
place_of_ray None = 0
place_of_ray (Some ray) = ray.at

abbrev pub place_of_closing : Option Closing → ℕ
place_of_closing None = 0
place_of_closing (Some closing) = closing.at

abbrev pub place_of_post : Option Post → ℕ
place_of_post None = 0
place_of_post (Some post) = post.at

-- that of the post of this number
abbrev pub place_of_live : List Post → Option ℕ → ℕ
place_of_live posts None = 0
place_of_live posts (Some number) = place_of_post (slice_get posts number)

-- that of what ended a post
abbrev pub place_of_end : Option ℕ → ℕ
place_of_end None = 0
place_of_end (Some at) = at

abbrev pub place_of_fill : Option (Option Filled) → ℕ
place_of_fill None = 0
place_of_fill (Some None) = 0
place_of_fill (Some (Some filled)) = filled.at

-- ---- rules of all answers
-- the search isn't done; else the last entry has ended it
abbrev pub is_running : State → Test Refused
is_running t = test (refused.Late (t.entries - 1)) (is_done t ≡ false)

-- the block is one of the split's
pub record IsBlock (d : Decomposition) (block : ℕ) : Type 0 where
  pub first : 0 < block
  pub last : block ≤ blocks_of d.part

-- the rules of what has a number, and that it is there
abbrev pub where_there : {X : Type 0} → Option X → (X → Rules) → Rules
where_there None rules = test refused.Unfit ⊥ ∷ []
where_there (Some x) rules = rules x

-- no task is answered so
abbrev pub no_task : Rules
no_task = test refused.Unfit ⊥ ∷ []

-- ---- floors
-- The block's floor is the next: it has none yet, no block's cost falls, and each block before has one. The program is that
-- of the floor.
abbrev pub floor_rules : Decomposition → State → (block : ℕ) → Lp → Rules
floor_rules d t block lp =
    is_running t
    ∷ test refused.Unfit (IsBlock d block)
    ∷ test (refused.Late (slice_index_or t.floors (block - 1) 0)) (length t.floors < block)
    ∷ test (refused.Late (place_of_ray t.ray)) (t.ray ≡ None)
    ∷ test refused.Unfit (block ≡ suc (length t.floors))
    ∷ test refused.Unfit (IsProgramOf (floor d.model d.part block) lp)
    ∷ []

-- ---- nodes
-- The front is one of the search's. The node is open and has no live post, floors are no longer made, and the front is at
-- least the node's least one. The program is that of the node over the front.
abbrev pub waiting_rules : Decomposition → State → (front : ℕ) → Lp → Node → Rules
waiting_rules d t front lp node =
    test refused.Unfit (front ≤ length t.cuts)
    ∷ test (refused.Late (place_of_closing node.closing)) (is_open node ≡ true)
    ∷ test (refused.Late (place_of_live t.posts node.live)) (node.live ≡ None)
    ∷ test refused.Unfit (AreFloorsReady d t)
    ∷ test refused.Unfit (least_front d (mode_of t) node ≤ front)
    ∷ test refused.Unfit (IsNodeLp d.model d.part (box_of node.region) (take front t.cuts) (mode_of t) lp)
    ∷ []

-- the node is there
abbrev pub node_rules : Decomposition → State → (number front : ℕ) → Lp → Rules
node_rules d t number front lp = is_running t ∷ where_there (slice_get t.nodes number) (waiting_rules d t front lp)

-- ---- separations
-- the point is the post's, and the program that of the block's separation there
abbrev pub carried_rules : Decomposition → State → (block : ℕ) → Option Master → Lp → Post → Rules
carried_rules d t block point lp post =
    test refused.Unfit (point ≡ Some post.point)
    ∷ test refused.Unfit (IsSeparationLp d.model d.part post.point block (mode_of t) lp)
    ∷ []

-- for a right side's wide sum there is no program: that the sum is wide at the post's point
abbrev pub stopped_rules : Decomposition → State → (block : ℕ) → Option Master → Lp → WideAt → Post → Rules
stopped_rules d t block point lp (Build row) post =
    test refused.Unfit (point ≡ Some post.point)
    ∷ test refused.Unfit (IsWideRow post.point (inequalities_of d.model d.part block) row)
    ∷ []
stopped_rules d t block point lp (Pivot relaxed basis goal row pivot_row column) post = carried_rules d t block point lp post
stopped_rules d t block point lp (Den relaxed basis at) post = carried_rules d t block point lp post
stopped_rules d t block point lp (Fold relaxed basis column list at) post = carried_rules d t block point lp post

-- the post is live, and the block isn't filled
abbrev pub needed_rules : (block : ℕ) → Rules → Post → Rules
needed_rules block rules post =
    test (refused.Late (place_of_end post.ended)) (is_live post ≡ true)
    ∷ test (refused.Late (place_of_fill (slice_get post.fills (block - 1)))) (slice_get post.fills (block - 1) ≡ Some None)
    ∷ rules

-- A cut of a post that isn't live still enters.
abbrev pub cut_rules : Decomposition → State → (block : ℕ) → Option Master → Lp → Post → Rules
cut_rules d t block point lp post = test refused.Unfit (IsBlock d block) ∷ carried_rules d t block point lp post

abbrev pub fill_rules : Decomposition → State → (block : ℕ) → Option Master → Lp → Post → Rules
fill_rules d t block point lp post =
    test refused.Unfit (IsBlock d block) ∷ needed_rules block (carried_rules d t block point lp post) post

abbrev pub separation_rules : Decomposition → State → (block : ℕ) → Option Master → Lp → SepAnswer → Post → Rules
separation_rules d t block point lp (answer.Cut basis cut) post = cut_rules d t block point lp post
separation_rules d t block point lp (answer.Fill y) post = fill_rules d t block point lp post

abbrev pub stop_rules : Decomposition → State → (block : ℕ) → Option Master → Lp → WideAt → Post → Rules
stop_rules d t block point lp wide post =
    test refused.Unfit (IsBlock d block) ∷ needed_rules block (stopped_rules d t block point lp wide post) post

-- ---- by the task that is answered
abbrev pub floor_task_rules : Decomposition → State → Lp → TaskName → Rules
floor_task_rules d t lp (name.Floor block) = floor_rules d t block lp
floor_task_rules d t lp (name.Node number front) = no_task
floor_task_rules d t lp (name.Sep number block) = no_task

abbrev pub node_task_rules : Decomposition → State → Lp → TaskName → Rules
node_task_rules d t lp (name.Floor block) = no_task
node_task_rules d t lp (name.Node number front) = node_rules d t number front lp
node_task_rules d t lp (name.Sep number block) = no_task

-- the post is there
abbrev pub separation_task_rules : Decomposition → State → Option Master → Lp → SepAnswer → TaskName → Rules
separation_task_rules d t point lp a (name.Floor block) = no_task
separation_task_rules d t point lp a (name.Node number front) = no_task
separation_task_rules d t point lp a (name.Sep number block) =
    is_running t ∷ where_there (slice_get t.posts number) (separation_rules d t block point lp a)

-- stops of all three kinds
abbrev pub stop_task_rules : Decomposition → State → Option Master → Lp → WideAt → TaskName → Rules
stop_task_rules d t point lp wide (name.Floor block) = floor_rules d t block lp
stop_task_rules d t point lp wide (name.Node number front) = node_rules d t number front lp
stop_task_rules d t point lp wide (name.Sep number block) =
    is_running t ∷ where_there (slice_get t.posts number) (stop_rules d t block point lp wide)

abbrev pub floor_answer_rules : Decomposition → State → Solved FloorAnswer → Rules
floor_answer_rules d t s = floor_task_rules d t s.lp s.task

abbrev pub node_answer_rules : Decomposition → State → Solved NodeAnswer → Rules
node_answer_rules d t s = node_task_rules d t s.lp s.task

abbrev pub separation_answer_rules : Decomposition → State → Solved SepAnswer → Rules
separation_answer_rules d t s = separation_task_rules d t s.point s.lp s.answer s.task

abbrev pub stop_answer_rules : Decomposition → State → Solved WideAt → Rules
stop_answer_rules d t s = stop_task_rules d t s.point s.lp s.answer s.task
