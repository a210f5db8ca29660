-- The text of a search's report.
use Rattle.std.specs.Prelude.{ℕ, suc, ℤ, ◌-◌, List, [], ◌∷◌, ◌++◌, length, Option, Some, None, codes}
use Rattle.std.specs.List.{slice_get}
use Rattle.bz_algebra.specs.Fractions.{Fraction, whole}
use Rattle.bz_model.specs.declared.Column.{Column}
use Rattle.bz_model.specs.declared.Parts.{Parts}
use Rattle.bz_model.specs.Points.{coordinate}
use Rattle.bz_model.specs.Splits.{Decomposition}
use Rattle.bz_tableau.specs.declared.answers.WideAt.{WideAt}
use Rattle.bz_tableau.specs.declared.answers.WideAt.TheVariants as wide
use Rattle.bz_event.specs.declared.answers.Solved.{Solved}
use Rattle.bz_event.specs.declared.events.Entry.{Entry}
use Rattle.bz_event.specs.declared.events.Event.{Event}
use Rattle.bz_event.specs.declared.events.Event.TheVariants as event
use Rattle.bz_event.specs.declared.events.Why.TheVariants as why
use Rattle.bz_event.specs.declared.tasks.TaskName.{TaskName}
use Rattle.bz_event.specs.declared.tasks.TaskName.TheVariants as task
use Rattle.bz_event.specs.Floors.{placed}
use Rattle.bz_history.specs.declared.state.FallingRay.{FallingRay}
use Rattle.bz_history.specs.declared.state.Outcome.{Outcome}
use Rattle.bz_history.specs.declared.state.Outcome.TheVariants as outcome
use Rattle.bz_history.specs.declared.state.Post.{Post}
use Rattle.bz_history.specs.Finished.{parts_of}
use Rattle.bz_history.specs.Outcomes.{outcome_of}
use Rattle.bz_history.specs.States.{State}
use Rattle.bz_text.specs.Texts.{fraction_line, line, numbered, with_numbers}
use Rattle.bz_report.specs.LowestTerms.{lowest}
use Rattle.bz_report.specs.Values.{objective_at, value_at}

-- ---- what is reported
-- the parts of the post with the number, where there is one
abbrev pub parts_where : Option Post → Option Parts
parts_where None = None
parts_where (Some post) = Some (parts_of post)

abbrev pub parts_at : List Post → Option ℕ → Option Parts
parts_at posts None = None
parts_at posts (Some i) = parts_where (slice_get posts i)

-- the parts of the best post
abbrev pub best_parts : State → Option Parts
best_parts t = parts_at t.posts t.best

-- the last entry of a history
abbrev pub last_entry : List Entry → Option Entry
last_entry es = slice_get es (length es - 1)

-- ---- points and directions
-- the line of a name and a fraction
abbrev pub name_line : List ℕ → Fraction → List ℕ
name_line name f = fraction_line name f.num f.den

-- a line for each column, the first of which has the number j: its name and its fraction
abbrev pub column_lines : (ℕ → Fraction) → ℕ → List Column → List ℕ
column_lines f j [] = []
column_lines f j (column ∷ columns) = name_line column.name (f j) ++ column_lines f (suc j) columns

-- the value of a column, in lowest terms
abbrev pub printed_value : Decomposition → Parts → ℕ → Fraction
printed_value d parts j = lowest (value_at d.part parts j)

-- the value of each column
abbrev pub point_text : Decomposition → Parts → List ℕ
point_text d parts = line (codes "point") ++ column_lines (printed_value d parts) 0 d.model.columns

-- the number of each column in a list
abbrev pub number_of : List ℤ → ℕ → Fraction
number_of steps j = whole (coordinate steps j)

-- the direction over all columns of the model: the block's number at each of its columns, and 0 elsewhere
abbrev pub direction_text : Decomposition → FallingRay → List ℕ
direction_text d ray =
    line (codes "direction") ++ column_lines (number_of (placed d.part ray.block ray.d)) 0 d.model.columns

-- the line of a word and the objective, in lowest terms
abbrev pub objective_line : List ℕ → Decomposition → Parts → List ℕ
objective_line word d parts = name_line word (lowest (objective_at d parts))

-- ---- verdicts
-- the verdict, the objective and the point; each legal history that comes to this has a best post
abbrev pub optimal_text : Decomposition → Option Parts → List ℕ
optimal_text d None = line (codes "verdict optimal")
optimal_text d (Some parts) =
    line (codes "verdict optimal") ++ objective_line (codes "objective") d parts ++ point_text d parts

abbrev pub infeasible_text : List ℕ
infeasible_text = line (codes "verdict infeasible")

-- the point and a direction along which the objective has no limit; each legal history that comes to this has both
abbrev pub point_where : Decomposition → Option Parts → List ℕ
point_where d None = []
point_where d (Some parts) = point_text d parts

abbrev pub direction_where : Decomposition → Option FallingRay → List ℕ
direction_where d None = []
direction_where d (Some ray) = direction_text d ray

abbrev pub unbounded_text : Decomposition → Option Parts → Option FallingRay → List ℕ
unbounded_text d parts ray = line (codes "verdict unbounded") ++ point_where d parts ++ direction_where d ray

-- ---- stops
-- which task it is; a node without the number of its cuts
abbrev pub task_text : TaskName → List ℕ
task_text (task.Floor block) = codes "floor" ++ numbered block
task_text (task.Node node front) = codes "node" ++ numbered node
task_text (task.Sep post block) = codes "block" ++ numbered block ++ codes " of post" ++ numbered post

-- where a number is wide: the row of a program, the column of a pivot, the place of a value, or the list of a sum and its
-- place there
abbrev pub place_text : WideAt → List ℕ
place_text (wide.Build row) = codes "build" ++ numbered row
place_text (wide.Pivot relaxed basis goal row pivot_row column) = codes "pivot" ++ numbered column
place_text (wide.Den relaxed basis place) = codes "den" ++ numbered place
place_text (wide.Fold relaxed basis column list at) = with_numbers (codes "fold") list at

-- the line of a stop at a wide number
abbrev pub wide_line : Solved WideAt → List ℕ
wide_line s = line (codes "unresolved wide " ++ task_text s.task ++ 32 ∷ place_text s.answer)

-- the line of a history's last event, which is such a stop where a search ends so
abbrev pub stop_line : Event → List ℕ
stop_line (event.Stop (why.Wide s)) = wide_line s
stop_line _ = []

abbrev pub last_line : Option Entry → List ℕ
last_line None = []
last_line (Some entry) = stop_line entry.event

-- the line of a stop for want of units
abbrev pub budget_line : ℕ → ℕ → List ℕ
budget_line units budget = line (codes "unresolved budget" ++ numbered units ++ codes " of" ++ numbered budget)

-- the best point so far with its objective, where there is one
abbrev pub best_text : Decomposition → Option Parts → List ℕ
best_text d None = line (codes "best none")
best_text d (Some parts) = objective_line (codes "best") d parts ++ point_text d parts

-- ---- the report
-- the text of a search, by what it has come to; of one that runs there is none
abbrev pub text_by : Decomposition → ℕ → State → List Entry → Outcome → List ℕ
text_by d budget t es outcome.Running = []
text_by d budget t es outcome.Optimal = optimal_text d (best_parts t)
text_by d budget t es outcome.Infeasible = infeasible_text
text_by d budget t es outcome.Unbounded = unbounded_text d (best_parts t) t.ray
text_by d budget t es outcome.Budget = budget_line t.units budget ++ best_text d (best_parts t)
text_by d budget t es outcome.Wide = last_line (last_entry es) ++ best_text d (best_parts t)

unfoldable pub report_text : Decomposition → ℕ → State → List Entry → List ℕ
report_text d budget t es = text_by d budget t es (outcome_of t)
