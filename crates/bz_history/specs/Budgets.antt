-- Which budget is never spent while a node is open.
use Rattle.std.specs.Prelude.{ℕ, zero, suc, ◌+◌, ◌-◌, ◌*◌, ◌^◌, ◌≡◌, ◌<◌, true, List, length}
use Rattle.std.specs.List.{list_any}
use Rattle.bz_model.specs.Parting.{blocks_of, inequalities_of, width_of}
use Rattle.bz_model.specs.Splits.{Decomposition}
use Rattle.bz_event.specs.declared.events.Entry.{Entry}
use Rattle.bz_history.specs.declared.state.Region.{Region}
use Rattle.bz_history.specs.Histories.{IsReplay}
use Rattle.bz_history.specs.Measures.{points_of}
use Rattle.bz_history.specs.States.{State, is_open}

-- how many columns the relaxed separation of a block has in mode Cost, slacks among them: two for each position, the one
-- for the rise, and a slack for each inequality and for the cost
abbrev pub separation_columns : Decomposition → ℕ → ℕ
separation_columns d block = 2 * width_of d.part block + 1 + length (inequalities_of d.model d.part block) + 1

-- how many sets of its columns there are, of all blocks from 1 to n
abbrev pub column_sets : Decomposition → ℕ → ℕ
column_sets d zero = 0
column_sets d (suc n) = column_sets d n + 2 ^ separation_columns d (suc n)

-- a budget that is enough: one unit for each node that the root's box allows, and one for each set of columns
abbrev pub enough : Decomposition → Region → ℕ
enough d root = (2 * points_of root - 1) + column_sets d (blocks_of d.part)

-- While a node is open, fewer units are spent.
abbrev pub EnoughIsEnough : Type 0
EnoughIsEnough =
    (d : Decomposition) (budget : ℕ) (root : Region) (es : List Entry) (t : State) → IsReplay d budget root es t →
    list_any is_open t.nodes ≡ true → t.units < enough d root

-- the greatest budget that a search is begun with
abbrev pub greatest_budget : ℕ
greatest_budget = 4000
