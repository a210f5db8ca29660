-- The changed rows are made beside the old ones, and then put in place.
use Rattle.bz_tableau.proofs.Turned.{sound_after, pivoted}
use Rattle.bz_tableau.proofs.tableau.Tableau.pivot.Goals as goal

pub invariant_of-self : goal.invariant_of-self
invariant_of-self c =
    let made = rw (c.as_slice.ensures.value, c.as_slice-2.ensures.value, ← c.put_lines.ensures) at (rw c.in-Ok.is at c.in_ok-changes.ensures) in
    let place = rw (← c.self.view_is) at c.requires.row in
    let column = rw (← c.self.view_is) at c.requires.column in
    let nonzero = rw (← c.self.view_is) at c.requires.nonzero in
    sound_after c.self.inside.slack c.self.inside.basis.items c.self.inside.rows.items c.args.row c.args.column c.put_lines.new.rows.items c.self.invariant made.1 place column nonzero

pub returns-in-Ok-clause-pivoted : goal.returns-in-Ok-clause-pivoted
returns-in-Ok-clause-pivoted c =
    let made = rw (c.as_slice.ensures.value, c.as_slice-2.ensures.value, ← c.put_lines.ensures) at (rw c.in-Ok.is at c.in_ok-changes.ensures) in
    let place = rw (← c.self.view_is) at c.requires.row in
    let column = rw (← c.self.view_is) at c.requires.column in
    let nonzero = rw (← c.self.view_is) at c.requires.nonzero in
    rw (← c.self.view_is) (pivoted c.self.inside.relaxed c.self.inside.slack c.self.inside.basis.items c.self.inside.rows.items c.args.row c.args.column c.put_lines.new.rows.items made.1 place column nonzero)
