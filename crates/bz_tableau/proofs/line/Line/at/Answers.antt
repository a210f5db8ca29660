-- The kept numbers are those of all columns.
use Rattle.std.proofs.Common.{rules, sym, ◌∙◌, subst, ◌<◌, ℕ, FitsSigned, to_z-of_z}
use Rattle.std.specs.Int.{w128}
use Rattle.bz_tableau.proofs.SparseRows.{spread_entry, spread_narrow, spread_width}
use Rattle.bz_tableau.proofs.line.Line.at.Goals as goal

pub returns-clause-value : goal.returns-clause-value
returns-clause-value c =
    let fits : FitsSigned w128 c.at.result = search rules in
    let inside : c.args.column < c.self.inside.width = subst (λ (n : ℕ). c.args.column < n) (spread_width c.self.inside.width c.self.inside.terms) (rw (← c.self.view_is) at c.requires) in
    rw (to_z-of_z fits, ← c.self.view_is) (c.at.ensures.value ∙ sym (spread_entry c.self.inside.width c.self.inside.terms c.args.column inside))

pub returns-clause-all_narrow : goal.returns-clause-all_narrow
returns-clause-all_narrow c = rw (← c.self.view_is) (spread_narrow c.self.inside.width c.self.inside.terms c.self.invariant.0)
