use Rattle.std.proofs.Common.{◌==◌, ◌∙◌, ap, sym, not, map}
use Rattle.bz_facts.specs.TableNotes.{given_place}
use Rattle.bz_facts.proofs.TableLemmas.{any-placed}
use Rattle.bz_facts.proofs.tables.Givens.add.Goals as goal

pub returns-then-branch-clause-new : goal.returns-then-branch-clause-new
returns-then-branch-clause-new c = sym c.if-branch.true ∙ c.in_ok-insert.ensures.added
    ∙ ap not (any-placed (λ a b. a == b) given_place c.args.given.row c.args.self.now c.self.inside.rows.keys (c.self.invariant ∙ ap (map given_place) c.self.view_is))

pub returns-else-branch-clause-new : goal.returns-else-branch-clause-new
returns-else-branch-clause-new c = sym c.if-branch.false ∙ c.in_ok-insert.ensures.added
    ∙ ap not (any-placed (λ a b. a == b) given_place c.args.given.row c.args.self.now c.self.inside.rows.keys (c.self.invariant ∙ ap (map given_place) c.self.view_is))
