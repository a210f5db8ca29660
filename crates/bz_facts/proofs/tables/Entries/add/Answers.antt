use Rattle.std.proofs.Common.{◌==◌, ◌&&◌, ◌∙◌, ap, sym, not, map}
use Rattle.bz_facts.specs.TableNotes.{entry_place}
use Rattle.bz_facts.proofs.TableLemmas.{any-placed}
use Rattle.bz_facts.proofs.tables.Entries.add.Goals as goal

pub returns-then-branch-clause-new : goal.returns-then-branch-clause-new
returns-then-branch-clause-new c = sym c.if-branch.true ∙ c.in_ok-insert.ensures.added
    ∙ ap not (any-placed (λ a b. (a.0 == b.0) && (a.1 == b.1)) entry_place (entry_place c.args.entry) c.args.self.now c.self.inside.places.keys (c.self.invariant ∙ ap (map entry_place) c.self.view_is))

pub returns-else-branch-clause-new : goal.returns-else-branch-clause-new
returns-else-branch-clause-new c = sym c.if-branch.false ∙ c.in_ok-insert.ensures.added
    ∙ ap not (any-placed (λ a b. (a.0 == b.0) && (a.1 == b.1)) entry_place (entry_place c.args.entry) c.args.self.now c.self.inside.places.keys (c.self.invariant ∙ ap (map entry_place) c.self.view_is))
