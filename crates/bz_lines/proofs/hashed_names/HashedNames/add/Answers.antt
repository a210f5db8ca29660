use Rattle.std.proofs.Common.{◌∙◌, not, ap, map}
use Rattle.bz_lines.specs.NameLists.{is_among, place, with_name}
use Rattle.bz_lines.proofs.NameLemmas.{among-now, place-now, with_name-now}
use Rattle.bz_lines.proofs.hashed_names.HashedNames.add.Goals as goal

pub returns-clause-place : goal.returns-clause-place
returns-clause-place c = c.in_ok-place.ensures.index ∙ place-now c.args.name.now c.self.inside.set.keys ∙ ap (λ ns. place ns c.args.name.now) c.self.view_is

pub returns-clause-new : goal.returns-clause-new
returns-clause-new c = c.in_ok-place.ensures.added ∙ ap not (among-now c.args.name.now c.self.inside.set.keys ∙ ap (λ ns. is_among ns c.args.name.now) c.self.view_is)

pub returns-clause-names : goal.returns-clause-names
returns-clause-names c = ap (map (λ k. k.now)) c.in_ok-place.ensures.keys ∙ with_name-now c.args.name c.self.inside.set.keys ∙ ap (λ ns. with_name ns c.args.name.now) c.self.view_is
