use Rattle.std.proofs.Common.{◌∙◌, sym}
use Rattle.bz_lines.proofs.PlaceLemmas.{notes_new}
use Rattle.bz_lines.proofs.ordered_names.note.Goals as goal

pub returns-in-Ok-clause-ok : goal.returns-in-Ok-clause-ok
returns-in-Ok-clause-ok c = notes_new c.args.name.now c.args.place c.args.places.now c.insert.new.self (sym c.contains_key.ensures ∙ c.if-contains_key.false) c.in-Ok.ensures.updates
