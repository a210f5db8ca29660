use Rattle.std.proofs.Common.{◌∙◌, ◌&&◌, ◌||◌, ◌==◌, ap, sym, not, subst, map}
use Rattle.std.proofs.lemmas.List.{length-map}
use Rattle.bz_lines.specs.NameLists.{is_among, place}
use Rattle.bz_facts.specs.LineAnswers.{PassesLine}
use Rattle.bz_facts.specs.LineSteps.{EntriesAdded, entry_in, last_entry_tests, pairs_read}
use Rattle.bz_facts.specs.TableNotes.{is_noted}
use Rattle.bz_facts.proofs.LineLemmas.{entry-line}
use Rattle.bz_facts.proofs.column_lines.on_entry_line.Goals as goal

pub returns : goal.returns
returns c =
    let fs = map (λ f. f.now) c.args.fields.now in
    let t = c.args.columns.now in
    let pairs = c.in_ok-pairs.ensures in
    entry-line c.args.rows.now t c.enter.new.columns fs c.in_ok-pairs.pairs c.enter.result c.requires.marker
    (ap (λ n. (n == 3) || (n == 5)) (length-map c.args.fields.now (λ f. f.now)) ∙ sym c.is_entry_length.ensures ∙ c.if-not-is_entry_length.false)
    (ap (λ name. is_among t.names name && not (is_noted t.current name)) (sym c.field-name.ensures) ∙ sym c.is_split.ensures ∙ c.if-is_split.false)
    pairs.0 pairs.1
    (subst (λ name. PassesLine (last_entry_tests t name (map (entry_in (place t.names name)) (pairs_read c.in_ok-pairs.pairs))) (λ _. EntriesAdded name (map (entry_in (place t.names name)) (pairs_read c.in_ok-pairs.pairs)) t c.enter.new.columns) c.enter.result) c.field-name.ensures c.enter.ensures)
