use Rattle.std.proofs.Common.{ap, sym, ◌∙◌, ◌≡◌, subst, Option, List}
use Rattle.std.specs.Prelude.{length}
use Rattle.std.specs.Option.{unwrap_or}
use Rattle.bz_num.specs.declared.Dec.{Dec}
use Rattle.bz_facts.specs.declared.Entry.{Entry}
use Rattle.bz_facts.specs.Spellings.{zero_dec}
use Rattle.bz_mps.specs.RowsMade.{AreRowFacts}
use Rattle.bz_mps.specs.ScaledRows.{entries_at, given_at, right_side_at}
use Rattle.bz_mps.proofs.PlacedItems.{items_there}
use Rattle.bz_mps.proofs.RowLemmas.{given_is, row_facts_sound, row_is}
use Rattle.bz_mps.proofs.rows_made.row_at.Goals as goal

pub row_of-requires-clause-facts : goal.row_of-requires-clause-facts
row_of-requires-clause-facts c =
    let entries : c.as_slice-entries.result.now ≡ entries_at c.args.place c.args.facts.now.entries =
    c.as_slice-entries.ensures.value ∙ items_there (λ e. e.row) (λ v. v.items) (length c.args.facts.now.row_types) c.args.facts.now.entries c.args.by_row.now.entries.items c.args.place c.index.result.now c.requires.by_row.entries_are c.requires.place c.index.ensures in
    let sides : c.number_or_zero-rhs.result ≡ right_side_at c.args.facts.now c.args.place =
    c.number_or_zero-rhs.ensures ∙ ap (λ o. unwrap_or o zero_dec) (given_is c.args.facts.now.right_sides c.as_slice.result.now c.args.place
    (c.as_slice.ensures.value ∙ items_there (λ g. g.row) (λ v. v.items) (length c.args.facts.now.row_types) c.args.facts.now.right_sides c.args.by_row.now.right_sides.items c.args.place c.index-2.result.now c.requires.by_row.right_sides_are c.requires.place c.index-2.ensures)) in
    let range : c.first_number-range.result ≡ given_at c.args.place c.args.facts.now.ranges =
    c.first_number-range.ensures ∙ given_is c.args.facts.now.ranges c.as_slice-2.result.now c.args.place
    (c.as_slice-2.ensures.value ∙ items_there (λ g. g.row) (λ v. v.items) (length c.args.facts.now.row_types) c.args.facts.now.ranges c.args.by_row.now.ranges.items c.args.place c.index-3.result.now c.requires.by_row.ranges_are c.requires.place c.index-3.ensures) in
    subst (λ (es : List Entry). AreRowFacts es c.number_or_zero-rhs.result c.first_number-range.result) (sym entries)
    (subst (λ (d : Dec). AreRowFacts (entries_at c.args.place c.args.facts.now.entries) d c.first_number-range.result) (sym sides)
    (subst (λ (o : Option Dec). AreRowFacts (entries_at c.args.place c.args.facts.now.entries) (right_side_at c.args.facts.now c.args.place) o) (sym range)
    (row_facts_sound c.args.facts.now c.args.place c.requires.sound)))

pub returns : goal.returns
returns c =
    let entries : c.as_slice-entries.result.now ≡ entries_at c.args.place c.args.facts.now.entries =
    c.as_slice-entries.ensures.value ∙ items_there (λ e. e.row) (λ v. v.items) (length c.args.facts.now.row_types) c.args.facts.now.entries c.args.by_row.now.entries.items c.args.place c.index.result.now c.requires.by_row.entries_are c.requires.place c.index.ensures in
    let sides : c.number_or_zero-rhs.result ≡ right_side_at c.args.facts.now c.args.place =
    c.number_or_zero-rhs.ensures ∙ ap (λ o. unwrap_or o zero_dec) (given_is c.args.facts.now.right_sides c.as_slice.result.now c.args.place
    (c.as_slice.ensures.value ∙ items_there (λ g. g.row) (λ v. v.items) (length c.args.facts.now.row_types) c.args.facts.now.right_sides c.args.by_row.now.right_sides.items c.args.place c.index-2.result.now c.requires.by_row.right_sides_are c.requires.place c.index-2.ensures)) in
    let range : c.first_number-range.result ≡ given_at c.args.place c.args.facts.now.ranges =
    c.first_number-range.ensures ∙ given_is c.args.facts.now.ranges c.as_slice-2.result.now c.args.place
    (c.as_slice-2.ensures.value ∙ items_there (λ g. g.row) (λ v. v.items) (length c.args.facts.now.row_types) c.args.facts.now.ranges c.args.by_row.now.ranges.items c.args.place c.index-3.result.now c.requires.by_row.ranges_are c.requires.place c.index-3.ensures) in
    row_is c.args.facts.now c.args.place c.args.kind c.at.result.now c.as_slice-entries.result.now c.number_or_zero-rhs.result c.first_number-range.result c.row_of.result c.at.ensures entries sides range c.row_of.ensures
