use Rattle.std.proofs.Common.{ap, rules, sym, ◌∙◌, ◌≡◌, ◌<◌, subst, List, None, false, true}
use Rattle.std.specs.Prelude.{length}
use Rattle.std.specs.Option.{unwrap_or}
use Rattle.bz_num.specs.declared.Dec.{Dec}
use Rattle.bz_facts.specs.declared.Entry.{Entry}
use Rattle.bz_facts.specs.Spellings.{zero_dec}
use Rattle.bz_mps.specs.RowsMade.{AreRowFacts, IsObjectiveWith}
use Rattle.bz_mps.specs.ScaledRows.{entries_at, objective_entries, objective_place, objective_side, right_side_at}
use Rattle.bz_mps.proofs.PlacedItems.{items_there}
use Rattle.bz_mps.proofs.EndLemmas.{fails_first}
use Rattle.bz_mps.proofs.RowLemmas.{given_is, inside_lists, objective_facts_sound, objective_is, unless_none, unless_some, wide_objective_is}
use Rattle.bz_mps.proofs.rows_made.objective_of.Goals as goal

pub index-requires : goal.index-requires
index-requires c =
    let inside : c.objective_place-place.result < length c.args.facts.now.row_types = subst (λ ks. c.objective_place-place.result < length ks) c.as_slice.ensures c.objective_place-place.ensures.inside in
    let less : c.objective_place-place.result < length c.args.by_row.now.entries.items =
    inside_lists (λ e. e.row) (λ v. v.items) (length c.args.facts.now.row_types) c.args.facts.now.entries c.args.by_row.now.entries.items c.objective_place-place.result c.requires.by_row.entries_are inside in
    search rules

pub index-requires-2 : goal.index-requires-2
index-requires-2 c =
    let inside : c.objective_place-place.result < length c.args.facts.now.row_types = subst (λ ks. c.objective_place-place.result < length ks) c.as_slice.ensures c.objective_place-place.ensures.inside in
    let less : c.objective_place-place.result < length c.args.by_row.now.right_sides.items =
    inside_lists (λ g. g.row) (λ v. v.items) (length c.args.facts.now.row_types) c.args.facts.now.right_sides c.args.by_row.now.right_sides.items c.objective_place-place.result c.requires.by_row.right_sides_are inside in
    search rules

pub objective_with-requires : goal.objective_with-requires
objective_with-requires c =
    let inside : c.objective_place-place.result < length c.args.facts.now.row_types = subst (λ ks. c.objective_place-place.result < length ks) c.as_slice.ensures c.objective_place-place.ensures.inside in
    let place : c.objective_place-place.result ≡ objective_place c.args.facts.now.row_types = c.objective_place-place.ensures.place ∙ ap objective_place c.as_slice.ensures in
    let entries : c.as_slice-entries.result.now ≡ objective_entries c.args.facts.now =
    c.as_slice-entries.ensures.value ∙ items_there (λ e. e.row) (λ v. v.items) (length c.args.facts.now.row_types) c.args.facts.now.entries c.args.by_row.now.entries.items c.objective_place-place.result c.index.result.now c.requires.by_row.entries_are inside c.index.ensures
    ∙ ap (λ p. entries_at p c.args.facts.now.entries) place in
    let rhs : c.number_or_zero-rhs.result ≡ objective_side c.args.facts.now =
    c.number_or_zero-rhs.ensures ∙ ap (λ o. unwrap_or o zero_dec) (given_is c.args.facts.now.right_sides c.as_slice-2.result.now c.objective_place-place.result
    (c.as_slice-2.ensures.value ∙ items_there (λ g. g.row) (λ v. v.items) (length c.args.facts.now.row_types) c.args.facts.now.right_sides c.args.by_row.now.right_sides.items c.objective_place-place.result c.index-2.result.now c.requires.by_row.right_sides_are inside c.index-2.ensures))
    ∙ ap (right_side_at c.args.facts.now) place in
    subst (λ (es : List Entry). AreRowFacts es c.number_or_zero-rhs.result None) (sym entries)
    (subst (λ (d : Dec). AreRowFacts (objective_entries c.args.facts.now) d None) (sym rhs) (objective_facts_sound c.args.facts.now (objective_place c.args.facts.now.row_types) c.requires.sound))

pub returns-in-Some-clause-objective : goal.returns-in-Some-clause-objective
returns-in-Some-clause-objective c =
    let inside : c.objective_place-place.result < length c.args.facts.now.row_types = subst (λ ks. c.objective_place-place.result < length ks) c.as_slice.ensures c.objective_place-place.ensures.inside in
    let place : c.objective_place-place.result ≡ objective_place c.args.facts.now.row_types = c.objective_place-place.ensures.place ∙ ap objective_place c.as_slice.ensures in
    let entries : c.as_slice-entries.result.now ≡ objective_entries c.args.facts.now =
    c.as_slice-entries.ensures.value ∙ items_there (λ e. e.row) (λ v. v.items) (length c.args.facts.now.row_types) c.args.facts.now.entries c.args.by_row.now.entries.items c.objective_place-place.result c.index.result.now c.requires.by_row.entries_are inside c.index.ensures
    ∙ ap (λ p. entries_at p c.args.facts.now.entries) place in
    let rhs : c.number_or_zero-rhs.result ≡ objective_side c.args.facts.now =
    c.number_or_zero-rhs.ensures ∙ ap (λ o. unwrap_or o zero_dec) (given_is c.args.facts.now.right_sides c.as_slice-2.result.now c.objective_place-place.result
    (c.as_slice-2.ensures.value ∙ items_there (λ g. g.row) (λ v. v.items) (length c.args.facts.now.row_types) c.args.facts.now.right_sides c.args.by_row.now.right_sides.items c.objective_place-place.result c.index-2.result.now c.requires.by_row.right_sides_are inside c.index-2.ensures))
    ∙ ap (right_side_at c.args.facts.now) place in
    objective_is c.args.facts.now c.as_slice-entries.result.now c.number_or_zero-rhs.result c.in-Some.objective entries rhs
    (unless_some _ (IsObjectiveWith c.as_slice-entries.result.now c.number_or_zero-rhs.result) c.in_ok-objective.field-0 c.in-Some.objective c.in-Some.is c.in_ok-objective.ensures).1

pub returns-in-Some-clause-tests : goal.returns-in-Some-clause-tests
returns-in-Some-clause-tests c =
    let inside : c.objective_place-place.result < length c.args.facts.now.row_types = subst (λ ks. c.objective_place-place.result < length ks) c.as_slice.ensures c.objective_place-place.ensures.inside in
    let place : c.objective_place-place.result ≡ objective_place c.args.facts.now.row_types = c.objective_place-place.ensures.place ∙ ap objective_place c.as_slice.ensures in
    let entries : c.as_slice-entries.result.now ≡ objective_entries c.args.facts.now =
    c.as_slice-entries.ensures.value ∙ items_there (λ e. e.row) (λ v. v.items) (length c.args.facts.now.row_types) c.args.facts.now.entries c.args.by_row.now.entries.items c.objective_place-place.result c.index.result.now c.requires.by_row.entries_are inside c.index.ensures
    ∙ ap (λ p. entries_at p c.args.facts.now.entries) place in
    let rhs : c.number_or_zero-rhs.result ≡ objective_side c.args.facts.now =
    c.number_or_zero-rhs.ensures ∙ ap (λ o. unwrap_or o zero_dec) (given_is c.args.facts.now.right_sides c.as_slice-2.result.now c.objective_place-place.result
    (c.as_slice-2.ensures.value ∙ items_there (λ g. g.row) (λ v. v.items) (length c.args.facts.now.row_types) c.args.facts.now.right_sides c.args.by_row.now.right_sides.items c.objective_place-place.result c.index-2.result.now c.requires.by_row.right_sides_are inside c.index-2.ensures))
    ∙ ap (right_side_at c.args.facts.now) place in (
      wide_objective_is c.args.facts.now c.as_slice-entries.result.now c.number_or_zero-rhs.result false entries rhs
          (unless_some _ (IsObjectiveWith c.as_slice-entries.result.now c.number_or_zero-rhs.result) c.in_ok-objective.field-0 c.in-Some.objective c.in-Some.is c.in_ok-objective.ensures).0,
      tt,
    )

pub returns-in-None-clause-tests : goal.returns-in-None-clause-tests
returns-in-None-clause-tests c =
    let inside : c.objective_place-place.result < length c.args.facts.now.row_types = subst (λ ks. c.objective_place-place.result < length ks) c.as_slice.ensures c.objective_place-place.ensures.inside in
    let place : c.objective_place-place.result ≡ objective_place c.args.facts.now.row_types = c.objective_place-place.ensures.place ∙ ap objective_place c.as_slice.ensures in
    let entries : c.as_slice-entries.result.now ≡ objective_entries c.args.facts.now =
    c.as_slice-entries.ensures.value ∙ items_there (λ e. e.row) (λ v. v.items) (length c.args.facts.now.row_types) c.args.facts.now.entries c.args.by_row.now.entries.items c.objective_place-place.result c.index.result.now c.requires.by_row.entries_are inside c.index.ensures
    ∙ ap (λ p. entries_at p c.args.facts.now.entries) place in
    let rhs : c.number_or_zero-rhs.result ≡ objective_side c.args.facts.now =
    c.number_or_zero-rhs.ensures ∙ ap (λ o. unwrap_or o zero_dec) (given_is c.args.facts.now.right_sides c.as_slice-2.result.now c.objective_place-place.result
    (c.as_slice-2.ensures.value ∙ items_there (λ g. g.row) (λ v. v.items) (length c.args.facts.now.row_types) c.args.facts.now.right_sides c.args.by_row.now.right_sides.items c.objective_place-place.result c.index-2.result.now c.requires.by_row.right_sides_are inside c.index-2.ensures))
    ∙ ap (right_side_at c.args.facts.now) place in
    fails_first _ _ _
    (wide_objective_is c.args.facts.now c.as_slice-entries.result.now c.number_or_zero-rhs.result true entries rhs
    (unless_none _ (IsObjectiveWith c.as_slice-entries.result.now c.number_or_zero-rhs.result) c.in_ok-objective.field-0 c.in-None.is c.in_ok-objective.ensures))
