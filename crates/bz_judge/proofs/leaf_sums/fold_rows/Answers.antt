use Rattle.std.proofs.Common.{◌≡◌, ◌<◌, ◌≤◌, [], subst, sym, length, List, ℕ, ℤ}
use Rattle.std.specs.Prelude.{slice_index_or}
use Rattle.std.proofs.Math.ListN.{get_or-eq_default}
use Rattle.std.proofs.lemmas.Bool.{ltb-false, ltb-true}
use Rattle.bz_model.specs.Entries.{IsEntriesAt}
use Rattle.bz_model.specs.Rows.{own_at}
use Rattle.bz_model.proofs.ByPosition.{item_is}
use Rattle.bz_judge.specs.SideNumbers.{master_number, numbers_from}
use Rattle.bz_judge.proofs.SidesByPosition.{rows_ahead, rows_nothing}
use Rattle.bz_judge.proofs.leaf_sums.fold_rows.Goals as goal

pub returns-in-Some-clause-steps : goal.returns-in-Some-clause-steps
returns-in-Some-clause-steps c =
    let s = c.args.sides.now in
    let within : c.args.position < length s.entries.now = ltb-true c.args.position (length s.entries.now) (sym c.in-Some.ensures.lookup.0) in
    let item : c.in-Some.entries.now ≡ slice_index_or s.entries.now c.args.position [] = item_is s.entries.now c.args.position c.in-Some.entries.now within c.in-Some.ensures.lookup.1 in
    let there : IsEntriesAt (own_at s.rows.now) c.args.position c.in-Some.entries.now = subst (λ (es : List (ℕ × ℤ)). IsEntriesAt (own_at s.rows.now) c.args.position es) (sym item) (c.requires.sides.entries c.args.position) in
    c.fold_entries.ensures.steps (master_number s c.args.position) (numbers_from (length s.rows.now) (master_number s c.args.position)) (rows_ahead s c.args.position c.in-Some.entries.now c.fold_entries.ensures.sparse there)

pub returns-in-None-clause-steps : goal.returns-in-None-clause-steps
returns-in-None-clause-steps c =
    let s = c.args.sides.now in
    let past : length s.entries.now ≤ c.args.position = ltb-false c.args.position (length s.entries.now) (sym c.in-None.ensures.lookup.0) in
    let there : IsEntriesAt (own_at s.rows.now) c.args.position [] = subst (λ (es : List (ℕ × ℤ)). IsEntriesAt (own_at s.rows.now) c.args.position es) (get_or-eq_default s.entries.now [] past) (c.requires.sides.entries c.args.position) in
    rows_nothing s c.args.position c.args.folding.now c.args.multipliers.now there
