use Rattle.std.proofs.Common.{rules, ◌≡◌, ◌<◌, ◌≤◌, ℕ, ℤ, pos, get_or, length, FitsSigned, to_z-of_z}
use Rattle.std.specs.Int.{w128}
use Rattle.std.proofs.lemmas.List.{get_or_default}
use Rattle.bz_num.specs.Row.{entry_at}
use Rattle.bz_num.proofs.Reduces.{narrow-at}
use Rattle.bz_model.specs.PartLists.{AreJoined, only_at}
use Rattle.bz_model.proofs.ByPosition.{all_added, none_added, still_below, term_added}
use Rattle.bz_model.proofs.Sparse.{below_at}
use Rattle.bz_model.proofs.entries.push_terms.Goals as goal

pub loop-entry-init : goal.loop-entry-init
loop-entry-init c = none_added c.args.place c.args.terms.now c.args.rows.now.items

pub push_entry-requires-clause-inside : goal.push_entry-requires-clause-inside
push_entry-requires-clause-inside c =
    let k : ℕ = c.loop-entry.entry-index in
    let there : k < length c.args.terms.now = rw c.as_slice-entry-items.ensures.value at c.loop-entry-test.true in
    rw (c.as_slice-entry-items.ensures.value, c.loop-entry.invariant.count) (below_at _ c.args.terms.now k (0, pos 0) c.requires.inside there)

pub push_entry-requires-clause-above : goal.push_entry-requires-clause-above
push_entry-requires-clause-above c =
    let k : ℕ = c.loop-entry.entry-index in
    let e : ℕ × ℤ = get_or c.args.terms.now k (0, pos 0) in
    let there : k < length c.args.terms.now = rw c.as_slice-entry-items.ensures.value at c.loop-entry-test.true in
    let itself : e ≡ get_or c.args.terms.now k e = get_or_default c.args.terms.now k (0, pos 0) e there in
    let inside : e.0 < length c.args.rows.now.items = below_at _ c.args.terms.now k (0, pos 0) c.requires.inside there in
    rw c.as_slice-entry-items.ensures.value
    (still_below c.args.place c.args.terms.now k e c.as_slice-entry-items.ensures.sparse there itself inside c.loop-entry.invariant (c.requires.above e.0 inside))

pub push_entry-requires-clause-narrow : goal.push_entry-requires-clause-narrow
push_entry-requires-clause-narrow c =
    let k : ℕ = c.loop-entry.entry-index in
    let there : k < length c.args.terms.now = rw c.as_slice-entry-items.ensures.value at c.loop-entry-test.true in
    let fits : FitsSigned w128 (get_or c.as_slice-entry-items.result.now k (0, pos 0)).1 = search rules in
    rw (to_z-of_z fits, c.as_slice-entry-items.ensures.value) (narrow-at 0 c.args.terms.now k (0, pos 0) c.as_slice-entry-items.ensures.sparse there)

pub loop-entry-preserved : goal.loop-entry-preserved
loop-entry-preserved c =
    let k : ℕ = c.loop-entry.entry-index in
    let e : ℕ × ℤ = get_or c.args.terms.now k (0, pos 0) in
    let there : k < length c.args.terms.now = rw c.as_slice-entry-items.ensures.value at c.loop-entry-test.true in
    let itself : e ≡ get_or c.args.terms.now k e = get_or_default c.args.terms.now k (0, pos 0) e there in
    let fits : FitsSigned w128 (get_or c.as_slice-entry-items.result.now k (0, pos 0)).1 = search rules in
    let gains : AreJoined c.loop-entry.rows.items c.push_entry.new.rows.items (only_at e.0 (entry_at c.args.place e.1)) =
    rw (to_z-of_z fits, c.as_slice-entry-items.ensures.value) at c.in_ok-push_entry.ensures in
    term_added c.args.place c.args.terms.now k e c.as_slice-entry-items.ensures.sparse there itself c.loop-entry.invariant gains

pub returns : goal.returns
returns c =
    let end : length c.args.terms.now ≤ c.loop-entry.entry-index = rw c.as_slice-entry-items.ensures.value at c.loop-entry-test.false in
    all_added c.args.place c.args.terms.now c.loop-entry.entry-index end c.loop-entry.invariant
