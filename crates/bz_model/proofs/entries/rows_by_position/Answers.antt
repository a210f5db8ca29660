use Rattle.std.proofs.Common.{rules, ◌≡◌, ◌∙◌}
use Rattle.bz_model.specs.Rows.{terms_at}
use Rattle.bz_model.proofs.ByPosition.{entries_end, entries_more, terms_at_is, terms_beyond}
use Rattle.bz_model.proofs.entries.rows_by_position.Goals as goal

pub loop-place-preserved : goal.loop-place-preserved
loop-place-preserved c =
    let terms : c.chosen_terms.result.now ≡ terms_at c.args.which c.args.ineqs.now c.loop-place.place =
    c.chosen_terms.ensures ∙ terms_at_is c.args.which c.args.ineqs.now c.loop-place.place c.index-ineqs-place.result c.loop-place-test.true c.index-ineqs-place.is in
    entries_more c.loop-place.place c.args.width (terms_at c.args.which c.args.ineqs.now) c.loop-place.invariant (rw terms at c.in_ok-push_terms.ensures)

pub returns : goal.returns
returns c =
    entries_end c.loop-place.place c.args.width (terms_at c.args.which c.args.ineqs.now) c.loop-place.rows.items
    (λ n l. terms_beyond c.args.which c.args.ineqs.now n (search rules)) c.loop-place.invariant
