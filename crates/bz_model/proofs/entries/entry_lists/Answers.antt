use Rattle.std.proofs.Common.{◌≡◌, ◌∙◌, ◌<◌, ap, ℕ, arith, length}
use Rattle.bz_model.specs.Entries.{width_in}
use Rattle.bz_model.proofs.ByPosition.{item_is, list_more}
use Rattle.bz_model.proofs.entries.entry_lists.Goals as goal

pub loop-b-preserved : goal.loop-b-preserved
loop-b-preserved c =
    let b : ℕ = c.loop-b.b in
    let here : b < length c.args.columns.now = omega (arith, c.requires.parts, c.loop-b-test.true) in
    let first : 0 < length c.args.columns.now = omega (arith, here) in
    let width : length c.as_slice-width.result.now ≡ width_in c.args.columns.now b =
    ap length (c.as_slice-width.ensures ∙ item_is c.args.columns.now b c.index-columns-b.result here c.index-columns-b.is) in
    let master : length c.as_slice-master_width.result.now ≡ width_in c.args.columns.now 0 =
    ap length (c.as_slice-master_width.ensures ∙ item_is c.args.columns.now 0 c.index-columns-0.result first c.index-columns-0.is) in
    let rows = c.as_slice.ensures ∙ item_is c.args.inequalities.now b c.index-inequalities-b.result c.loop-b-test.true c.index-inequalities-b.is in
    list_more b c.args.columns.now c.args.inequalities.now c.loop-b.lists c.push.new.self c.in_ok-by_position.field-0 _ _ c.as_slice.result.now c.loop-b.invariant c.in_ok-push.ensures width master rows c.in_ok-by_position.ensures
