use Rattle.std.proofs.Common.{rules, ◌≡◌, ◌↔◌, IsTrue, ap, sym, ◌∙◌, ◌<◌, ◌+◌, ◌-◌, ◌*◌, ◌++◌, [], ℕ, ℤ, List, length, drop, neg_ℤ, arith, append-nil, FitsSigned, to_z-of_z}
use Rattle.std.specs.Int.{w128}
use Rattle.bz_num.specs.Row.{entry_at}
use Rattle.bz_model.specs.Limits.{list_limit}
use Rattle.bz_std.specs.Compared.{BeginsWith}
use Rattle.bz_std.specs.Posed.{over_columns}
use Rattle.bz_std.proofs.OverColumns.{below_up}
use Rattle.bz_std.proofs.RowsCompared.{begins_long, begins_more, more_begins, more_left}
use Rattle.bz_std.proofs.Tested.{told, told_not}
use Rattle.bz_std.proofs.row_comparison.are_cut_terms.Goals as goal

pub begins_with-requires : goal.begins_with-requires
begins_with-requires c = below_up c.args.width list_limit c.args.cut.now.alpha (omega (arith, c.requires.few)) c.requires.alpha

pub ends_with-requires-clause-inside : goal.ends_with-requires-clause-inside
ends_with-requires-clause-inside c = omega (arith, begins_long c.as_slice-entries.result.now c.args.cut.now.alpha (c.begins_with.ensures.0 c.if-begins_with.true), ap length c.as_slice.ensures.value)

pub returns-then-begins_with : goal.returns-then-begins_with
returns-then-begins_with c =
    let cut = c.args.cut.now in
    let fits_p0 : FitsSigned w128 cut.p0 = search rules in
    let p0 : c.narrow_negation.result ≡ neg_ℤ cut.p0 = rw (to_z-of_z fits_p0) at c.narrow_negation.ensures.value in
    let fits : FitsSigned w128 c.narrow_negation.result = search rules in
    let more : List (ℕ × ℤ) = entry_at (c.args.width + (cut.block - 1)) (neg_ℤ cut.p0) ++ [] in
    let begins : BeginsWith c.args.terms.now cut.alpha = rw c.as_slice-entries.ensures.value at (c.begins_with.ensures.0 c.if-begins_with.true) in
    let ends : IsTrue c.ends_with.result ↔ (drop (2 * length cut.alpha) c.args.terms.now ≡ over_columns (entry_at (c.args.width + (cut.block - 1)) (neg_ℤ cut.p0))) = rw (to_z-of_z fits, p0, c.as_slice-entries.ensures.value, c.as_slice.ensures.value) at c.ends_with.ensures in
    told ends
    (λ h. begins_more c.args.terms.now cut.alpha more begins (h ∙ ap over_columns (sym (append-nil _))))
    (λ h. more_left c.args.terms.now cut.alpha more h ∙ ap over_columns (append-nil _))

pub returns-else-begins_with : goal.returns-else-begins_with
returns-else-begins_with c =
    let cut = c.args.cut.now in
    let more : List (ℕ × ℤ) = entry_at (c.args.width + (cut.block - 1)) (neg_ℤ cut.p0) ++ [] in
    told_not c.begins_with.ensures c.if-begins_with.false (λ h. rw c.as_slice-entries.ensures.value (more_begins c.args.terms.now cut.alpha more h))
