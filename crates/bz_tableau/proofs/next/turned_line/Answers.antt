-- Rows of a sound table are primitive, and positive in their own columns.
use Rattle.std.proofs.Common.{◌≡◌, rules, sym, subst, ◌∙◌, ◌<◌, ℤ, pos, List, length, FitsSigned}
use Rattle.std.specs.Int.{w128}
use Rattle.bz_tableau.specs.Dense.{entry, AreNarrow}
use Rattle.bz_tableau.specs.Tables.{line, number}
use Rattle.bz_tableau.proofs.Clearing.{next_kept}
use Rattle.bz_tableau.proofs.Turns.{line_is, sound_column, sound_positive, sound_primitive, sound_width}
use Rattle.bz_tableau.proofs.next.turned_line.Goals as goal

pub moved_line-requires-clause-primitive : goal.moved_line-requires-clause-primitive
moved_line-requires-clause-primitive c =
    let inside : c.args.r < length c.args.rows.now = search rules in
    let same : c.index-rows-r.result ≡ line c.args.rows.now c.args.r = line_is c.args.rows.now c.args.r c.index-rows-r.result c.index-rows-r.is inside in
    rw same (sound_primitive c.args.slack c.args.basis.now c.args.rows.now c.requires.sound c.args.r inside)

pub at-requires : goal.at-requires
at-requires c =
    let same : c.index-rows-i.result ≡ line c.args.rows.now c.args.i = line_is c.args.rows.now c.args.i c.index-rows-i.result c.index-rows-i.is c.requires.inside in
    rw (same, sound_width c.args.slack c.args.basis.now c.args.rows.now c.requires.sound c.args.i c.requires.inside) (sound_column c.args.slack c.args.basis.now c.args.rows.now c.requires.sound c.args.e c.requires.column)

pub returns-then-at-eq0 : goal.returns-then-at-eq0
returns-then-at-eq0 c =
    let same : c.index-rows-i.result ≡ line c.args.rows.now c.args.i = line_is c.args.rows.now c.args.i c.index-rows-i.result c.index-rows-i.is c.requires.inside in
    let fits : FitsSigned w128 c.at.result = search rules in
    let zero : c.at.result ≡ pos 0 = search rules in
    let none : number c.args.rows.now c.args.i c.args.e ≡ pos 0 = subst (λ (row : List ℤ). entry row c.args.e ≡ pos 0) same (sym c.at.ensures.value ∙ zero) in
    let narrow : AreNarrow (line c.args.rows.now c.args.i) = subst (λ (row : List ℤ). AreNarrow row) same c.at.ensures.all_narrow in
    record {
      other = λ n. next_kept (line c.args.rows.now c.args.i) (line c.args.rows.now c.args.r) c.args.e _ c.requires.nonzero none narrow (sound_positive c.args.slack c.args.basis.now c.args.rows.now c.requires.sound c.args.i c.requires.inside) (sound_primitive c.args.slack c.args.basis.now c.args.rows.now c.requires.sound c.args.i c.requires.inside);
      moved = λ e. absurd (c.if-i-r.false e);
    }
