-- Each turn makes one row more, or finds the first wide one.
use Rattle.std.proofs.Common.{◌≡◌, ap, ◌∙◌, ◌+◌, ◌++◌, ℕ, ℤ, List, [], ◌∷◌, Option, Some, None, length}
use Rattle.std.proofs.lemmas.List.{length-append}
use Rattle.bz_tableau.specs.Pivots.{IsTurnedLine, replaced}
use Rattle.bz_tableau.specs.Tables.{line}
use Rattle.bz_tableau.proofs.Turns.{AreLinesTo, first_wide, picked, turned_more}
use Rattle.bz_tableau.proofs.next.next_lines.Goals as goal
use Rattle.bz_tableau.proofs.next.next_lines.Goals.{in-New+in_ok-push_change-in-New, in-Kept+in_ok-push_change-in-Kept}

pub returns-in-Wide : goal.returns-in-Wide
returns-in-Wide c =
    let wide = rw c.in-Wide.is at c.in_ok-line.ensures in
    first_wide c.loop-i.i c.args.slack c.args.basis.now c.args.rows.now c.args.r c.args.e (replaced c.args.rows.now c.loop-i.changes.items) c.loop-i.invariant.lines c.loop-i-test.true wide.other wide.wide

pub loop-i-preserved : goal.loop-i-preserved
loop-i-preserved c = elim c.match-branch-3.branch [
  | in-New+in_ok-push_change-in-New w ↦
      let made = rw w.in-New.is at c.in_ok-line.ensures in
      let items : c.match-branch-3.changes.items ≡ c.loop-i.changes.items ++ Some w.in-New.line ∷ [] = rw w.changes-is w.in_ok-push_change-in-New.ensures in
      more (Some w.in-New.line) c.match-branch-3.changes.items items made
  | in-Kept+in_ok-push_change-in-Kept w ↦
      let made = rw w.in-Kept.is at c.in_ok-line.ensures in
      let items : c.match-branch-3.changes.items ≡ c.loop-i.changes.items ++ None ∷ [] = rw w.changes-is w.in_ok-push_change-in-Kept.ensures in
      more None c.match-branch-3.changes.items items made
]
  where
    more : (change : Option (List ℤ)) (changes : List (Option (List ℤ))) → changes ≡ c.loop-i.changes.items ++ change ∷ [] → IsTurnedLine c.args.slack c.args.basis.now c.args.rows.now c.args.r c.args.e c.loop-i.i (picked (line c.args.rows.now c.loop-i.i) change)
        → record { lines : AreLinesTo (c.loop-i.i + 1) c.args.slack c.args.basis.now c.args.rows.now c.args.r c.args.e (replaced c.args.rows.now changes); count : length changes ≡ c.loop-i.i + 1 }
    more change changes e made = record {
      lines = rw e (turned_more c.loop-i.i c.args.slack c.args.basis.now c.args.rows.now c.args.r c.args.e c.loop-i.changes.items change c.loop-i.invariant.lines c.loop-i.invariant.count c.loop-i-test.true made);
      count = ap length e ∙ length-append c.loop-i.changes.items (change ∷ []) ∙ ap (λ (n : ℕ). n + 1) c.loop-i.invariant.count;
    }
