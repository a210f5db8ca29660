-- Each turn puts the last change in place.
use Rattle.std.proofs.Common.{◌≡◌, rules, ap, sym, ◌∙◌, ◌+◌, ◌++◌, ◌<◌, set, ℤ, List, [], ◌∷◌, length, Option, Some, None, arith}
use Rattle.std.proofs.lemmas.List.{length-append, length-set}
use Rattle.bz_tableau.proofs.Turns.{put_kept, put_new, put_with}
use Rattle.bz_tableau.proofs.next.put_lines.Goals as goal

pub loop-change-preserved-in-Some-change : goal.loop-change-preserved-in-Some-change
loop-change-preserved-in-Some-change c =
    let last : c.loop-change.changes.items ≡ c.pop.new.self.items ++ Some c.in-Some-change.line ∷ [] = c.in-Some.ensures.items ∙ ap (λ (x : Option (List ℤ)). c.pop.new.self.items ++ x ∷ []) c.in-Some-change.is in
    let count : length c.loop-change.changes.items ≡ length c.pop.new.self.items + 1 = ap length last ∙ length-append c.pop.new.self.items (Some c.in-Some-change.line ∷ []) in
    let few = c.loop-change.invariant.few in
    let place : c.len.result ≡ length c.pop.new.self.items = search rules in
    let inside : length c.pop.new.self.items < length c.loop-change.rows.items = omega arith in
    let kept : length (set c.loop-change.rows.items c.len.result c.in-Some-change.line) ≡ length c.loop-change.rows.items = length-set c.loop-change.rows.items c.len.result c.in-Some-change.line in
    record {
      whole = rw place (put_new c.loop-change.rows.items c.pop.new.self.items c.in-Some-change.line inside) ∙ ap (put_with c.loop-change.rows.items) (sym last) ∙ c.loop-change.invariant.whole;
      few = omega arith;
    }

pub loop-change-preserved : goal.loop-change-preserved
loop-change-preserved c =
    let last : c.loop-change.changes.items ≡ c.pop.new.self.items ++ None ∷ [] = c.in-Some.ensures.items ∙ ap (λ (x : Option (List ℤ)). c.pop.new.self.items ++ x ∷ []) c.in_default-change.is in
    let count : length c.loop-change.changes.items ≡ length c.pop.new.self.items + 1 = ap length last ∙ length-append c.pop.new.self.items (None ∷ []) in
    let few = c.loop-change.invariant.few in
    let inside : length c.pop.new.self.items < length c.loop-change.rows.items = omega arith in
    record {
      whole = put_kept c.loop-change.rows.items c.pop.new.self.items inside ∙ ap (put_with c.loop-change.rows.items) (sym last) ∙ c.loop-change.invariant.whole;
      few = omega arith;
    }
