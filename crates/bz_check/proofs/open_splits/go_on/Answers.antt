-- What was popped stood last among the open splits.
use Rattle.std.proofs.Common.{rules, ◌≡◌, sym, ◌∙◌, ap, ◌∷◌, ◌++◌, [], List, length, reverse, inr, FitsSigned, to_z-of_z}
use Rattle.std.proofs.lemmas.Result.{IfOk-weaker}
use Rattle.std.specs.Int.{w128}
use Rattle.bz_check.specs.declared.open_splits.Frame.{Frame}
use Rattle.bz_check.specs.declared.open_splits.Frame.TheVariants as side
use Rattle.bz_check.specs.declared.open_splits.Walk.{Walk}
use Rattle.bz_check.specs.Walks.{GoesOn, IsWalk, Turns, box_in, pending}
use Rattle.bz_check.proofs.Walking.{last_open, next_first, next_second, walk_returns, walk_turns}
use Rattle.bz_check.proofs.open_splits.go_on.Goals as goal

pub returns-in-First-clause-next : goal.returns-in-First-clause-next
returns-in-First-clause-next c =
    let popped : Walk = record { lower = c.loop-frame.walk.lower; upper = c.loop-frame.walk.upper; frames = c.pop.new.self } in
    let fits_upper : FitsSigned w128 c.in-First.upper = search rules in
    let fits_right : FitsSigned w128 c.in-First.right = search rules in
    let last : c.loop-frame.walk.frames.items ≡ c.pop.new.self.items ++ side.First c.in-First.place c.in-First.upper c.in-First.right ∷ [] = c.in-Some.ensures.items ∙ ap (λ (frame : Frame). c.pop.new.self.items ++ frame ∷ []) c.in-First.is in
    IfOk-weaker c.turn.result (λ _. Turns c.in-First.place c.in-First.upper c.in-First.right popped c.turn.new.walk) (λ _. GoesOn c.args.walk.now c.turn.new.walk)
    (λ _ t. inr (sym c.loop-frame.invariant.same ∙ next_first c.loop-frame.walk.frames.items c.pop.new.self.items c.turn.new.walk.frames.items c.in-First.place c.in-First.upper c.in-First.right (box_in c.loop-frame.walk) (box_in c.turn.new.walk) last t.at_least t.opened))
    (rw (to_z-of_z fits_upper, to_z-of_z fits_right) at c.turn.ensures)

pub returns-in-First-clause-kept : goal.returns-in-First-clause-kept
returns-in-First-clause-kept c =
    let popped : Walk = record { lower = c.loop-frame.walk.lower; upper = c.loop-frame.walk.upper; frames = c.pop.new.self } in
    let fits_upper : FitsSigned w128 c.in-First.upper = search rules in
    let fits_right : FitsSigned w128 c.in-First.right = search rules in
    let last : c.loop-frame.walk.frames.items ≡ c.pop.new.self.items ++ side.First c.in-First.place c.in-First.upper c.in-First.right ∷ [] = c.in-Some.ensures.items ∙ ap (λ (frame : Frame). c.pop.new.self.items ++ frame ∷ []) c.in-First.is in
    let count = length c.args.walk.now.lower.items in
    let before = c.loop-frame.invariant.walk in
    let of_last = last_open count c.loop-frame.walk c.pop.new.self.items (side.First c.in-First.place c.in-First.upper c.in-First.right) before last in
    let as_popped : IsWalk count popped = record { lowers = before.lowers; uppers = before.uppers; narrow = before.narrow; splits = of_last.0 } in
    IfOk-weaker c.turn.result (λ _. Turns c.in-First.place c.in-First.upper c.in-First.right popped c.turn.new.walk) (λ _. IsWalk count c.turn.new.walk)
    (λ _ t. walk_turns count c.in-First.place c.in-First.upper c.in-First.right popped c.turn.new.walk as_popped of_last.1.0 of_last.1.1 t)
    (rw (to_z-of_z fits_upper, to_z-of_z fits_right) at c.turn.ensures)

pub loop-frame-preserved : goal.loop-frame-preserved
loop-frame-preserved c =
    let popped : Walk = record { lower = c.loop-frame.walk.lower; upper = c.loop-frame.walk.upper; frames = c.pop.new.self } in
    let fits_lower : FitsSigned w128 c.in-Second.lower = search rules in
    let last : c.loop-frame.walk.frames.items ≡ c.pop.new.self.items ++ side.Second c.in-Second.place c.in-Second.lower ∷ [] = c.in-Some.ensures.items ∙ ap (λ (frame : Frame). c.pop.new.self.items ++ frame ∷ []) c.in-Second.is in
    let count = length c.args.walk.now.lower.items in
    let before = c.loop-frame.invariant.walk in
    let of_last = last_open count c.loop-frame.walk c.pop.new.self.items (side.Second c.in-Second.place c.in-Second.lower) before last in
    let as_popped : IsWalk count popped = record { lowers = before.lowers; uppers = before.uppers; narrow = before.narrow; splits = of_last.0 } in
    let t = rw (to_z-of_z fits_lower) at c.put_back.ensures in
    record {
      walk = walk_returns count c.in-Second.place c.in-Second.lower popped c.put_back.new.walk as_popped of_last.1.1 t;
      same =
          ap (λ (frames : List Frame). pending (reverse frames) (box_in c.put_back.new.walk)) t.as_before
          ∙ sym (next_second c.loop-frame.walk.frames.items c.pop.new.self.items c.in-Second.place c.in-Second.lower (box_in c.loop-frame.walk) (box_in c.put_back.new.walk) last t.put_back)
          ∙ c.loop-frame.invariant.same;
    }
