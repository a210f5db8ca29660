use Rattle.std.proofs.Common.{◌<◌, ℕ, length, rules, subst}
use Rattle.std.specs.Prelude.{IfNone}
use Rattle.std.proofs.lemmas.Option.{slice_get_within}
use Rattle.bz_core.specs.Handing.{IsFreeSeparation}
use Rattle.bz_core.proofs.Choosing.{none_before_in}
use Rattle.bz_core.proofs.choices.choose_separation.Goals as goal

pub loop-number-preserved : goal.loop-number-preserved
loop-number-preserved c =
    let here : (b : ℕ) → IsFreeSeparation c.args.blocks c.args.posts.now c.args.marks.now c.loop-number.number b → ⊥ =
    subst (λ r. IfNone r ((b : ℕ) → IsFreeSeparation c.args.blocks c.args.posts.now c.args.marks.now c.loop-number.number b → ⊥)) c.in_default.is c.choose_in_post.ensures.none in
    none_before_in (IsFreeSeparation c.args.blocks c.args.posts.now c.args.marks.now) c.loop-number.number c.loop-number.invariant here

pub returns-clause-none : goal.returns-clause-none
returns-clause-none c i b s =
    let within : i < length c.args.posts.now = slice_get_within c.args.posts.now i s.post s.is_post in
    let below : i < c.loop-number.number = search rules in
    c.loop-number.invariant i b below s
