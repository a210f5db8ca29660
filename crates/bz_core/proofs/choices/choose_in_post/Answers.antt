use Rattle.std.proofs.Common.{◌≡◌, ◌<◌, ℕ, Some, true, length, refl, rules}
use Rattle.std.specs.List.{slice_get}
use Rattle.std.proofs.lemmas.Option.{slice_get_read}
use Rattle.bz_history.specs.States.{is_live}
use Rattle.bz_history.specs.Steps.{IsAt}
use Rattle.bz_core.specs.Handing.{IsFreeBlock, IsFreeSeparation}
use Rattle.bz_core.proofs.Choosing.{free_in_post, free_of_post, none_weaker, some_weaker}
use Rattle.bz_core.proofs.choices.choose_in_post.Goals as goal

pub returns-clause-free : goal.returns-clause-free
returns-clause-free c =
    let at : IsAt c.args.posts.now c.args.number c.index-posts-number.result = slice_get_read c.args.posts.now (length c.args.posts.now) c.args.number c.index-posts-number.result refl c.requires.post c.index-posts-number.is in
    let live : is_live c.index-posts-number.result ≡ true = search rules in
    let is : slice_get c.args.marks.now c.args.number ≡ Some c.index-marks-number.result = slice_get_read c.args.marks.now (length c.args.marks.now) c.args.number c.index-marks-number.result refl c.requires.marks c.index-marks-number.is in
    some_weaker c.choose_block.result
    (IsFreeBlock c.args.blocks c.index-posts-number.result.fills c.index-marks-number.result)
    (IsFreeSeparation c.args.blocks c.args.posts.now c.args.marks.now c.args.number)
    (free_of_post c.args.blocks c.args.posts.now c.args.marks.now c.args.number c.index-posts-number.result c.index-marks-number.result at live is)
    (search rules)

pub returns-clause-none : goal.returns-clause-none
returns-clause-none c =
    let at : IsAt c.args.posts.now c.args.number c.index-posts-number.result = slice_get_read c.args.posts.now (length c.args.posts.now) c.args.number c.index-posts-number.result refl c.requires.post c.index-posts-number.is in
    let is : slice_get c.args.marks.now c.args.number ≡ Some c.index-marks-number.result = slice_get_read c.args.marks.now (length c.args.marks.now) c.args.number c.index-marks-number.result refl c.requires.marks c.index-marks-number.is in
    none_weaker c.choose_block.result
    ((b : ℕ) → IsFreeBlock c.args.blocks c.index-posts-number.result.fills c.index-marks-number.result b → ⊥)
    ((b : ℕ) → IsFreeSeparation c.args.blocks c.args.posts.now c.args.marks.now c.args.number b → ⊥)
    (λ none b s. none b (free_in_post c.args.blocks c.args.posts.now c.args.marks.now c.args.number c.index-posts-number.result c.index-marks-number.result at is b s))
    (search rules)

pub returns-clause-first : goal.returns-clause-first
returns-clause-first c =
    let at : IsAt c.args.posts.now c.args.number c.index-posts-number.result = slice_get_read c.args.posts.now (length c.args.posts.now) c.args.number c.index-posts-number.result refl c.requires.post c.index-posts-number.is in
    let is : slice_get c.args.marks.now c.args.number ≡ Some c.index-marks-number.result = slice_get_read c.args.marks.now (length c.args.marks.now) c.args.number c.index-marks-number.result refl c.requires.marks c.index-marks-number.is in
    some_weaker c.choose_block.result
    (λ block. (b : ℕ) → b < block → IsFreeBlock c.args.blocks c.index-posts-number.result.fills c.index-marks-number.result b → ⊥)
    (λ block. (b : ℕ) → b < block → IsFreeSeparation c.args.blocks c.args.posts.now c.args.marks.now c.args.number b → ⊥)
    (λ block none b less s. none b less (free_in_post c.args.blocks c.args.posts.now c.args.marks.now c.args.number c.index-posts-number.result c.index-marks-number.result at is b s))
    (search rules)
