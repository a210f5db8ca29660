use Rattle.std.proofs.Common.{rules, ◌≡◌, ◌<◌, ◌∙◌, [], ap, length, slice_index_or, ℕ, ℤ, List}
use Rattle.bz_algebra.specs.Sums.{coef}
use Rattle.bz_model.proofs.ByPosition.{item_is}
use Rattle.bz_model.proofs.splitting.Split.entries_at.Goals as goal

pub returns : goal.returns
returns c =
    let inside : c.args.position < length c.entries.result.now = rw c.entries.ensures.width c.requires.position in
    let item : c.index-entries-position.result ≡ slice_index_or c.entries.result.now c.args.position [] = item_is c.entries.result.now c.args.position c.index-entries-position.result inside c.index-entries-position.is in
    λ n. ap (λ (es : List (ℕ × ℤ)). coef es n) item ∙ c.entries.ensures.each c.args.position n
