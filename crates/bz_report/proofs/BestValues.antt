-- The parts of the best post have values, and none of their denominators is wide.
use Rattle.std.proofs.Common.{◌≡◌, ◌*ℤ◌, subst}
use Rattle.bz_algebra.specs.Numbers.{IsNarrow}
use Rattle.bz_model.specs.declared.BlockPart.{BlockPart}
use Rattle.bz_model.specs.Decomposed.{IsDecomposed}
use Rattle.bz_model.specs.Splits.{Decomposition}
use Rattle.bz_model.proofs.Numbered.{all_from_numbered}
use Rattle.bz_history.specs.declared.state.Post.{Post}
use Rattle.bz_history.specs.Finished.{completions, parts_of}
use Rattle.bz_history.specs.Posts.{IsPostOf}
use Rattle.bz_history.specs.States.{State, mode_of}
use Rattle.bz_history.specs.Steps.{IsFilled}
use Rattle.bz_history.proofs.BestValues.{best_posts_are_right}
use Rattle.bz_history.proofs.FinishedSearches.{completed, post_shape}
use Rattle.bz_history.proofs.Lists.{at_one}
use Rattle.bz_history.proofs.PostSteps.{posts_are_right}
use Rattle.bz_report.specs.Values.{BestHasValues, HasValues}

-- a post each block of which is completed has values
post_has_values : (d : Decomposition) (t : State) (post : Post) → IsDecomposed d.model d.part → IsPostOf d (mode_of t) t.nodes t.cuts post → IsFilled post → HasValues d (parts_of post)
post_has_values d t post dec own filled = record {
  columns = dec.partition.numbers;
  shape = post_shape d (mode_of t) t.nodes post t.cuts own filled;
  narrow = all_from_numbered (λ (block : BlockPart). IsNarrow (post.point.den *ℤ block.times)) 1 (completions post.fills)
      (completed (λ e. IsNarrow (post.point.den *ℤ e.1.times)) 1 post.fills filled (λ b fill is. (own.fills b fill is).fits.scale));
}

pub best_has_values : BestHasValues
best_has_values d budget root es t dec r post best =
    let known = best_posts_are_right d budget root es t dec r best.0 best.1 in
    let same : known.0 ≡ post = at_one t.posts best.0 known.0 post known.1 best.2 in
    post_has_values d t post dec (posts_are_right d budget root es t r best.0 post best.2) (subst IsFilled same known.2.filled)
