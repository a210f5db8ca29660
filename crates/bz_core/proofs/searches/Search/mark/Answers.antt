use Rattle.std.proofs.Common.{subst, sym, true}
use Rattle.bz_core.specs.Searches.{IsSearch, Marks}
use Rattle.bz_core.proofs.Marking.{block_marked_kept}
use Rattle.bz_core.proofs.searches.Search.mark.Goals as goal

pub invariant_of-self-in-Sep : goal.invariant_of-self-in-Sep
invariant_of-self-in-Sep c =
    subst (λ (m : Marks). IsSearch c.self.inside.split.now c.self.inside.budget c.self.inside.root c.self.inside.history.items c.self.inside.progress.state m)
    (sym c.set_block.ensures)
    (record {
      decomposed = c.self.invariant.decomposed;
      positive = c.self.invariant.positive;
      at_most = c.self.invariant.at_most;
      replayed = c.self.invariant.replayed;
      marks_are = block_marked_kept c.self.inside.split.now c.self.inside.progress.state c.self.inside.marks c.in-Sep.post c.in-Sep.block true c.self.invariant.marks_are;
      gaps = c.self.invariant.gaps;
      left = c.self.invariant.left;
    })
