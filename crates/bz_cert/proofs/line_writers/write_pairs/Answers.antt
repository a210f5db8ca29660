use Rattle.std.proofs.Common.{rules, FitsSigned, get_or, pos, to_z-of_z}
use Rattle.std.specs.Int.{w128}
use Rattle.bz_cert.proofs.Written.{below_on, pairs_on}
use Rattle.bz_cert.proofs.line_writers.write_pairs.Goals as goal

pub pairs-preserved : goal.pairs-preserved
pairs-preserved c =
    let fits : FitsSigned w128 (get_or c.args.pairs.now c.pairs.pair-index (0, pos 0)).1 = search rules in
    record {
      text = pairs_on _ _ _ c.args.pairs.now c.pairs.pair-index (0, pos 0) c.pairs-test.true c.pairs.invariant.text
          (rw (to_z-of_z fits) at c.in_ok-write_pair.ensures.text);
      indexes = below_on _ c.args.pairs.now c.pairs.pair-index (0, pos 0) c.pairs-test.true c.pairs.invariant.indexes c.in_ok-write_pair.ensures.index;
    }
