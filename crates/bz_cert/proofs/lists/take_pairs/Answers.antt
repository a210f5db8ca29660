use Rattle.std.proofs.Common.{FitsSigned, to_z-of_z, rules, suc, ◌+◌, ◌-◌, arith, refl}
use Rattle.std.specs.Int.{w128}
use Rattle.bz_cert.proofs.Refusals.{faulted}
use Rattle.bz_cert.proofs.SparseLists.{no_pair_here, no_pairs_behind, pair_pushed}
use Rattle.bz_cert.proofs.lists.take_pairs.Goals as goal

pub pairs-preserved : goal.pairs-preserved
pairs-preserved c =
    let f : FitsSigned w128 c.in-Some.field-0.number = search rules in
    record {
      so_far = rw (c.in_ok-push.ensures.items, to_z-of_z f)
          (pair_pushed _ _ _ _ _ _ _ c.pairs.invariant.so_far c.in-Some.ensures.pair c.in-Some.ensures.index);
      none = λ more e no. c.pairs.invariant.none (suc more) (omega arith) (no_pairs_behind more _ _ _ _ c.in-Some.ensures.pair no);
    }

pub returns-in_default : goal.returns-in_default
returns-in_default c = faulted _ _ _ _ c.fault.ensures (
  refl,
  refl,
  λ es rest h.
      c.pairs.invariant.none (suc (c.args.count - (c.pairs.counter + 1))) (omega arith)
      (no_pair_here _ _ c.in_default.ensures.none) es rest h,
)
