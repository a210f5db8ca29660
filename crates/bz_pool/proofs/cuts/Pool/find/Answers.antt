use Rattle.std.proofs.Common.{◌≡◌, refl, rules, subst}
use Rattle.std.specs.List.{slice_get}
use Rattle.std.specs.Prelude.{List, Some, length}
use Rattle.std.proofs.lemmas.Option.{slice_get_read}
use Rattle.bz_cut.specs.declared.Cut.{Cut}
use Rattle.bz_cut.specs.Points.{AreSame}
use Rattle.bz_pool.proofs.cuts.Pool.find.Goals as goal

pub returns-then-same-clause-found : goal.returns-then-same-clause-found
returns-then-same-clause-found c =
    let whole : c.as_slice-known-items.result.now ≡ c.args.self.now.cuts = search rules in
    let alike : AreSame c.known-item.result c.args.cut.now = search rules in
    record {
      known = c.known-item.result;
      is_known = subst (λ (cuts : List Cut). slice_get cuts c.loop-number.number ≡ Some c.known-item.result) whole
          (slice_get_read c.as_slice-known-items.result.now (length c.as_slice-known-items.result.now) c.loop-number.number c.known-item.result refl c.loop-number-test.true c.known-item.is);
      same = alike;
    }
