use Rattle.std.proofs.Common.{sym, rules, pos, ◌<ℤ◌}
use Rattle.bz_cases.proofs.tasks.has_floor.Goals as goal

pub returns-then-cut-gt0 : goal.returns-then-cut-gt0
returns-then-cut-gt0 c =
    let eta : pos 0 <ℤ c.cut-item.result.p0 = search rules in
    λ _. record {
      cut = c.cut-item.result;
      among = (c.loop-cut.cut-index, c.loop-cut-test.true, sym c.cut-item.is);
      block = c.if-cut-block.true;
      eta = eta;
    }
