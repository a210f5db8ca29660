-- Each turn makes one number more.
use Rattle.std.proofs.Common.{◌≡◌, rules, suc, ◌+◌, ◌++◌, length, arith, FitsSigned, to_z-of_z}
use Rattle.std.specs.Int.{w128}
use Rattle.bz_algebra.specs.Tableaus.{side}
use Rattle.bz_num.specs.Row.{entry_at}
use Rattle.bz_tableau.specs.First.{first_number}
use Rattle.bz_tableau.specs.Programs.{lp_equations}
use Rattle.bz_tableau.proofs.SparseRows.{below_next, first_spread, numbers_more, pushed_at}
use Rattle.bz_tableau.proofs.first.first_line.Goals as goal

pub loop-j-preserved : goal.loop-j-preserved
loop-j-preserved c =
    let fits : FitsSigned w128 c.first_entry.result = search rules in
    let items : c.push.new.self ≡ c.loop-j.terms ++ entry_at c.loop-j.j c.first_entry.result = rw (to_z-of_z fits) at c.in_ok-push.ensures.value in
    rw items record {
      numbers = numbers_more (first_number (lp_equations c.args.relaxed c.args.lp.now) c.args.i) c.loop-j.terms c.loop-j.j c.first_entry.result c.loop-j.invariant.numbers c.loop-j.invariant.below c.first_entry.ensures.value;
      sparse = pushed_at c.loop-j.j c.first_entry.result c.loop-j.terms c.loop-j.invariant.sparse c.loop-j.invariant.below c.first_entry.ensures.narrow;
      below = below_next c.loop-j.j c.first_entry.result c.loop-j.terms c.loop-j.invariant.below;
    }

pub returns : goal.returns
returns c =
    let end : (c.first_slack.result + length c.as_slice.result.now) + 2 ≡ c.loop-j.j = search rules in
    let slack : c.first_slack.result ≡ (lp_equations c.args.relaxed c.args.lp.now).slack = c.first_slack.ensures in
    let rows : length c.as_slice.result.now ≡ length c.args.lp.now.rows = search rules in
    let width : (c.first_slack.result + length c.as_slice.result.now) + 2 ≡ suc (side (lp_equations c.args.relaxed c.args.lp.now)) = rw (slack, rows) (omega arith) in
    rw c.from_terms.ensures (first_spread (lp_equations c.args.relaxed c.args.lp.now) c.args.i ((c.first_slack.result + length c.as_slice.result.now) + 2) c.loop-j.terms width (λ k l. c.loop-j.invariant.numbers k (omega arith)))
