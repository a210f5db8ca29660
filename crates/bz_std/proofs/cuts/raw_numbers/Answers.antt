use Rattle.std.proofs.Common.{rules, ◌≡◌, refl, sym, [], ◌∷◌, ◌++◌, Ok, Err, FitsSigned, to_z-of_z}
use Rattle.std.specs.Int.{w128}
use Rattle.bz_num.specs.Fold.{pairs_at}
use Rattle.bz_num.proofs.NarrowSums.{dot_where_ok, narrow_where_ok, result_narrow, wide_where_err}
use Rattle.bz_cut.specs.Rows.{rhs_at}
use Rattle.bz_std.specs.Making.{StopsSums}
use Rattle.bz_std.proofs.CutNumbers.{raw_from}
use Rattle.bz_std.proofs.LeafNumbers.{stops_wide}
use Rattle.bz_std.proofs.cuts.raw_numbers.Goals as goal

pub returns-in_err-rhs-clause-stop : goal.returns-in_err-rhs-clause-stop
returns-in_err-rhs-clause-stop c =
    stops_wide (StopsSums c.args.width c.args.rows.now c.args.mu.now) c.from_residual-in_err-rhs.result c.from_residual-in_err-rhs.ensures.1 (λ h. wide_where_err (pairs_at c.args.mu.now (rhs_at c.args.rows.now)) (Err c.in_err-rhs.field-0.0) c.in_err-rhs.field-0.0 c.in_err-rhs.ensures refl h.rhs)

pub returns-clause-numbers : goal.returns-clause-numbers
returns-clause-numbers c =
    let fits : FitsSigned w128 c.in_ok-rhs.rhs = search rules in
    let first : c.push_number.new.numbers.items ≡ c.in_ok-numbers.numbers.items ++ c.args.raw ∷ [] = rw (to_z-of_z c.ranges.raw) at c.in_ok-push_number.ensures in
    let second : c.push_number-2.new.numbers.items ≡ c.push_number.new.numbers.items ++ c.in_ok-rhs.rhs ∷ [] = rw (to_z-of_z fits) at c.in_ok-push_number-2.ensures in
    rw (second, first) (raw_from c.args.width c.args.rows.now c.args.mu.now c.args.raw c.in_ok-rhs.rhs c.in_ok-numbers.numbers.items c.in_ok-numbers.ensures.numbers c.requires.narrow (result_narrow (pairs_at c.args.mu.now (rhs_at c.args.rows.now)) c.in_ok-rhs.rhs (sym c.in_ok-rhs.ensures)) (dot_where_ok c.args.mu.now (rhs_at c.args.rows.now) (Ok c.in_ok-rhs.rhs) c.in_ok-rhs.rhs c.in_ok-rhs.ensures refl))

pub returns-clause-narrow : goal.returns-clause-narrow
returns-clause-narrow c = record {
  master = c.in_ok-numbers.ensures.narrow;
  rhs = narrow_where_ok (pairs_at c.args.mu.now (rhs_at c.args.rows.now)) (Ok c.in_ok-rhs.rhs) c.in_ok-rhs.rhs c.in_ok-rhs.ensures refl;
}
