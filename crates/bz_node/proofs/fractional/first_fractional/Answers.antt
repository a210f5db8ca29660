use Rattle.std.proofs.Common.{rules, refl, ◌≡◌, ◌↔◌, ◌<◌, IsTrue, true, false, ℕ, ℤ, slice_index_or, inl, inr, arith, subst, sym, FitsSigned, to_z-of_z}
use Rattle.std.specs.Int.{w128}
use Rattle.std.proofs.lemmas.Bool.{cases_eq}
use Rattle.bz_num.specs.Dense.{entry}
use Rattle.bz_model.specs.Points.{IsWhole}
use Rattle.bz_node.proofs.Fractions.{none_fractional}
use Rattle.bz_node.proofs.fractional.first_fractional.Goals as goal

pub returns-then-not-is_whole : goal.returns-then-not-is_whole
returns-then-not-is_whole c =
    let number : ℤ = entry c.args.numbers.now (slice_index_or c.args.positions.now c.loop-position.position-index 0) in
    let fits : FitsSigned w128 number = search rules in
    let told : IsTrue c.is_whole.result ↔ IsWhole number c.args.den = rw (to_z-of_z fits, to_z-of_z c.ranges.den) at c.is_whole.ensures in
    let no : c.is_whole.result ≡ false = c.if-not-is_whole.true in
    let before : (k : ℕ) → k < c.loop-position.position-index → IsWhole (entry c.args.numbers.now (slice_index_or c.args.positions.now k 0)) c.args.den = rw (to_z-of_z c.ranges.den) at c.loop-position.invariant in
    record {
      place = c.loop-position.position-index;
      inside = c.loop-position-test.true;
      position_is = refl;
      fractional = λ w. let t : c.is_whole.result ≡ true = told.1 w in absurd cc;
      before = before;
    }

pub loop-position-preserved : goal.loop-position-preserved
loop-position-preserved c =
    let i : ℕ = c.loop-position.position-index in
    let number : ℤ = entry c.args.numbers.now (slice_index_or c.args.positions.now i 0) in
    let fits : FitsSigned w128 number = search rules in
    let told : IsTrue c.is_whole.result ↔ IsWhole number c.args.den = rw (to_z-of_z fits, to_z-of_z c.ranges.den) at c.is_whole.ensures in
    let before : (k : ℕ) → k < i → IsWhole (entry c.args.numbers.now (slice_index_or c.args.positions.now k 0)) c.args.den = rw (to_z-of_z c.ranges.den) at c.loop-position.invariant in
    rw (to_z-of_z c.ranges.den) (λ k l. elim (cases_eq k i) [
      | inl e ↦ subst (λ (j : ℕ). IsWhole (entry c.args.numbers.now (slice_index_or c.args.positions.now j 0)) c.args.den) (sym e) (told.0 c.if-not-is_whole.false)
      | inr n ↦ before k (omega arith)
    ])

pub returns : goal.returns
returns c =
    let before : (k : ℕ) → k < c.loop-position.position-index → IsWhole (entry c.args.numbers.now (slice_index_or c.args.positions.now k 0)) c.args.den = rw (to_z-of_z c.ranges.den) at c.loop-position.invariant in
    none_fractional c.args.positions.now (entry c.args.numbers.now) c.args.den c.loop-position.position-index c.loop-position-test.false before
