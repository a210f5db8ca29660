use Rattle.std.proofs.Common.{◌≡◌, ◌∙◌, ◌/◌, ◌%◌, ◌⊎◌, inl, inr, arith}
use Rattle.bz_num.proofs.Comparing.{parts_tell, turned}
use Rattle.bz_num.proofs.compare.cmp_unsigned.Goals as goal
use Rattle.bz_num.proofs.compare.cmp_unsigned.Goals.{then-loop-n-test+then-n-d-ne0+else-m-e-ne0, then-loop-n-test+else-n-d-ne0, else-loop-n-test}

pub loop-n-preserved : goal.loop-n-preserved
loop-n-preserved c = record {
  left = omega (arith, c.if-m-e-ne0.true);
  right = omega (arith, c.if-n-d-ne0.true);
  same = turned c.loop-n.n c.loop-n.d c.loop-n.m c.loop-n.e c.loop-n-test.true ∙ c.loop-n.invariant.same;
}

pub returns : goal.returns
returns c =
    let last : c.loop-n.n / c.loop-n.d ≡ c.loop-n.m / c.loop-n.e → (c.loop-n.n % c.loop-n.d ≡ 0) ⊎ (c.loop-n.m % c.loop-n.e ≡ 0) = λ same. elim c.loop-n-test.branch [
      | then-loop-n-test+then-n-d-ne0+else-m-e-ne0 w ↦ inr w.if-m-e-ne0.false
      | then-loop-n-test+else-n-d-ne0 w ↦ inl w.if-n-d-ne0.false
      | else-loop-n-test w ↦ absurd (w.loop-n-test.false same)
    ] in
    c.cmp_parts.ensures ∙ parts_tell c.loop-n.n c.loop-n.d c.loop-n.m c.loop-n.e c.loop-n.invariant.left c.loop-n.invariant.right last ∙ c.loop-n.invariant.same
