-- What a passing certificate in accepted files shows.
use Rattle.std.proofs.Common.{◌≡◌, ℕ, List, Option, Some, None, refl, sym, subst, ap, arith, ◌∙◌}
use Rattle.std.specs.Prelude.{ℤ, pos, ◌≢◌, ◌*ℤ◌, ◌<ℤ◌}
use Rattle.std.proofs.Math.IntN.{*ℤ_comm}
use Rattle.std.proofs.lemmas.Int.{ints}
use Rattle.bz_algebra.proofs.Ring.{*ℤ_assoc, mul_positive, cancel_right}
use Rattle.bz_algebra.specs.Fractions.{Fraction, IsSameNumber}
use Rattle.bz_model.specs.Splits.{Decomposition, IsSplit}
use Rattle.bz_model.specs.declared.Model.{Model}
use Rattle.bz_model.specs.Points.{objective, IsOptimal, IsUnbounded}
use Rattle.bz_top.specs.declared.job.Job.{Job}
use Rattle.bz_cert.specs.Fits.{Fits}
use Rattle.bz_io.specs.Desk.{Telling}
use Rattle.bz_cert.specs.Passing.{Passes, PassesAs}
use Rattle.bz_cert.specs.declared.Certificate.{Certificate}
use Rattle.bz_cert.specs.declared.Verdict.{Verdict}
use Rattle.bz_cert.specs.declared.Verdict.TheVariants as verdict
use Rattle.bz_model.specs.declared.Parts.{Parts}
use Rattle.bz_model.specs.Decomposed.{IsDecomposed}
use Rattle.bz_pass.specs.Laws.{PassingIsInfeasible, PassingIsOptimal, PassingIsUnbounded, PartsHaveAPoint}
use Rattle.bz_model.specs.PartPoints.{IsPointOf}
use Rattle.bz_tree.specs.Verdicts.{PassesOptimal}
use Rattle.bz_model.specs.Stated.{objective_of}
use Rattle.bz_top.specs.declared.said.Holding.{Holding}
use Rattle.bz_top.specs.declared.said.Holding.TheVariants.{Optimal, Infeasible, Unbounded}
use Rattle.bz_top.specs.Claims.{Shows}
use Rattle.bz_top.specs.Loads.{Accepted, Certified, Says, ShownHolding}

swapped : (x y z : ℤ) → (x *ℤ y) *ℤ z ≡ (x *ℤ z) *ℤ y
swapped x y z = *ℤ_assoc x y z ∙ ap (λ (t : ℤ). x *ℤ t) (*ℤ_comm y z) ∙ sym (*ℤ_assoc x z y)

-- equal numbers with a positive denominator between them
same_through : (a b c : Fraction) → (pos 0) <ℤ b.den → IsSameNumber a b → IsSameNumber c b → IsSameNumber a c
same_through a b c positive p q =
    let apart : b.den ≢ pos 0 = λ e. absurd (omega (arith, ints)) in
    cancel_right (a.num *ℤ c.den) (c.num *ℤ a.den) b.den apart
    (swapped a.num c.den b.den ∙ ap (λ (t : ℤ). t *ℤ c.den) p ∙ swapped b.num a.den c.den
    ∙ ap (λ (t : ℤ). t *ℤ a.den) (sym q) ∙ swapped c.num b.den a.den)

-- the laws of the three verdicts
pub record AreTrue : Type 0 where
  pub optimal : PassingIsOptimal
  pub infeasible : PassingIsInfeasible
  pub unbounded : PassingIsUnbounded
  pub point : PartsHaveAPoint

-- what a certificate passes as, by its verdict and its parts
passes_as : (m : Model) (part : List ℕ) (c : Certificate) (v : Verdict) (o : Option Parts) → c.verdict ≡ v → c.parts ≡ o → Passes m part c → PassesAs m part c v o
passes_as m part c v o ev eo p =
    subst (λ (v : Verdict). PassesAs m part c v o) ev (subst (λ (o : Option Parts). PassesAs m part c c.verdict o) eo p.as_its_verdict)

-- a certificate that passes and fits says what is true of the model
pub true_of : AreTrue → (d : Decomposition) (c : Certificate) (holding : Holding) → IsSplit d → Passes d.model d.part c → Says d c holding → Shows d.model d.part c holding
true_of laws d c (Optimal stated) split passes says =
    let decomposed : IsDecomposed d.model d.part = record { columns = split.indexes; partition = split.partition; strict = split.strict } in
    let parts = says.1.0 in
    let p : PassesOptimal d.model d.part parts c.value c.cuts c.tree = passes_as d.model d.part c verdict.Optimal (Some parts) says.0 says.1.1 passes in
    let at : (p : List ℤ) × (q : ℤ) × IsPointOf d.model d.part parts p q = laws.point d.model d.part parts decomposed p.shape.point in
    let best : IsOptimal d.model at.0 at.1 × IsSameNumber (objective d.model at.0 at.1) (objective_of d.model c.value parts.master.den) = laws.optimal d.model d.part parts c.value c.cuts c.tree at.0 at.1 decomposed p at.2 in
    record {
      says = says.0;
      parts = parts;
      parts_are = says.1.1;
      p = at.0;
      q = at.1;
      point = at.2;
      optimal = best.0;
      reduced = says.1.3;
      objective_is = same_through _ _ _ (mul_positive _ _ d.model.scale_positive p.shape.point.master.den) says.1.2 best.1;
    }
true_of laws d c Infeasible split passes says =
    let decomposed : IsDecomposed d.model d.part = record { columns = split.indexes; partition = split.partition; strict = split.strict } in
    (says, laws.infeasible d.model d.part c.cuts c.tree decomposed (passes_as d.model d.part c verdict.Infeasible c.parts says refl passes))
true_of laws d c Unbounded split passes says =
    let decomposed : IsDecomposed d.model d.part = record { columns = split.indexes; partition = split.partition; strict = split.strict } in
    (says, unbounded (c.parts) refl)
  where
    unbounded : (o : Option Parts) → c.parts ≡ o → IsUnbounded d.model
    unbounded None e = absurd (passes_as d.model d.part c verdict.Unbounded None says e passes)
    unbounded (Some parts) e = laws.unbounded d.model d.part parts c.ray
        (record { columns = split.indexes; partition = split.partition; strict = split.strict })
        (passes_as d.model d.part c verdict.Unbounded (Some parts) says e passes)

-- where the desk tells what it holds, the files show what the certificate says
pub shows : AreTrue → (told : Option Telling) (j : Job) (d : Decomposition) (c : Certificate) (holding : Holding)
    → IsSplit d → Accepted told j d → Certified told j c → Passes d.model d.part c → Fits d.model d.part c → Says d c holding → ShownHolding told j holding
shows laws None j d c holding split accepted read passes fits says = tt
shows laws (Some desk) j d c holding split accepted read passes fits says = record {
  split = d;
  accepted = accepted;
  certificate = c;
  reads = read;
  passes = passes;
  fits = fits;
  shows = true_of laws d c holding split passes says;
}
