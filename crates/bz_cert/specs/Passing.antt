-- What it is for a certificate to pass, by its verdict.
use Rattle.std.specs.Prelude.{ℕ, List, Option, Some, None}
use Rattle.bz_model.specs.declared.Model.{Model}
use Rattle.bz_model.specs.declared.Parts.{Parts}
use Rattle.bz_tree.specs.Verdicts.{PassesInfeasible, PassesOptimal, PassesUnbounded}
use Rattle.bz_cert.specs.declared.records.Certificate.{Certificate}
use Rattle.bz_cert.specs.declared.records.Verdict.{Verdict}
use Rattle.bz_cert.specs.declared.records.Verdict.TheVariants.{Optimal, Infeasible, Unbounded}

-- the certificate passes with these parts as its verdict says
abbrev pub PassesAs : Model → List ℕ → Certificate → Verdict → Option Parts → Type 0
PassesAs m part c Optimal (Some parts) = PassesOptimal m part parts c.value c.cuts c.tree
PassesAs m part c Optimal None = ⊥
PassesAs m part c Infeasible parts = PassesInfeasible m part c.cuts c.tree
PassesAs m part c Unbounded (Some parts) = PassesUnbounded m part parts c.ray
PassesAs m part c Unbounded None = ⊥

-- the certificate passes
pub record Passes (m : Model) (part : List ℕ) (c : Certificate) : Type 0 where
  pub as_its_verdict : PassesAs m part c c.verdict c.parts
