-- What a point tells of a cut, and when two cuts say the same.
use Rattle.std.specs.Prelude.{ℤ, ◌≡◌, ◌-ℤ◌, ◌*ℤ◌, ◌<ℤ◌, List, [], ◌∷◌, ◌++◌}
use Rattle.std.proofs.Math.IntN.{neg_ℤ}
use Rattle.bz_algebra.specs.Sums.{dot}
use Rattle.bz_model.specs.declared.parts.Master.{Master}
use Rattle.bz_model.specs.PartPoints.{eta_of}
use Rattle.bz_model.specs.Points.{coordinate}
use Rattle.bz_model.specs.PointSums.{row_pairs}
use Rattle.bz_cut.specs.declared.records.Cut.{Cut}

-- the point breaks the cut: `alpha x - p0 eta` is above `beta` there
abbrev pub CutsOff : Cut → Master → Type 0
CutsOff cut point =
    (cut.beta *ℤ point.den) <ℤ (dot cut.alpha (coordinate point.x) -ℤ (cut.p0 *ℤ eta_of point cut.block))

-- the products that tell so, in their order: those of alpha, that of the eta, and that of the right side
abbrev pub cutting_pairs : Cut → Master → List (ℤ × ℤ)
cutting_pairs cut point =
    row_pairs cut.alpha point.x ++ (neg_ℤ cut.p0, eta_of point cut.block) ∷ (neg_ℤ cut.beta, point.den) ∷ []

-- the cuts say the same of the same block, whatever multipliers they come from
pub record AreSame (a b : Cut) : Type 0 where
  pub block : a.block ≡ b.block
  pub alpha : a.alpha ≡ b.alpha
  pub p0 : a.p0 ≡ b.p0
  pub beta : a.beta ≡ b.beta
