-- What a search that has come to its end hands over, and its certificate.
use Rattle.std.specs.Prelude.{ℕ, ◌≡◌, ◌≤◌, List, length, Option, Some, None}
use Rattle.bz_num.specs.Fold.{IsNarrowSum}
use Rattle.bz_model.specs.declared.Master.{Master}
use Rattle.bz_model.specs.Parting.{blocks_of, inner_cost, terms_in, width_of}
use Rattle.bz_model.specs.PointSums.{value_pairs}
use Rattle.bz_model.specs.Splits.{Decomposition}
use Rattle.bz_cut.specs.declared.Cut.{Cut}
use Rattle.bz_tree.specs.Trees.{Tree}
use Rattle.bz_cert.specs.declared.records.Certificate.{Certificate}
use Rattle.bz_cert.specs.declared.records.Verdict.{Verdict}
use Rattle.bz_cert.specs.declared.records.Verdict.TheVariants as verdict
use Rattle.bz_cert.specs.Fits.{Fits}
use Rattle.bz_cert.specs.Passing.{Passes}
use Rattle.bz_cert.specs.Shapes.{IsShaped}
use Rattle.bz_std.specs.Tasks.{IsMasterOf}
use Rattle.bz_event.specs.declared.events.Entry.{Entry}
use Rattle.bz_history.specs.declared.state.FallingRay.{FallingRay}
use Rattle.bz_history.specs.declared.state.Node.{Node}
use Rattle.bz_history.specs.declared.state.Post.{Post}
use Rattle.bz_history.specs.declared.state.Region.{Region}
use Rattle.bz_history.specs.Budgets.{greatest_budget}
use Rattle.bz_history.specs.Certificates.{IsInfeasibleCertificate, IsOptimalCertificate, IsTreeAt, IsUnboundedCertificate}
use Rattle.bz_history.specs.Histories.{IsReplay}
use Rattle.bz_history.specs.Outcomes.{HasVerdict, outcome_of}
use Rattle.bz_history.specs.States.{State}
use Rattle.bz_history.specs.Steps.{IsAt}

-- the point has the split's shape, and no sum that makes its value is wide
pub record HasValue (d : Decomposition) (point : Master) : Type 0 where
  pub shape : IsMasterOf d.part point
  pub narrow : IsNarrowSum (value_pairs (terms_in d.part 0 (inner_cost d.model)) point)

-- the direction has a number for each position of a block
pub record HasPlaces (d : Decomposition) (ray : FallingRay) : Type 0 where
  pub last : ray.block ≤ blocks_of d.part
  pub numbers : length ray.d ≡ width_of d.part ray.block

-- Some legal history, under a budget within the limit, makes a state with these cuts, nodes, points, best point and direction,
-- and the search has come to a verdict.
pub record IsFinished (d : Decomposition) (cuts : List Cut) (nodes : List Node) (posts : List Post) (best : Option ℕ)
    (ray : Option FallingRay) : Type 0 where
  pub budget : ℕ
  pub root : Region
  pub es : List Entry
  pub state : State
  pub replayed : IsReplay d budget root es state
  pub limit : budget ≤ greatest_budget
  pub cuts_are : state.cuts ≡ cuts
  pub nodes_are : state.nodes ≡ nodes
  pub posts_are : state.posts ≡ posts
  pub best_is : state.best ≡ best
  pub ray_is : state.ray ≡ ray
  pub verdict : HasVerdict (outcome_of state)

-- where there is no best point, no point is feasible; a best one is optimal, or in mode Point shows that there is no optimum
abbrev pub verdict_of : Option ℕ → Option FallingRay → Verdict
verdict_of None ray = verdict.Infeasible
verdict_of (Some number) None = verdict.Optimal
verdict_of (Some number) (Some ray) = verdict.Unbounded

-- the certificate of these, by its verdict
abbrev pub IsCertificateOf : Decomposition → List Cut → List Node → List Post → Option ℕ → Option FallingRay →
    Certificate → Type 0
IsCertificateOf d cuts nodes posts None ray c = (tree : Tree) → IsTreeAt nodes 0 tree → IsInfeasibleCertificate cuts tree c
IsCertificateOf d cuts nodes posts (Some number) None c =
    (post : Post) → IsAt posts number post → (tree : Tree) → IsTreeAt nodes 0 tree → IsOptimalCertificate d cuts post tree c
IsCertificateOf d cuts nodes posts (Some number) (Some ray) c =
    (post : Post) → IsAt posts number post → IsUnboundedCertificate d post ray c

-- It is the certificate of these; it passes and fits, and has what its verdict needs and nothing else.
pub record IsRightCertificate (d : Decomposition) (cuts : List Cut) (nodes : List Node) (posts : List Post)
    (best : Option ℕ) (ray : Option FallingRay) (c : Certificate) : Type 0 where
  pub verdict_is : c.verdict ≡ verdict_of best ray
  pub is_certificate : IsCertificateOf d cuts nodes posts best ray c
  pub passes : Passes d.model d.part c
  pub fits : Fits d.model d.part c
  pub shaped : IsShaped c
