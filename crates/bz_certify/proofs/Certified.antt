-- What the lists of a search with a legal history show.
use Rattle.std.proofs.Common.{◌≡◌, ◌∙◌, refl, sym, ap, subst, ℕ, zero, suc, ◌<◌, ◌≤◌, List, [], ◌∷◌, inl, inr, arith, ℤ, pos, ◌+ℤ◌, ◌≤ℤ◌, ◌<ℤ◌}
use Rattle.std.proofs.lemmas.Int.{ints}
use Rattle.std.proofs.lemmas.Option.{slice_get_within}
use Rattle.std.specs.Prelude.{◌⊎◌, Option, Some, None, IsSome, false, true, is_none, length, slice_index_or}
use Rattle.std.specs.List.{AllByRecursion, list_any, slice_get}
use Rattle.std.proofs.Props.{props}
use mathlib.Core.HLevel.{is_prop→PathP}
use Rattle.bz_algebra.specs.Numbers.{IsNarrow}
use Rattle.bz_model.specs.declared.Master.{Master}
use Rattle.bz_model.specs.Decomposed.{IsDecomposed}
use Rattle.bz_model.specs.Points.{coordinate}
use Rattle.bz_model.specs.Splits.{Decomposition}
use Rattle.bz_cut.specs.declared.Cut.{Cut}
use Rattle.bz_cut.specs.declared.Mode.{Mode}
use Rattle.bz_cut.specs.declared.Mode.TheVariants as mode
use Rattle.bz_tree.specs.Integers.{integer_at}
use Rattle.bz_tree.specs.Trees.{Tree}
use Rattle.bz_tree.proofs.NarrowSides.{narrow_at}
use Rattle.bz_cert.specs.declared.records.Certificate.{Certificate}
use Rattle.bz_cert.specs.Fits.{Fits}
use Rattle.bz_cert.specs.Passing.{Passes}
use Rattle.bz_cert.specs.Shapes.{IsShaped}
use Rattle.bz_event.specs.declared.events.Entry.{Entry}
use Rattle.bz_event.specs.declared.events.How.{How}
use Rattle.bz_event.specs.declared.events.How.TheVariants as how
use Rattle.bz_history.specs.declared.state.Closing.{Closing}
use Rattle.bz_history.specs.declared.state.FallingRay.{FallingRay}
use Rattle.bz_history.specs.declared.state.Node.{Node}
use Rattle.bz_history.specs.declared.state.Post.{Post}
use Rattle.bz_history.specs.declared.state.Region.{Region}
use Rattle.bz_history.specs.Certificates.{CertificatesAreShaped, CertificatesPass, IsInfeasibleCertificate, IsOptimalCertificate, IsTreeAt, IsUnboundedCertificate, without_etas}
use Rattle.bz_history.specs.Histories.{IsReplay}
use Rattle.bz_history.specs.Posts.{IsPostOf}
use Rattle.bz_history.specs.States.{State, is_open, mode_for}
use Rattle.bz_history.specs.Steps.{IsAt, IsFilled}
use Rattle.bz_history.specs.Trees.{IsEnd, IsEndedRight, IsInside, IsTree}
use Rattle.bz_history.proofs.BestSteps.{best_is_filled}
use Rattle.bz_history.specs.Budgets.{greatest_budget}
use Rattle.bz_history.proofs.CertificateShapes.{certificates_have_their_shape}
use Rattle.bz_history.proofs.CertificateTrees.{certificates_are_right}
use Rattle.bz_history.proofs.FinishedSearches.{none_open}
use Rattle.bz_history.proofs.Lists.{at_one}
use Rattle.bz_history.proofs.OutcomeSteps.{verdict_is_final}
use Rattle.bz_history.proofs.PostSteps.{posts_are_right}
use Rattle.bz_history.proofs.RaySteps.{IsRayOf, ray_is_right}
use Rattle.bz_history.proofs.TreeSteps.{trees_are_whole}
use Rattle.bz_certify.specs.Finished.{HasPlaces, HasValue, IsCertificateOf, IsFinished, IsRightCertificate, verdict_of}
use Rattle.bz_certify.specs.Walks.{AreClosed, IsClosedAt, IsEndOf}

-- a point is the same where its numbers are
pub without_etas_is : (point m : Master) → m.den ≡ point.den → m.x ≡ point.x → m.eta ≡ [] → m ≡ without_etas point
without_etas_is point m d x e = λ i. record {
  den = d i;
  x = x i;
  eta = e i;
  den_narrow = is_prop→PathP (λ j. IsNarrow (d j)) (λ j. hlevel props) m.den_narrow point.den_narrow i;
  x_narrow = is_prop→PathP (λ j. AllByRecursion IsNarrow (x j)) (λ j. hlevel props) m.x_narrow point.x_narrow i;
  eta_narrow = is_prop→PathP (λ j. AllByRecursion IsNarrow (e j)) (λ j. hlevel props) m.eta_narrow (without_etas point).eta_narrow i;
}

-- ---- closed nodes
-- the number after that of a split lies between the ends of the root's box
next_narrow : (l m v u w : ℤ) → IsNarrow l → IsNarrow w → l ≤ℤ m → m ≤ℤ v → v <ℤ u → u ≤ℤ w → IsNarrow (v +ℤ pos 1)
next_narrow l m v u w low high a b c e = omega (arith, ints)

end_closed : (d : Decomposition) (root : Region) (cuts : List Cut) (nodes : List Node) (n : ℕ) (region : Region) (kids : ℕ) (h : How) → AllByRecursion IsNarrow root.lower → AllByRecursion IsNarrow root.upper → IsInside root region → IsEnd d cuts nodes n region kids h → IsEndOf nodes n kids h
end_closed d root cuts nodes n region kids (how.Split front basis position value) lower upper inside s =
    let k : ℕ = integer_at d.model d.part position in (
      record { later = s.later; inside = slice_get_within nodes (suc kids) s.right.node s.right.is_node },
      next_narrow (coordinate root.lower k) (coordinate region.lower k) value (coordinate region.upper k) (coordinate root.upper k)
          (narrow_at root.lower k lower) (narrow_at root.upper k upper) (inside.lower k) s.at_least s.below_upper (inside.upper k),
    )
end_closed d root cuts nodes n region kids (how.Leaf front leaf) lower upper inside h = tt

closing_closed : (d : Decomposition) (root : Region) (cuts : List Cut) (nodes : List Node) (n : ℕ) (region : Region) (o : Option Closing) → AllByRecursion IsNarrow root.lower → AllByRecursion IsNarrow root.upper → IsInside root region → (is_none o ≡ true → ⊥) → IsEndedRight d cuts nodes n region o → IsClosedAt nodes n o
closing_closed d root cuts nodes n region None lower upper inside some h = some refl
closing_closed d root cuts nodes n region (Some closing) lower upper inside some h = end_closed d root cuts nodes n region closing.kids closing.how lower upper inside h

all_closed : (d : Decomposition) (root : Region) (cuts : List Cut) (nodes : List Node) → AllByRecursion IsNarrow root.lower → AllByRecursion IsNarrow root.upper → IsTree d root cuts nodes → list_any is_open nodes ≡ false → AreClosed nodes
all_closed d root cuts nodes lower upper tree none = record {
  first = slice_get_within nodes 0 tree.first.node tree.first.is_node;
  each = λ n node at. closing_closed d root cuts nodes n node.region node.closing lower upper (tree.inside n node at) (none_open nodes n node none at) (tree.each n node at);
}

-- ---- what the lists show
-- the certificate passes, fits and has its shape
pub record IsGood (d : Decomposition) (c : Certificate) : Type 0 where
  pub passes : Passes d.model d.part c
  pub fits : Fits d.model d.part c
  pub shaped : IsShaped c

good : (d : Decomposition) (c : Certificate) → Passes d.model d.part c × Fits d.model d.part c → IsShaped c → IsGood d c
good d c both shaped = record { passes = both.0; fits = both.1; shaped = shaped }

pub record IsLawful (d : Decomposition) (cuts : List Cut) (nodes : List Node) (posts : List Post) (best : Option ℕ) (ray : Option FallingRay) : Type 0 where
  pub has_tree : list_any is_open nodes ≡ false → (tree : Tree) × IsTreeAt nodes 0 tree
  pub closed : list_any is_open nodes ≡ false → AreClosed nodes
  pub has_post : (i : ℕ) → best ≡ Some i → (post : Post) × IsAt posts i post
  pub has_value : ray ≡ None → (i : ℕ) (post : Post) → IsAt posts i post → HasValue d post.point
  pub has_places : (r : FallingRay) → ray ≡ Some r → HasPlaces d r
  pub optimal : ray ≡ None → (i : ℕ) → best ≡ Some i → (post : Post) → IsAt posts i post → (tree : Tree) → IsTreeAt nodes 0 tree → (c : Certificate) → IsOptimalCertificate d cuts post tree c → IsGood d c
  pub infeasible : best ≡ None → (tree : Tree) → IsTreeAt nodes 0 tree → (c : Certificate) → IsInfeasibleCertificate cuts tree c → IsGood d c
  pub unbounded : (i : ℕ) → best ≡ Some i → (post : Post) → IsAt posts i post → (r : FallingRay) → ray ≡ Some r → (c : Certificate) → IsUnboundedCertificate d post r c → IsGood d c

state_lawful : (d : Decomposition) (budget : ℕ) (root : Region) (es : List Entry) (t : State) → IsDecomposed d.model d.part → budget ≤ greatest_budget → IsReplay d budget root es t → IsLawful d t.cuts t.nodes t.posts t.best t.ray
state_lawful d budget root es t dec limit r = record {
  has_tree = passing.has_tree;
  closed = all_closed d root t.cuts t.nodes r.root_is.lower r.root_is.upper (trees_are_whole d budget root es t r);
  has_post = has_post;
  has_value = has_value;
  has_places = λ x is. let own : IsRayOf d x = ray_is_right d budget root es t r x is in record { last = own.last; numbers = own.is_ray.numbers };
  optimal = λ none i is post at tree at_first c own. good d c (passing.optimal (ap mode_for none) post (i, is, at) tree at_first c own) (shapes.optimal (ap mode_for none) post (i, is, at) tree at_first c own);
  infeasible = λ none tree at_first c own. good d c (passing.infeasible none tree at_first c own) (shapes.infeasible tree at_first c own);
  unbounded = λ i is post at x ray_is c own. good d c (passing.unbounded post (i, is, at) x ray_is c own) (shapes.unbounded post x ray_is c own);
}
  where
    passing : CertificatesPass d t
    passing = certificates_are_right d budget root es t dec r

    shapes : CertificatesAreShaped d t
    shapes = certificates_have_their_shape d budget root es t dec limit r

    has_post : (i : ℕ) → t.best ≡ Some i → (post : Post) × IsAt t.posts i post
    has_post i is =
        let b : (x : Post) × IsAt t.posts i x × IsFilled x = best_is_filled d budget root es t r i is in
        (b.0, b.1)

    has_value : t.ray ≡ None → (i : ℕ) (post : Post) → IsAt t.posts i post → HasValue d post.point
    has_value none i post at =
        let h : IsPostOf d mode.Cost t.nodes t.cuts post = subst (λ (w : Mode). IsPostOf d w t.nodes t.cuts post) (ap mode_for none) (posts_are_right d budget root es t r i post at) in
        record { shape = h.posted.shape; narrow = h.posted.fits_value.0 }

pub lawful : (d : Decomposition) (cuts : List Cut) (nodes : List Node) (posts : List Post) (best : Option ℕ) (ray : Option FallingRay) → IsDecomposed d.model d.part → IsFinished d cuts nodes posts best ray → IsLawful d cuts nodes posts best ray
lawful d cuts nodes posts best ray dec f =
    subst (λ (x : Option FallingRay). IsLawful d cuts nodes posts best x) f.ray_is
    (subst (λ (x : Option ℕ). IsLawful d cuts nodes posts x f.state.ray) f.best_is
    (subst (λ (x : List Post). IsLawful d cuts nodes x f.state.best f.state.ray) f.posts_are
    (subst (λ (x : List Node). IsLawful d cuts x f.state.posts f.state.best f.state.ray) f.nodes_are
    (subst (λ (x : List Cut). IsLawful d x f.state.nodes f.state.posts f.state.best f.state.ray) f.cuts_are
    (state_lawful d f.budget f.root f.es f.state dec f.limit f.replayed)))))

-- ---- which verdict there is
-- no node is open, or there are a best point and a direction
final : (d : Decomposition) (cuts : List Cut) (nodes : List Node) (posts : List Post) (best : Option ℕ) (ray : Option FallingRay) → IsFinished d cuts nodes posts best ray → (list_any is_open nodes ≡ false) ⊎ (IsSome best × IsSome ray)
final d cuts nodes posts best ray f =
    subst (λ (x : Option FallingRay). (list_any is_open nodes ≡ false) ⊎ (IsSome best × IsSome x)) f.ray_is
    (subst (λ (x : Option ℕ). (list_any is_open nodes ≡ false) ⊎ (IsSome x × IsSome f.state.ray)) f.best_is
    (subst (λ (x : List Node). (list_any is_open x ≡ false) ⊎ (IsSome f.state.best × IsSome f.state.ray)) f.nodes_are
    (verdict_is_final f.state.stop f.state.ray f.state.best (list_any is_open f.state.nodes) f.verdict)))

pub without_best : (d : Decomposition) (cuts : List Cut) (nodes : List Node) (posts : List Post) (best : Option ℕ) (ray : Option FallingRay) → IsFinished d cuts nodes posts best ray → best ≡ None → list_any is_open nodes ≡ false
without_best d cuts nodes posts best ray f none = by (final d cuts nodes posts best ray f)
  where
    by : (list_any is_open nodes ≡ false) ⊎ (IsSome best × IsSome ray) → list_any is_open nodes ≡ false
    by (inl h) = h
    by (inr h) =
        let some : IsSome {T = ℕ} None = subst (λ (o : Option ℕ). IsSome o) none h.0 in
        absurd (cc)

pub without_ray : (d : Decomposition) (cuts : List Cut) (nodes : List Node) (posts : List Post) (best : Option ℕ) (ray : Option FallingRay) → IsFinished d cuts nodes posts best ray → ray ≡ None → list_any is_open nodes ≡ false
without_ray d cuts nodes posts best ray f none = by (final d cuts nodes posts best ray f)
  where
    by : (list_any is_open nodes ≡ false) ⊎ (IsSome best × IsSome ray) → list_any is_open nodes ≡ false
    by (inl h) = h
    by (inr h) =
        let some : IsSome {T = FallingRay} None = subst (λ (o : Option FallingRay). IsSome o) none h.1 in
        absurd (cc)

-- ---- the certificate of each verdict
-- what stands at the number is what an index gives
index_is : {X : Type 0} (xs : List X) (i : ℕ) (x e : X) → slice_get xs i ≡ Some x → slice_index_or xs i e ≡ x
index_is [] i x e h = absurd (cc)
index_is (y ∷ xs) zero x e h = cc
index_is (y ∷ xs) (suc i) x e h = index_is xs i x e h

-- the best post is the one that an index gives
pub best_at : (d : Decomposition) (cuts : List Cut) (nodes : List Node) (posts : List Post) (best : Option ℕ) (ray : Option FallingRay) → IsLawful d cuts nodes posts best ray → (i : ℕ) → best ≡ Some i → (post : Post) → post ≡ slice_index_or posts i post → IsAt posts i post
best_at d cuts nodes posts best ray l i is post own =
    let there : (x : Post) × IsAt posts i x = l.has_post i is in
    subst (IsAt posts i) (sym (own ∙ index_is posts i there.0 post there.1)) there.1

pub best_inside : (d : Decomposition) (cuts : List Cut) (nodes : List Node) (posts : List Post) (best : Option ℕ) (ray : Option FallingRay) → IsLawful d cuts nodes posts best ray → (i : ℕ) → best ≡ Some i → i < length posts
best_inside d cuts nodes posts best ray l i is =
    let there : (x : Post) × IsAt posts i x = l.has_post i is in
    slice_get_within posts i there.0 there.1

pub right_infeasible : (d : Decomposition) (cuts : List Cut) (nodes : List Node) (posts : List Post) (best : Option ℕ) (ray : Option FallingRay) → IsLawful d cuts nodes posts best ray → list_any is_open nodes ≡ false → best ≡ None
    → (c : Certificate) → ((tree : Tree) → IsTreeAt nodes 0 tree → IsInfeasibleCertificate cuts tree c) → IsRightCertificate d cuts nodes posts best ray c
right_infeasible d cuts nodes posts best ray l none no_best c h =
    let tree : (tree : Tree) × IsTreeAt nodes 0 tree = l.has_tree none in
    let both : IsGood d c = l.infeasible no_best tree.0 tree.1 c (h tree.0 tree.1) in
    record { verdict_is = (h tree.0 tree.1).verdict ∙ sym (ap (λ (o : Option ℕ). verdict_of o ray) no_best); is_certificate = subst (λ (o : Option ℕ). IsCertificateOf d cuts nodes posts o ray c) (sym no_best) h; passes = both.passes; fits = both.fits; shaped = both.shaped }

pub right_optimal : (d : Decomposition) (cuts : List Cut) (nodes : List Node) (posts : List Post) (best : Option ℕ) (ray : Option FallingRay) → IsLawful d cuts nodes posts best ray → list_any is_open nodes ≡ false → (i : ℕ) → best ≡ Some i → ray ≡ None → (post : Post) → IsAt posts i post
    → (c : Certificate) → ((tree : Tree) → IsTreeAt nodes 0 tree → IsOptimalCertificate d cuts post tree c) → IsRightCertificate d cuts nodes posts best ray c
right_optimal d cuts nodes posts best ray l none i is no_ray post at c h =
    let tree : (tree : Tree) × IsTreeAt nodes 0 tree = l.has_tree none in
    let both : IsGood d c = l.optimal no_ray i is post at tree.0 tree.1 c (h tree.0 tree.1) in
    record {
      verdict_is = (h tree.0 tree.1).verdict ∙ sym (ap (λ (o : Option ℕ). verdict_of o ray) is ∙ ap (λ (o : Option FallingRay). verdict_of (Some i) o) no_ray);
      is_certificate = subst (λ (o : Option ℕ). IsCertificateOf d cuts nodes posts o ray c) (sym is) (subst (λ (o : Option FallingRay). IsCertificateOf d cuts nodes posts (Some i) o c) (sym no_ray) each);
      passes = both.passes;
      fits = both.fits;
      shaped = both.shaped;
    }
  where
    each : (other : Post) → IsAt posts i other → (tree : Tree) → IsTreeAt nodes 0 tree → IsOptimalCertificate d cuts other tree c
    each other there tree at_first = subst (λ (x : Post). IsOptimalCertificate d cuts x tree c) (at_one posts i post other at there) (h tree at_first)

pub right_unbounded : (d : Decomposition) (cuts : List Cut) (nodes : List Node) (posts : List Post) (best : Option ℕ) (ray : Option FallingRay) → IsLawful d cuts nodes posts best ray → (i : ℕ) → best ≡ Some i → (post : Post) → IsAt posts i post → (r : FallingRay) → ray ≡ Some r
    → (c : Certificate) → IsUnboundedCertificate d post r c → IsRightCertificate d cuts nodes posts best ray c
right_unbounded d cuts nodes posts best ray l i is post at r ray_is c h =
    let both : IsGood d c = l.unbounded i is post at r ray_is c h in
    record {
      verdict_is = h.verdict ∙ sym (ap (λ (o : Option ℕ). verdict_of o ray) is ∙ ap (λ (o : Option FallingRay). verdict_of (Some i) o) ray_is);
      is_certificate = subst (λ (o : Option ℕ). IsCertificateOf d cuts nodes posts o ray c) (sym is) (subst (λ (o : Option FallingRay). IsCertificateOf d cuts nodes posts (Some i) o c) (sym ray_is) each);
      passes = both.passes;
      fits = both.fits;
      shaped = both.shaped;
    }
  where
    each : (other : Post) → IsAt posts i other → IsUnboundedCertificate d other r c
    each other there = subst (λ (x : Post). IsUnboundedCertificate d x r c) (at_one posts i post other at there) h
