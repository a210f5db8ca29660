-- The certificates of searches have their shape.
use Rattle.std.proofs.Common.{◌≡◌, refl, sym, subst, ℕ, suc, ◌+◌, ◌*◌, ◌≤◌, List, [], ◌∷◌, length, arith, ℤ, pos, ◌+ℤ◌, ◌≤ℤ◌, ◌<ℤ◌}
use Rattle.std.proofs.lemmas.Int.{ints}
use Rattle.std.specs.Prelude.{◌==◌, if◌then◌else◌, Bool, true, false, Some, Ok}
use Rattle.std.specs.List.{AllByRecursion, enumerate_from}
use Rattle.bz_algebra.specs.Numbers.{IsNarrow}
use Rattle.bz_num.specs.Dense.{AreNarrow}
use Rattle.bz_num.specs.Fold.{IsNarrowSum, fold_of, products}
use Rattle.bz_num.proofs.Folds.{fold-from_narrow}
use Rattle.bz_num.proofs.NarrowSums.{result_narrow}
use Rattle.bz_model.specs.declared.Master.{Master}
use Rattle.bz_model.specs.Parting.{blocks_of, inner_cost, position_of, terms_in}
use Rattle.bz_model.specs.PointSums.{value_pairs}
use Rattle.bz_model.specs.Points.{coordinate}
use Rattle.bz_model.specs.Splits.{Decomposition}
use Rattle.bz_model.proofs.MeetingParts.{all_append}
use Rattle.bz_model.proofs.Numbered.{all_mapped}
use Rattle.bz_cut.specs.declared.Cut.{Cut}
use Rattle.bz_cut.specs.declared.Mode.{Mode}
use Rattle.bz_cut.specs.declared.Mode.TheVariants as mode
use Rattle.bz_tree.specs.Integers.{integer_at}
use Rattle.bz_tree.specs.Trees.{Tree, preorder}
use Rattle.bz_tree.proofs.NarrowSides.{narrow_at}
use Rattle.bz_cert.specs.declared.records.Certificate.{Certificate}
use Rattle.bz_cert.specs.declared.records.Verdict.{Verdict}
use Rattle.bz_cert.specs.declared.records.Verdict.TheVariants as verdict
use Rattle.bz_cert.specs.Shapes.{AreCuts, AreNodes, HasCutsOf, HasPartsOf, HasRayOf, HasTreeOf, HasValueOf, IsNarrowNode, IsShaped}
use Rattle.bz_event.specs.Floors.{placed}
use Rattle.bz_event.specs.Nodes.{value_of}
use Rattle.bz_event.proofs.PlacedRays.{number_of}
use Rattle.bz_judge.proofs.FoundSums.{value_found}
use Rattle.bz_history.specs.declared.state.FallingRay.{FallingRay}
use Rattle.bz_history.specs.declared.state.Node.{Node}
use Rattle.bz_history.specs.declared.state.Post.{Post}
use Rattle.bz_history.specs.declared.state.Region.{Region}
use Rattle.bz_history.specs.Certificates.{CertificatesHaveTheirShape, IsInfeasibleCertificate, IsOptimalCertificate, IsTreeAt, IsUnboundedCertificate}
use Rattle.bz_history.specs.Histories.{IsRootRegion}
use Rattle.bz_history.specs.Posts.{IsPostOf}
use Rattle.bz_history.specs.Sizes.{AreSizes, closed_in}
use Rattle.bz_history.specs.States.{above, below, mode_of}
use Rattle.bz_history.specs.Steps.{IsBest}
use Rattle.bz_history.specs.Trees.{HasRegion, IsInside, IsSplitAt, IsTree}
use Rattle.bz_history.proofs.CertificateTrees.{fork_split}
use Rattle.bz_history.proofs.Lists.{all_of_items}
use Rattle.bz_history.proofs.PostSteps.{posts_are_right}
use Rattle.bz_history.proofs.RaySteps.{IsRayOf, ray_is_right}
use Rattle.bz_history.proofs.SizeSteps.{sizes_are_right}
use Rattle.bz_history.proofs.TreeSizes.{tree_small}
use Rattle.bz_history.proofs.TreeSteps.{trees_are_whole}

-- ---- narrow numbers
value_narrow : (d : Decomposition) (point : Master) → IsNarrowSum (value_pairs (terms_in d.part 0 (inner_cost d.model)) point) → IsNarrow (value_of d.model d.part point)
value_narrow d point h =
    let pairs : List (ℤ × ℤ) = value_pairs (terms_in d.part 0 (inner_cost d.model)) point in
    let sum : fold_of pairs ≡ Ok (products pairs) = fold-from_narrow pairs h in
    subst IsNarrow (value_found (terms_in d.part 0 (inner_cost d.model)) point (fold_of pairs) (products pairs) refl sum) (result_narrow pairs (products pairs) sum)

narrow_list : (d : List ℤ) → AreNarrow d → AllByRecursion IsNarrow d
narrow_list [] h = tt
narrow_list (x ∷ d) h = (h 0 (omega arith), narrow_list d (λ j l. h (suc j) (omega arith)))

placed_narrow : (part : List ℕ) (b : ℕ) (d : List ℤ) → AreNarrow d → AllByRecursion IsNarrow (placed part b d)
placed_narrow part b d h = all_mapped IsNarrow (number_of part b d) (enumerate_from 0 part) (all_of_items (λ e. IsNarrow (number_of part b d e)) (enumerate_from 0 part) (λ k e at. one e (e.1 == b)))
  where
    one : (e : ℕ × ℕ) (own : Bool) → IsNarrow (if own then coordinate d (position_of part e.0) else pos 0)
    one e true = narrow_at d (position_of part e.0) (narrow_list d h)
    one e false = omega arith

-- ---- narrow splits
between : (l m v u w : ℤ) → IsNarrow l → IsNarrow w → l ≤ℤ m → m ≤ℤ v → v <ℤ u → u ≤ℤ w → IsNarrow v × IsNarrow (v +ℤ pos 1)
between l m v u w low high a b c e = (omega (arith, ints), omega (arith, ints))

-- the region of a node lies in the root's
inside_of : (d : Decomposition) (root : Region) (cuts : List Cut) (nodes : List Node) (n : ℕ) (region : Region) → IsTree d root cuts nodes → HasRegion nodes n region → IsInside root region
inside_of d root cuts nodes n region tree h = subst (IsInside root) h.region_is (tree.inside n h.node h.is_node)

narrow_nodes : (d : Decomposition) (root : Region) (cuts : List Cut) (nodes : List Node) → IsRootRegion d.model root → IsTree d root cuts nodes → (tree : Tree) (n : ℕ) (region : Region) → HasRegion nodes n region → IsTreeAt nodes n tree → AllByRecursion IsNarrowNode (preorder tree)
narrow_nodes d root cuts nodes is_root whole (Tree.tip leaf) n region here at = (tt, tt)
narrow_nodes d root cuts nodes is_root whole (Tree.fork position left right a b) n region here (kids, fork, at_a, at_b) =
    let s : IsSplitAt d nodes n region position left kids = fork_split d root cuts nodes n position left right kids region whole here fork in
    let k : ℕ = integer_at d.model d.part position in
    let inside : IsInside root region = inside_of d root cuts nodes n region whole here in
    let both : IsNarrow left × IsNarrow (left +ℤ pos 1) = between (coordinate root.lower k) (coordinate region.lower k) left (coordinate region.upper k) (coordinate root.upper k) (narrow_at root.lower k is_root.lower) (narrow_at root.upper k is_root.upper) (inside.lower k) s.at_least s.below_upper (inside.upper k) in (
      (both.0, subst IsNarrow (sym fork.next) both.1),
      all_append IsNarrowNode (preorder a) (preorder b) (narrow_nodes d root cuts nodes is_root whole a kids (below k left region) s.left at_a)
          (narrow_nodes d root cuts nodes is_root whole b (suc kids) (above k left region) s.right at_b),
    )

pub certificates_have_their_shape : CertificatesHaveTheirShape
certificates_have_their_shape d budget root es t dec limit r = record { optimal = optimal; infeasible = infeasible; unbounded = unbounded }
  where
    whole : IsTree d root t.cuts t.nodes
    whole = trees_are_whole d budget root es t r

    sizes : AreSizes d budget es t
    sizes = sizes_are_right d budget root es t r

    few_cuts : length t.cuts ≤ 65535
    few_cuts =
        let units : length t.floors + t.units ≡ length t.cuts + closed_in t.nodes = sizes.units in
        let spent : t.units ≤ budget = sizes.spent in
        let floors : length t.floors ≤ blocks_of d.part = sizes.floors in
        let blocks : blocks_of d.part ≤ 256 = dec.partition.few in
        omega arith

    few_nodes : length t.nodes ≤ 65535
    few_nodes =
        let units : length t.floors + t.units ≡ length t.cuts + closed_in t.nodes = sizes.units in
        let spent : t.units ≤ budget = sizes.spent in
        let floors : length t.floors ≤ blocks_of d.part = sizes.floors in
        let blocks : blocks_of d.part ≤ 256 = dec.partition.few in
        let nodes : length t.nodes ≤ 1 + 2 * closed_in t.nodes = sizes.nodes in
        omega arith

    nodes_are : (tree : Tree) → IsTreeAt t.nodes 0 tree → AreNodes (preorder tree)
    nodes_are tree at =
        let small : length (preorder tree) ≤ length t.nodes = tree_small d budget root es t r tree at in
        record {
          few = omega (arith, small, few_nodes);
          narrow = narrow_nodes d root t.cuts t.nodes r.root_is whole tree 0 root whole.first at;
          tree = tree;
          is_tree = refl;
        }

    optimal : mode_of t ≡ mode.Cost → (post : Post) → IsBest t post → (tree : Tree) → IsTreeAt t.nodes 0 tree → (c : Certificate) → IsOptimalCertificate d t.cuts post tree c → IsShaped c
    optimal cost post best tree at c is =
        let h : IsPostOf d mode.Cost t.nodes t.cuts post = subst (λ (w : Mode). IsPostOf d w t.nodes t.cuts post) cost (posts_are_right d budget root es t r best.0 post best.2) in
        record {
          parts = subst (λ (v : Verdict). HasPartsOf v c.parts) (sym is.verdict) (subst (HasPartsOf verdict.Optimal) (sym is.parts) tt);
          value = subst (λ (v : Verdict). HasValueOf v c.value) (sym is.verdict) (subst IsNarrow (sym is.value) (value_narrow d post.point h.posted.fits_value.0));
          ray = subst (λ (v : Verdict). HasRayOf v c.ray) (sym is.verdict) is.no_ray;
          cuts = subst (λ (v : Verdict). HasCutsOf v c.cuts) (sym is.verdict) (subst AreCuts (sym is.cuts_are) few_cuts);
          tree = subst (λ (v : Verdict). HasTreeOf v c.tree) (sym is.verdict) (subst AreNodes (sym is.tree_is) (nodes_are tree at));
        }

    infeasible : (tree : Tree) → IsTreeAt t.nodes 0 tree → (c : Certificate) → IsInfeasibleCertificate t.cuts tree c → IsShaped c
    infeasible tree at c is = record {
      parts = subst (λ (v : Verdict). HasPartsOf v c.parts) (sym is.verdict) (subst (HasPartsOf verdict.Infeasible) (sym is.no_parts) tt);
      value = subst (λ (v : Verdict). HasValueOf v c.value) (sym is.verdict) is.no_value;
      ray = subst (λ (v : Verdict). HasRayOf v c.ray) (sym is.verdict) is.no_ray;
      cuts = subst (λ (v : Verdict). HasCutsOf v c.cuts) (sym is.verdict) (subst AreCuts (sym is.cuts_are) few_cuts);
      tree = subst (λ (v : Verdict). HasTreeOf v c.tree) (sym is.verdict) (subst AreNodes (sym is.tree_is) (nodes_are tree at));
    }

    unbounded : (post : Post) → (ray : FallingRay) → t.ray ≡ Some ray → (c : Certificate) → IsUnboundedCertificate d post ray c → IsShaped c
    unbounded post ray ray_is c is =
        let own : IsRayOf d ray = ray_is_right d budget root es t r ray ray_is in
        record {
          parts = subst (λ (v : Verdict). HasPartsOf v c.parts) (sym is.verdict) (subst (HasPartsOf verdict.Unbounded) (sym is.parts) refl);
          value = subst (λ (v : Verdict). HasValueOf v c.value) (sym is.verdict) is.no_value;
          ray = subst (λ (v : Verdict). HasRayOf v c.ray) (sym is.verdict) (subst (AllByRecursion IsNarrow) (sym is.ray_is) (placed_narrow d.part ray.block ray.d own.is_ray.narrow));
          cuts = subst (λ (v : Verdict). HasCutsOf v c.cuts) (sym is.verdict) is.no_cuts;
          tree = subst (λ (v : Verdict). HasTreeOf v c.tree) (sym is.verdict) is.no_tree;
        }
