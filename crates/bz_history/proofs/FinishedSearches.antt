-- Searches that have come to their end without a stop.
use Rattle.std.proofs.Common.{◌≡◌, refl, sym, ◌∙◌, ap, subst, ℕ, zero, suc, ◌+◌, List, [], ◌∷◌, length, arith, ℤ, pos, ◌*ℤ◌, ◌≤ℤ◌, ◌<ℤ◌}
use Rattle.std.proofs.lemmas.Int.{by_lt_z, ints}
use Rattle.std.specs.Prelude.{◌||◌, Option, Some, None, Bool, true, false, is_some}
use Rattle.std.specs.List.{AllByRecursion, enumerate_from, list_any, slice_get}
use Rattle.bz_algebra.specs.Fractions.{IsSameNumber}
use Rattle.bz_algebra.specs.Sums.{dot}
use Rattle.bz_algebra.proofs.Ring.{le_trans, mul_le_right}
use Rattle.bz_model.specs.declared.BlockPart.{BlockPart}
use Rattle.bz_model.specs.declared.Column.{Column}
use Rattle.bz_model.specs.declared.Master.{Master}
use Rattle.bz_model.specs.Decomposed.{IsDecomposed}
use Rattle.bz_model.specs.Parting.{inequalities_of, inner_cost, integers_of, terms_in}
use Rattle.bz_model.specs.PartPoints.{HasBlockShape, HasPointShape, HoldsInBlock, IsPointOf, eta_of}
use Rattle.bz_model.specs.Points.{IsFeasible, IsInfeasible, IsOptimal, coordinate, objective}
use Rattle.bz_model.specs.Splits.{Decomposition}
use Rattle.bz_model.specs.Stated.{objective_of}
use Rattle.bz_model.proofs.MeetingParts.{all_then}
use Rattle.bz_cut.specs.declared.Mode.{Mode}
use Rattle.bz_cut.specs.declared.Mode.TheVariants as mode
use Rattle.bz_tree.specs.Integers.{IntegerHolds}
use Rattle.bz_pass.proofs.Optimality.{least_is_optimal}
use Rattle.bz_pass.proofs.PointsOfParts.{AreFeasible, AreWorth, parts_are_feasible, parts_cost_at_most}
use Rattle.bz_event.specs.declared.events.Entry.{Entry}
use Rattle.bz_event.specs.Nodes.{value_of}
use Rattle.bz_history.specs.declared.state.Filled.{Filled}
use Rattle.bz_history.specs.declared.state.Node.{Node}
use Rattle.bz_history.specs.declared.state.Post.{Post}
use Rattle.bz_history.specs.declared.state.Region.{Region}
use Rattle.bz_history.specs.Covers.{IsCovered, IsUnbeaten}
use Rattle.bz_history.specs.Finished.{FinishedSearchesAreTrue, completions, parts_of}
use Rattle.bz_history.specs.Histories.{IsReplay}
use Rattle.bz_history.specs.Posts.{IsPostOf}
use Rattle.bz_history.specs.States.{State, box_of, is_open, mode_of}
use Rattle.bz_history.specs.Steps.{IsAt, IsBest, IsFilled}
use Rattle.bz_history.specs.Trees.{IsInside, IsTree}
use Rattle.bz_history.proofs.BestSteps.{best_is_filled}
use Rattle.bz_history.proofs.CoverSteps.{nothing_better_is_lost}
use Rattle.bz_history.proofs.Lists.{at_one}
use Rattle.bz_history.proofs.PostSteps.{posts_are_right}
use Rattle.bz_history.proofs.TreeSteps.{trees_are_whole}

-- where no node is open none is at any place
first_false : (a b : Bool) → (a || b) ≡ false → a ≡ false
first_false true b h = absurd (cc)
first_false false b h = refl

rest_false : (a b : Bool) → (a || b) ≡ false → b ≡ false
rest_false true b h = absurd (cc)
rest_false false b h = h

pub none_open : (nodes : List Node) (n : ℕ) (x : Node) → list_any is_open nodes ≡ false → slice_get nodes n ≡ Some x → is_open x ≡ true → ⊥
none_open [] n x none is stands = absurd (cc)
none_open (y ∷ ys) zero x none is stands =
    let same : y ≡ x = cc in
    let both : false ≡ true = sym (first_false (is_open y) (list_any is_open ys) none) ∙ ap is_open same ∙ stands in
    absurd (cc)
none_open (y ∷ ys) (suc n) x none is stands = none_open ys n x (rest_false (is_open y) (list_any is_open ys) none) is stands

-- ---- the parts of a post
length-completions : (fills : List (Option Filled)) → AllByRecursion (λ f. is_some f ≡ true) fills → length (completions fills) ≡ length fills
length-completions [] h = refl
length-completions (None ∷ fills) h = absurd (cc)
length-completions (Some f ∷ fills) h = ap suc (length-completions fills h.1)

-- what each completion has, all have
pub completed : (P : ℕ × BlockPart → Type 0) (n : ℕ) (fills : List (Option Filled)) → AllByRecursion (λ f. is_some f ≡ true) fills
    → ((b : ℕ) (fill : Filled) → slice_get fills b ≡ Some (Some fill) → P (n + b, fill.y)) → AllByRecursion P (enumerate_from n (completions fills))
completed P n [] h each = tt
completed P n (None ∷ fills) h each = absurd (cc)
completed P n (Some f ∷ fills) h each =
    let first : n + 0 ≡ n = omega arith in (
      subst (λ (k : ℕ). P (k, f.y)) first (each 0 f refl),
      completed P (n + 1) fills h.1 (λ b fill is. subst (λ (k : ℕ). P (k, fill.y)) (next n b) (each (suc b) fill is)),
    )
  where
    next : (n b : ℕ) → n + suc b ≡ n + 1 + b
    next n b = omega arith

-- an integer column that lies in a box inside another lies in that
integer_wider : (part : List ℕ) (root region : Region) (point : Master) (e : ℕ × (ℕ × Column)) → (pos 0) <ℤ point.den → IsInside root region → IntegerHolds part (box_of region) point e → IntegerHolds part (box_of root) point e
integer_wider part root region point e den inside h = record {
  whole = h.whole;
  at_least = le_trans (coordinate root.lower e.0 *ℤ point.den) (coordinate region.lower e.0 *ℤ point.den) _ (mul_le_right (coordinate root.lower e.0) (coordinate region.lower e.0) point.den (omega (arith, ints)) (inside.lower e.0)) h.at_least;
  at_most = le_trans _ (coordinate region.upper e.0 *ℤ point.den) (coordinate root.upper e.0 *ℤ point.den) h.at_most (mul_le_right (coordinate region.upper e.0) (coordinate root.upper e.0) point.den (omega (arith, ints)) (inside.upper e.0));
}

pub post_shape : (d : Decomposition) (way : Mode) (nodes : List Node) (post : Post) (cuts : _) → IsPostOf d way nodes cuts post → IsFilled post → HasPointShape d.model d.part (parts_of post)
post_shape d way nodes post cuts h filled = record {
  master = record { den = h.posted.shape.den; x = h.posted.shape.x };
  blocks = length-completions post.fills filled ∙ h.places;
  each = completed (HasBlockShape d.part) 1 post.fills filled (λ b fill is. subst (λ (k : ℕ). HasBlockShape d.part (k, fill.y)) (one_more b) (h.fills b fill is).shape);
}
  where
    one_more : (b : ℕ) → suc b ≡ 1 + b
    one_more b = omega arith

-- the integer columns of a post's point lie in the root's box
pub post_integers : (d : Decomposition) (root : Region) (way : Mode) (t : State) (post : Post) → IsTree d root t.cuts t.nodes → IsPostOf d way t.nodes t.cuts post → AllByRecursion (IntegerHolds d.part (box_of root) post.point) (enumerate_from 0 (integers_of d.model))
post_integers d root way t post tree h = all_then (IntegerHolds d.part (box_of h.node.region) post.point) (IntegerHolds d.part (box_of root) post.point) (enumerate_from 0 (integers_of d.model)) h.posted.integers
    (λ e i. integer_wider d.part root h.node.region post.point e h.posted.shape.den (tree.inside post.node h.node h.is_node) i)

pub post_feasible : (d : Decomposition) (root : Region) (way : Mode) (t : State) (post : Post) → IsTree d root t.cuts t.nodes → Rattle.bz_tree.specs.Boxes.IsRootBox d.model (box_of root) → IsPostOf d way t.nodes t.cuts post → IsFilled post → AreFeasible d.model d.part (parts_of post)
post_feasible d root way t post tree is_root h filled = record {
  shape = record { point = post_shape d way t.nodes post t.cuts h filled; eta = h.posted.shape.eta };
  master = h.posted.rows;
  root = box_of root;
  is_root = is_root;
  integers = post_integers d root way t post tree h;
  rows = completed (λ e. AllByRecursion (HoldsInBlock post.point e.1) (inequalities_of d.model d.part e.0)) 1 post.fills filled
      (λ b fill is. subst (λ (k : ℕ). AllByRecursion (HoldsInBlock post.point fill.y) (inequalities_of d.model d.part k)) (one_more b) (h.fills b fill is).rows);
}
  where
    one_more : (b : ℕ) → suc b ≡ 1 + b
    one_more b = omega arith

pub post_worth : (d : Decomposition) (t : State) (post : Post) → IsPostOf d mode.Cost t.nodes t.cuts post → IsFilled post → AreWorth d.model d.part (parts_of post) (value_of d.model d.part post.point)
post_worth d t post h filled = record {
  shape = record { point = post_shape d mode.Cost t.nodes post t.cuts h filled; eta = h.posted.shape.eta };
  costs = completed (λ e. dot (terms_in d.part e.0 (inner_cost d.model)) (coordinate e.1.y) ≤ℤ (eta_of post.point e.0 *ℤ e.1.times)) 1 post.fills filled
      (λ b fill is. subst (λ (k : ℕ). dot (terms_in d.part k (inner_cost d.model)) (coordinate fill.y.y) ≤ℤ (eta_of post.point k *ℤ fill.y.times)) (one_more b) (h.fills b fill is).cost.0.cost);
  value = refl;
}
  where
    one_more : (b : ℕ) → suc b ≡ 1 + b
    one_more b = omega arith

-- ---- the end
-- no feasible point costs less than the best post's value
least_value : (d : Decomposition) (budget : ℕ) (root : Region) (es : List Entry) (t : State) → IsDecomposed d.model d.part → IsReplay d budget root es t → list_any is_open t.nodes ≡ false → (post : Post) → IsBest t post
    → (p : List ℤ) (q : ℤ) → IsFeasible d.model p q → (value_of d.model d.part post.point *ℤ q) ≤ℤ (dot (inner_cost d.model) (coordinate p) *ℤ post.point.den)
least_value d budget root es t dec r none post best p q feasible =
    by_lt_z (dot (inner_cost d.model) (coordinate p) *ℤ post.point.den) (value_of d.model d.part post.point *ℤ q) less (λ h. h)
  where
    less : (dot (inner_cost d.model) (coordinate p) *ℤ post.point.den) <ℤ (value_of d.model d.part post.point *ℤ q) → (value_of d.model d.part post.point *ℤ q) ≤ℤ (dot (inner_cost d.model) (coordinate p) *ℤ post.point.den)
    less h =
        let unbeaten : IsUnbeaten d t p q = λ cost b is. subst (λ (x : Post). (dot (inner_cost d.model) (coordinate p) *ℤ x.point.den) <ℤ (value_of d.model d.part x.point *ℤ q)) (one_best t post b best is) h in
        let c : IsCovered d t.nodes p q = nothing_better_is_lost d budget root es t dec r p q feasible unbeaten in
        absurd (none_open t.nodes c.number c.node none c.is_node c.stands_open)
      where
        one_best : (t : State) (a b : Post) → IsBest t a → IsBest t b → a ≡ b
        one_best t a b x y =
            let same : x.0 ≡ y.0 = some_same x.0 y.0 (sym x.1 ∙ y.1) in
            at_one t.posts y.0 a b (subst (λ (k : ℕ). IsAt t.posts k a) same x.2) y.2
          where
            some_same : (i j : ℕ) → Some i ≡ Some j → i ≡ j
            some_same i j e = cc

pub finished_searches_are_true : FinishedSearchesAreTrue
finished_searches_are_true d budget root es t dec r none = record { infeasible = infeasible; shape = shape; optimal = optimal }
  where
    infeasible : t.best ≡ None → IsInfeasible d.model
    infeasible no_best p q feasible =
        let c : IsCovered d t.nodes p q = nothing_better_is_lost d budget root es t dec r p q feasible (λ cost b is. absurd (differ is.0 (sym no_best ∙ is.1))) in
        none_open t.nodes c.number c.node none c.is_node c.stands_open
      where
        differ : (i : ℕ) → None ≡ Some i → ⊥
        differ i e = absurd (cc)

    right : (post : Post) → IsBest t post → IsPostOf d (mode_of t) t.nodes t.cuts post
    right post best = posts_are_right d budget root es t r best.0 post best.2

    filled : (post : Post) → IsBest t post → IsFilled post
    filled post best =
        let b : (x : Post) × IsAt t.posts best.0 x × IsFilled x = best_is_filled d budget root es t r best.0 best.1 in
        subst IsFilled (at_one t.posts best.0 b.0 post b.1 best.2) b.2

    shape : (post : Post) → IsBest t post → HasPointShape d.model d.part (parts_of post)
    shape post best = post_shape d (mode_of t) t.nodes post t.cuts (right post best) (filled post best)

    optimal : mode_of t ≡ mode.Cost → (post : Post) → IsBest t post → (p : List ℤ) (q : ℤ) → IsPointOf d.model d.part (parts_of post) p q
        → IsOptimal d.model p q × IsSameNumber (objective d.model p q) (objective_of d.model (value_of d.model d.part post.point) post.point.den)
    optimal cost post best p q is =
        let h : IsPostOf d (mode_of t) t.nodes t.cuts post = right post best in
        least_is_optimal d.model post.point.den (value_of d.model d.part post.point) p q h.posted.shape.den
        (parts_are_feasible d.model d.part (parts_of post) p q dec (post_feasible d root (mode_of t) t post (trees_are_whole d budget root es t r) r.root_is.is_root h (filled post best)) is)
        (parts_cost_at_most d.model d.part (parts_of post) (value_of d.model d.part post.point) p q dec (post_worth d t post (subst (λ (w : Mode). IsPostOf d w t.nodes t.cuts post) cost h) (filled post best)) is)
        (least_value d budget root es t dec r none post best)
