-- What a legal history says of its tasks: the nodes' boxes and cuts, and the mode.
use Rattle.std.proofs.Common.{◌≡◌, refl, sym, ◌∙◌, ap, subst, ℕ, zero, suc, ◌<◌, List, [], ◌∷◌, length, arith, inl, inr}
use Rattle.std.specs.Prelude.{◌⊎◌, Option, Some, None, take, ℤ, Bool, true, false}
use Rattle.std.specs.List.{AllByRecursion, slice_get}
use Rattle.std.proofs.lemmas.List.{length-map}
use Rattle.std.proofs.lemmas.Bool.{cases_lt}
use Rattle.bz_first.specs.Tests.{AllHold}
use Rattle.bz_model.specs.declared.Model.{Model}
use Rattle.bz_model.specs.Parting.{blocks_of, width_of}
use Rattle.bz_model.specs.Splits.{Decomposition}
use Rattle.bz_cut.specs.declared.Cut.{Cut}
use Rattle.bz_cut.specs.declared.Mode.{Mode}
use Rattle.bz_cut.specs.declared.Mode.TheVariants as mode
use Rattle.bz_cut.specs.Cuts.{IsValid}
use Rattle.bz_tree.specs.Boxes.{Box}
use Rattle.bz_tree.specs.Leaves.{sides_of}
use Rattle.bz_tableau.specs.declared.answers.WideAt.{WideAt}
use Rattle.bz_tableau.specs.declared.answers.WideAt.TheVariants.{Build, Pivot, Den, Fold}
use Rattle.bz_tableau.specs.declared.programs.Lp.{Lp}
use Rattle.bz_std.specs.CutsFrom.{AreEntries}
use Rattle.bz_std.specs.Fitting.{IsWideLeaf}
use Rattle.bz_std.specs.Posed.{Posed}
use Rattle.bz_std.specs.Tasks.{IsBoxOf, IsCutOfSplit, IsNodeLp, side_line}
use Rattle.bz_std.specs.Told.{IsOfBoth}
use Rattle.bz_std.proofs.NodesTold.{leaf_fits_told, mode_told, posed_told}
use Rattle.bz_event.specs.declared.events.Entry.{Entry}
use Rattle.bz_event.specs.Nodes.{HasBlockInPoint}
use Rattle.bz_event.specs.Stops.{IsWideInNode, IsWideLeafSum, IsWideNode, IsWidePointSum}
use Rattle.bz_history.specs.declared.state.FallingRay.{FallingRay}
use Rattle.bz_history.specs.declared.state.Node.{Node}
use Rattle.bz_history.specs.declared.state.Region.{Region}
use Rattle.bz_history.specs.Histories.{IsReplay}
use Rattle.bz_history.specs.States.{State, box_of, mode_for, mode_of}
use Rattle.bz_history.specs.Steps.{IsAt, IsFrontOf, IsWaiting, AreFloorsReady}
use Rattle.bz_history.specs.Trees.{IsInside}
use Rattle.bz_history.proofs.PoolSteps.{pools_are_right}
use Rattle.bz_history.proofs.RaySteps.{IsRayOf, ray_is_right}
use Rattle.bz_history.proofs.TreeSteps.{trees_are_whole}
use Rattle.bz_rules.specs.Following.{IsUnderWay}
use Rattle.bz_rules.specs.Rules.{Rules, node_rules, waiting_rules, where_there}

-- ---- rules
-- what is there, with its rules
pub there : {X : Type 0} (o : Option X) (rules : X → Rules) → AllHold (where_there o rules) → (x : X) × (o ≡ Some x) × AllHold (rules x)
there None rules h = absurd h.0
there (Some x) rules h = (x, refl, h)

-- ---- the mode
point_ray : (ray : Option FallingRay) → mode_for ray ≡ mode.Point → (r : FallingRay) × (ray ≡ Some r)
point_ray None h = absurd (cc)
point_ray (Some r) h = (r, refl)

pub block_in_point : (d : Decomposition) (budget : ℕ) (root : Region) (es : List Entry) (t : State) → IsReplay d budget root es t → HasBlockInPoint d.part (mode_of t)
block_in_point d budget root es t r way =
    let ray : (x : FallingRay) × (t.ray ≡ Some x) = point_ray t.ray way in
    let own : IsRayOf d ray.0 = ray_is_right d budget root es t r ray.0 ray.1 in
    omega (arith, own.first, own.last)

-- ---- nodes
all_front : {X : Type 0} (P : X → Type 0) (n : ℕ) (xs : List X) → AllByRecursion P xs → AllByRecursion P (take n xs)
all_front P zero xs h = tt
all_front P (suc n) [] h = tt
all_front P (suc n) (x ∷ xs) h = (h.0, all_front P n xs h.1)

pub cuts_valid : (d : Decomposition) (cuts : List Cut) → AllByRecursion (IsValid d.model d.part) cuts → AllByRecursion (IsCutOfSplit d.part) cuts
cuts_valid d [] h = tt
cuts_valid d (cut ∷ cuts) h = (record { first = h.0.block.0; last = h.0.block.1; alpha = h.0.alpha }, cuts_valid d cuts h.1)

pub cuts_of_split : (d : Decomposition) (budget : ℕ) (root : Region) (es : List Entry) (t : State) (front : ℕ) → IsReplay d budget root es t → AllByRecursion (IsCutOfSplit d.part) (take front t.cuts)
cuts_of_split d budget root es t front r = all_front (IsCutOfSplit d.part) front t.cuts (cuts_valid d t.cuts ((pools_are_right d budget root es t r).valid))

pub box_of_node : (d : Decomposition) (budget : ℕ) (root : Region) (es : List Entry) (t : State) (n : ℕ) (x : Node) → IsReplay d budget root es t → IsAt t.nodes n x → IsBoxOf d.model (box_of x.region)
box_of_node d budget root es t n x r at =
    let inside : IsInside root x.region = (trees_are_whole d budget root es t r).inside n x at in
    record { lowers = inside.lowers ∙ r.root_is.is_root.lowers; uppers = inside.uppers ∙ r.root_is.is_root.uppers }

-- a node that waits, with the front that it is solved over
pub record IsTask (d : Decomposition) (t : State) (number front : ℕ) (lp : Lp) : Type 0 where
  pub x : Node
  pub ready : AreFloorsReady d t
  pub waits : IsWaiting t number x
  pub front_is : IsFrontOf d t x front
  pub program : IsNodeLp d.model d.part (box_of x.region) (take front t.cuts) (mode_of t) lp

pub task_of : (d : Decomposition) (t : State) (number front : ℕ) (lp : Lp) → AllHold (node_rules d t number front lp) → IsTask d t number front lp
task_of d t number front lp h =
    let own : (x : Node) × (slice_get t.nodes number ≡ Some x) × AllHold (waiting_rules d t front lp x) = there (slice_get t.nodes number) (waiting_rules d t front lp) h.1 in
    record {
      x = own.0;
      ready = own.2.1.1.1.0;
      waits = record { is_node = own.1; stands_open = own.2.1.0; unposted = own.2.1.1.0 };
      front_is = record { at_least = own.2.1.1.1.1.0; at_most = own.2.0 };
      program = own.2.1.1.1.1.1.0;
    }

-- ---- the answered node and the node here
-- what is promised of another node with the same program
pub record IsAnswered (m : Model) (part : List ℕ) (box : Box) (cuts : List Cut) (way : Mode) (lp : Lp) : Type 0 where
  pub of_split : AllByRecursion (IsCutOfSplit part) cuts
  pub block : HasBlockInPoint part way
  pub program : IsNodeLp m part box cuts way lp

pub both : (d : Decomposition) (budget : ℕ) (root : Region) (es : List Entry) (t : State) (number front : ℕ) (box : Box) (cuts : List Cut) (way : Mode) (lp : Lp)
    → IsUnderWay d budget root es t → (k : IsTask d t number front lp) → IsAnswered d.model d.part box cuts way lp
    → IsOfBoth d.model d.part box (box_of k.x.region) cuts (take front t.cuts) way (mode_of t) lp
both d budget root es t number front box cuts way lp search k a = record {
  decomposed = search.decomposed;
  cuts_of_split = a.of_split;
  others_of_split = cuts_of_split d budget root es t front search.replayed;
  program = a.program;
  program_of_other = k.program;
}

no_point : (part : List ℕ) (way : Mode) → HasBlockInPoint part way → blocks_of part ≡ 0 → way ≡ mode.Cost
no_point part mode.Cost h none = refl
no_point part mode.Point h none =
    let some : 0 < blocks_of part = h refl in
    absurd (omega (arith, some, none))

pub one_mode : (d : Decomposition) (budget : ℕ) (root : Region) (es : List Entry) (t : State) (number front : ℕ) (box : Box) (cuts : List Cut) (way : Mode) (lp : Lp)
    → IsUnderWay d budget root es t → (k : IsTask d t number front lp) → IsAnswered d.model d.part box cuts way lp → way ≡ mode_of t
one_mode d budget root es t number front box cuts way lp search k a = elim (cases_lt 0 (blocks_of d.part)) [
  | inl some ↦ mode_told d.model d.part box (box_of k.x.region) cuts (take front t.cuts) way (mode_of t) lp (both d budget root es t number front box cuts way lp search k a) some
  | inr few ↦
      let none : blocks_of d.part ≡ 0 = omega (arith, few) in
      no_point d.part way a.block none ∙ sym (no_point d.part (mode_of t) (block_in_point d budget root es t search.replayed) none)
]

-- ---- wide places of nodes with the same program
pub turned : (m : Model) (part : List ℕ) (box other : Box) (cuts others : List Cut) (way kind : Mode) (lp : Lp) → IsOfBoth m part box other cuts others way kind lp → IsOfBoth m part other box others cuts kind way lp
turned m part box other cuts others way kind lp h = record {
  decomposed = h.decomposed;
  cuts_of_split = h.others_of_split;
  others_of_split = h.cuts_of_split;
  program = h.program_of_other;
  program_of_other = h.program;
}

module _ (m : Model) (part : List ℕ) (box other : Box) (cuts others : List Cut) (way kind : Mode) (lp : Lp)
    (h : IsOfBoth m part box other cuts others way kind lp) where
  same_count : length (sides_of m part box cuts) ≡ length (sides_of m part other others)
  same_count =
      sym (length-map (sides_of m part box cuts) (side_line (width_of part 0)))
      ∙ ap (λ (q : Posed). length q.rows) (posed_told m part box other cuts others way kind lp h)
      ∙ length-map (sides_of m part other others) (side_line (width_of part 0))

  wide_leaf_told : (y : ℕ → ℤ) (delta : ℤ) → IsWideLeaf m part box cuts y delta → IsWideLeaf m part other others y delta
  wide_leaf_told y delta w = record {
    lambda = w.lambda;
    entries = subst (λ (n : ℕ). AreEntries n y w.lambda) same_count w.entries;
    narrow = w.narrow;
    wide = λ fits. w.wide (leaf_fits_told m part other box others cuts kind way lp (turned m part box other cuts others way kind lp h) _ fits);
  }

pub wide_node_told : (m : Model) (part : List ℕ) (box other : Box) (cuts others : List Cut) (way : Mode) (lp : Lp) → IsOfBoth m part box other cuts others way way lp
    → (relaxed : Bool) (basis : List ℕ) (list at : ℕ) → IsWideNode m part box cuts way lp relaxed basis list at → IsWideNode m part other others way lp relaxed basis list at
wide_node_told m part box other cuts others way lp h true basis list at w = record {
  y = w.y;
  empty = w.empty;
  list_is = w.list_is;
  at_is = w.at_is;
  wide = wide_leaf_told m part box other cuts others way way lp h _ _ w.wide;
}
wide_node_told m part box other cuts others way lp h false basis list at w = record { z = w.z; y = w.y; least = w.least; sum = by w.sum }
  where
    by : IsWideLeafSum m part box cuts way w.y list at ⊎ IsWidePointSum m part way w.z list at → IsWideLeafSum m part other others way w.y list at ⊎ IsWidePointSum m part way w.z list at
    by (inl l) = inl (record { mode_is = l.mode_is; list_is = l.list_is; at_is = l.at_is; wide = wide_leaf_told m part box other cuts others way way lp h _ _ l.wide })
    by (inr p) = inr p

pub wide_in_node_told : (m : Model) (part : List ℕ) (box other : Box) (cuts others : List Cut) (way : Mode) (lp : Lp) → IsOfBoth m part box other cuts others way way lp
    → (wide : WideAt) → IsWideInNode m part box cuts way lp wide → IsWideInNode m part other others way lp wide
wide_in_node_told m part box other cuts others way lp h (Build row) w = w
wide_in_node_told m part box other cuts others way lp h (Pivot relaxed basis goal row pivot_row column) w = w
wide_in_node_told m part box other cuts others way lp h (Den relaxed basis at) w = w
wide_in_node_told m part box other cuts others way lp h (Fold relaxed basis column list at) w = (w.0, wide_node_told m part box other cuts others way lp h relaxed basis list at w.1)
