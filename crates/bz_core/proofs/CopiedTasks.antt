-- Copied tasks can be solved.
use Rattle.std.proofs.Common.{◌≡◌, refl, ◌∙◌, subst, ℕ, zero, suc, ◌+◌, ◌-◌, ◌<◌, ◌≤◌, List, [], ◌∷◌, length, take, arith, inl, inr}
use Rattle.std.specs.Prelude.{Option, Some, None, IsSome}
use Rattle.std.specs.List.{slice_get}
use Rattle.std.proofs.lemmas.List.{length-take-le}
use Rattle.std.proofs.lemmas.Option.{get_or_from_slice_get, slice_get_within}
use Rattle.bz_model.specs.Decomposed.{IsDecomposed}
use Rattle.bz_model.specs.Limits.{list_limit}
use Rattle.bz_model.specs.Parting.{blocks_of}
use Rattle.bz_model.specs.Splits.{Decomposition}
use Rattle.bz_cut.specs.declared.Cut.{Cut}
use Rattle.bz_cut.specs.declared.Mode.TheVariants as mode
use Rattle.bz_event.specs.declared.events.Entry.{Entry}
use Rattle.bz_event.specs.Nodes.{IsReady}
use Rattle.bz_std.specs.Floored.{AreFloored, HasFloor}
use Rattle.bz_history.specs.declared.state.FallingRay.{FallingRay}
use Rattle.bz_history.specs.declared.state.Region.{Region}
use Rattle.bz_history.specs.Floors.{AreFloorsFirst, IsFloorAt}
use Rattle.bz_history.specs.Histories.{IsReplay}
use Rattle.bz_history.specs.Sizes.{AreSizes, closed_in}
use Rattle.bz_history.specs.States.{State, mode_for, mode_of}
use Rattle.bz_history.specs.Steps.{AreFloorsReady}
use Rattle.bz_history.proofs.FloorSteps.{floors_come_first}
use Rattle.bz_history.proofs.SizeSteps.{sizes_are_right}
use Rattle.bz_rules.proofs.Tasks.{block_in_point}

-- what stands at a place stands there in a longer front
at_front : {X : Type 0} (xs : List X) (n k : ℕ) (x : X) → k < n → slice_get xs k ≡ Some x → slice_get (take n xs) k ≡ Some x
at_front [] n k x less h = absurd (cc)
at_front (y ∷ ys) zero k x less h = absurd (omega arith)
at_front (y ∷ ys) (suc n) zero x less h = h
at_front (y ∷ ys) (suc n) (suc k) x less h = at_front ys n k x (omega arith) h

floor_in_front : (cuts : List Cut) (front b : ℕ) → b - 1 < front → 0 < b → IsFloorAt cuts (b - 1) → HasFloor (take front cuts) b
floor_in_front cuts front b less first h =
    let at : slice_get (take front cuts) (b - 1) ≡ Some h.cut = at_front cuts front (b - 1) h.cut less h.is_cut in
    let back : suc (b - 1) ≡ b = omega arith in
    record {
      cut = h.cut;
      among = (b - 1, slice_get_within (take front cuts) (b - 1) h.cut at, get_or_from_slice_get (take front cuts) (b - 1) h.cut h.cut at);
      block = h.block ∙ back;
      eta = h.eta;
    }

floored : (d : Decomposition) (t : State) (front : ℕ) → AreFloorsFirst d t → length t.floors ≡ blocks_of d.part → blocks_of d.part ≤ front → AreFloored (blocks_of d.part) (take front t.cuts)
floored d t front floors all over b first last =
    let within : b - 1 < length t.floors = omega arith in
    let less : b - 1 < front = omega arith in
    floor_in_front t.cuts front b less first (floors.floors (b - 1) within)

ready_by : (d : Decomposition) (t : State) (front : ℕ) (ray : Option FallingRay) → t.ray ≡ ray → (mode_for ray ≡ mode.Point → 0 < blocks_of d.part) → AreFloorsFirst d t
    → AreFloorsReady d t → (mode_for ray ≡ mode.Cost → blocks_of d.part ≤ front) → IsReady d.part (take front t.cuts) (mode_for ray)
ready_by d t front None is block floors (inl all) over = floored d t front floors all (over refl)
ready_by d t front None is block floors (inr some) over =
    let none : IsSome {T = FallingRay} None = subst (λ (r : Option FallingRay). IsSome r) is some in
    absurd (cc)
ready_by d t front (Some r) is block floors ready over = block refl

pub node_is_ready : (d : Decomposition) (budget : ℕ) (root : Region) (es : List Entry) (t : State) (front : ℕ) → IsReplay d budget root es t
    → AreFloorsReady d t → (mode_of t ≡ mode.Cost → blocks_of d.part ≤ front) → IsReady d.part (take front t.cuts) (mode_of t)
node_is_ready d budget root es t front r ready over =
    ready_by d t front t.ray refl (block_in_point d budget root es t r) (floors_come_first d budget root es t r) ready over

pub cuts_are_few : (d : Decomposition) (budget : ℕ) (root : Region) (es : List Entry) (t : State) (front : ℕ) → IsReplay d budget root es t
    → IsDecomposed d.model d.part → budget ≤ 4000 → front ≤ length t.cuts → length (take front t.cuts) + 1024 < list_limit
cuts_are_few d budget root es t front r decomposed most within =
    let s : AreSizes d budget es t = sizes_are_right d budget root es t r in
    let count : length (take front t.cuts) ≡ front = length-take-le front t.cuts within in
    let units : length t.floors + t.units ≡ length t.cuts + closed_in t.nodes = s.units in
    let spent : t.units ≤ budget = s.spent in
    let floors : length t.floors ≤ blocks_of d.part = s.floors in
    let few : blocks_of d.part ≤ 256 = decomposed.partition.few in
    omega arith
