-- What each event leaves of the work.
use Rattle.std.proofs.Common.{◌≡◌, refl, sym, ◌∙◌, ap, ℕ, suc, ◌+◌, ◌-◌, ◌*◌, ◌<◌, ◌≤◌, [], ◌∷◌, ◌++◌, length, arith}
use Rattle.std.proofs.Math.Nat.{suc-mul}
use Rattle.std.proofs.lemmas.List.{length-append}
use Rattle.std.proofs.lemmas.Option.{slice_get_within}
use Rattle.std.specs.Prelude.{Bool, true, false, Option, cond}
use Rattle.bz_model.specs.Parting.{blocks_of}
use Rattle.bz_model.specs.Splits.{Decomposition}
use Rattle.bz_cut.specs.declared.Mode.{Mode}
use Rattle.bz_cut.specs.declared.Mode.TheVariants as mode
use Rattle.bz_event.specs.declared.events.Event.{Event}
use Rattle.bz_event.specs.declared.events.Event.TheVariants as event
use Rattle.bz_history.specs.declared.state.FallingRay.{FallingRay}
use Rattle.bz_history.specs.declared.state.Node.{Node}
use Rattle.bz_history.specs.declared.state.Post.{Post}
use Rattle.bz_history.specs.Lives.{AreLives}
use Rattle.bz_history.specs.States.{State, effect, is_done, is_live, least_front, mode_of, posted_point}
use Rattle.bz_history.specs.Steps.{IsAt, MayFollow}
use Rattle.bz_history.proofs.Lists.{at_one}
use Rattle.bz_ending.specs.Work.{floors_left, left_unposted, most_cuts, nodes_left, stop_left, unit_of, work_left}
use Rattle.bz_ending.proofs.NodesLeft.{close_rises, cut_rises, fill_lowers, known_keeps, known_lowers, post_lowers, unfilled_new}

-- ---- units
-- a unit that is spent
unit_spent : (budget units worth : ℕ) → units < budget → (budget - suc units) * worth + worth ≡ (budget - units) * worth
unit_spent budget units worth h =
    let more : budget - units ≡ suc (budget - suc units) = omega arith in
    sym (ap (λ (n : ℕ). n * worth) more ∙ suc-mul (budget - suc units) worth)

-- ---- the stop
stop_most : (t : State) → stop_left t ≤ 1
stop_most t = by (is_done t)
  where
    by : (b : Bool) → cond b 0 1 ≤ 1
    by true = omega arith
    by false = omega arith

stop_running : (t : State) → is_done t ≡ false → stop_left t ≡ 1
stop_running t running = ap (λ (b : Bool). cond {A = ℕ} b 0 1) running

-- ---- an event that spends no unit, and one that does
unpaid : (d : Decomposition) (budget : ℕ) (t u : State) → u.units ≡ t.units
    → floors_left d (length u.floors) u.ray + nodes_left d budget u + stop_left u < floors_left d (length t.floors) t.ray + nodes_left d budget t + stop_left t
    → work_left d budget u < work_left d budget t
unpaid d budget t u units less =
    let same : (budget - u.units) * unit_of d budget ≡ (budget - t.units) * unit_of d budget = ap (λ (n : ℕ). (budget - n) * unit_of d budget) units in
    omega arith

unpaid_kept : (d : Decomposition) (budget : ℕ) (t u : State) → u.units ≡ t.units
    → floors_left d (length u.floors) u.ray + nodes_left d budget u + stop_left u ≤ floors_left d (length t.floors) t.ray + nodes_left d budget t + stop_left t
    → work_left d budget u ≤ work_left d budget t
unpaid_kept d budget t u units less =
    let same : (budget - u.units) * unit_of d budget ≡ (budget - t.units) * unit_of d budget = ap (λ (n : ℕ). (budget - n) * unit_of d budget) units in
    omega arith

paid : (d : Decomposition) (budget : ℕ) (t u : State) → is_done t ≡ false → u.units ≡ suc t.units → t.units < budget
    → floors_left d (length u.floors) u.ray ≡ floors_left d (length t.floors) t.ray
    → nodes_left d budget u ≤ nodes_left d budget t + 2 * left_unposted (blocks_of d.part) (most_cuts d budget) 0
    → work_left d budget u < work_left d budget t
paid d budget t u running units within floors nodes =
    let same : (budget - u.units) * unit_of d budget ≡ (budget - suc t.units) * unit_of d budget = ap (λ (n : ℕ). (budget - n) * unit_of d budget) units in
    let one : (budget - suc t.units) * unit_of d budget + unit_of d budget ≡ (budget - t.units) * unit_of d budget = unit_spent budget t.units (unit_of d budget) within in
    let old : stop_left t ≡ 1 = stop_running t running in
    let new : stop_left u ≤ 1 = stop_most u in
    omega arith

-- ---- fronts
-- what ended the last post of a node came before its least front
after_front : (d : Decomposition) (way : Mode) (node : Node) → node.after ≤ least_front d way node
after_front d mode.Cost node = omega arith
after_front d mode.Point node = omega arith

-- ---- each event
-- the event lowers the work: each does but a new best post, and a known cut of a post that has ended
abbrev pub IsFalling : State → Event → Type 0
IsFalling t (event.Floor block basis cut) = Unit {0}
IsFalling t (event.Ray block direction) = Unit {0}
IsFalling t (event.Post node front point leaf) = Unit {0}
IsFalling t (event.Append post basis cut) = Unit {0}
IsFalling t (event.Again number basis place) = (post : Post) → IsAt t.posts number post → is_live post ≡ true
IsFalling t (event.Fill post block y) = Unit {0}
IsFalling t (event.Incumbent post) = ⊥
IsFalling t (event.Close number h) = Unit {0}
IsFalling t (event.Stop reason) = Unit {0}

module _ (d : Decomposition) (budget : ℕ) (t : State) (running : is_done t ≡ false) (lives : AreLives t.nodes t.posts) (few : length t.cuts ≤ most_cuts d budget) where
  pub falls_after : (e : Event) → MayFollow d budget t e → IsFalling t e → work_left d budget (effect d t e) < work_left d budget t
  falls_after (event.Floor block basis cut) may falls =
      let next : block ≡ suc (length t.floors) = may.next.next in
      let last : block ≤ blocks_of d.part = may.next.last in
      let more : length (t.floors ++ t.entries ∷ []) ≡ length t.floors + 1 = length-append t.floors (t.entries ∷ []) in
      let old : floors_left d (length t.floors) t.ray ≡ blocks_of d.part - length t.floors = ap (λ (o : Option FallingRay). floors_left d (length t.floors) o) may.next.no_ray in
      let new : floors_left d (length (t.floors ++ t.entries ∷ [])) t.ray ≡ blocks_of d.part - length (t.floors ++ t.entries ∷ []) = ap (λ (o : Option FallingRay). floors_left d (length (t.floors ++ t.entries ∷ [])) o) may.next.no_ray in
      let stop : stop_left t ≡ 1 = stop_running t running in
      let stop_then : stop_left (effect d t (event.Floor block basis cut)) ≤ 1 = stop_most (effect d t (event.Floor block basis cut)) in
      unpaid d budget t (effect d t (event.Floor block basis cut)) refl (omega arith)
  falls_after (event.Ray block direction) may falls =
      let next : block ≡ suc (length t.floors) = may.next.next in
      let last : block ≤ blocks_of d.part = may.next.last in
      let old : floors_left d (length t.floors) t.ray ≡ blocks_of d.part - length t.floors = ap (λ (o : Option FallingRay). floors_left d (length t.floors) o) may.next.no_ray in
      let stop : stop_left t ≡ 1 = stop_running t running in
      let stop_then : stop_left (effect d t (event.Ray block direction)) ≤ 1 = stop_most (effect d t (event.Ray block direction)) in
      unpaid d budget t (effect d t (event.Ray block direction)) refl (omega arith)
  falls_after (event.Post node front point leaf) may falls =
      let least : may.node.after ≤ least_front d (mode_of t) may.node = after_front d (mode_of t) may.node in
      let at_least : least_front d (mode_of t) may.node ≤ front = may.front_is.at_least in
      let later : may.node.after ≤ front = omega (arith, least, at_least) in
      let nodes : nodes_left d budget (effect d t (event.Post node front point leaf)) + 1 ≤ nodes_left d budget t =
      post_lowers (blocks_of d.part) (most_cuts d budget) t.nodes t.posts node may.node (posted_point d t.entries node front point leaf) may.waits.is_node may.waits.stands_open may.waits.unposted later (unfilled_new (blocks_of d.part)) lives in
      let stop : stop_left t ≡ 1 = stop_running t running in
      let stop_then : stop_left (effect d t (event.Post node front point leaf)) ≤ 1 = stop_most (effect d t (event.Post node front point leaf)) in
      unpaid d budget t (effect d t (event.Post node front point leaf)) refl (omega (arith, nodes, stop, stop_then))
  falls_after (event.Append post basis cut) may falls =
      let nodes : nodes_left d budget (effect d t (event.Append post basis cut)) ≤ nodes_left d budget t + left_unposted (blocks_of d.part) (most_cuts d budget) 0 =
      cut_rises (blocks_of d.part) (most_cuts d budget) t.entries (length t.cuts) t.nodes t.posts post lives in
      paid d budget t (effect d t (event.Append post basis cut)) running refl may.units refl (omega (arith, nodes))
  falls_after (event.Again post basis place) may falls =
      let within : place < length t.cuts = slice_get_within t.cuts place may.known.known may.known.is_known in
      let nodes : nodes_left d budget (effect d t (event.Again post basis place)) + 1 ≤ nodes_left d budget t =
      known_lowers (blocks_of d.part) (most_cuts d budget) t.entries place t.nodes t.posts post may.post may.is_post (falls may.post may.is_post) may.after (omega (arith, within, few)) lives in
      let stop : stop_left t ≡ 1 = stop_running t running in
      let stop_then : stop_left (effect d t (event.Again post basis place)) ≤ 1 = stop_most (effect d t (event.Again post basis place)) in
      unpaid d budget t (effect d t (event.Again post basis place)) refl (omega (arith, nodes, stop, stop_then))
  falls_after (event.Fill post block y) may falls =
      let nodes : nodes_left d budget (effect d t (event.Fill post block y)) + 1 ≤ nodes_left d budget t =
      fill_lowers (blocks_of d.part) (most_cuts d budget) t.entries block y t.nodes t.posts post may.post may.is_post may.live may.empty lives in
      let stop : stop_left t ≡ 1 = stop_running t running in
      let stop_then : stop_left (effect d t (event.Fill post block y)) ≤ 1 = stop_most (effect d t (event.Fill post block y)) in
      unpaid d budget t (effect d t (event.Fill post block y)) refl (omega (arith, nodes, stop, stop_then))
  falls_after (event.Incumbent post) may falls = absurd falls
  falls_after (event.Close number h) may falls =
      paid d budget t (effect d t (event.Close number h)) running refl may.units refl
      (close_rises (blocks_of d.part) (most_cuts d budget) t.entries (length t.cuts) number d h t.nodes t.posts lives)
  falls_after (event.Stop reason) may falls =
      let stop : stop_left t ≡ 1 = stop_running t running in
      let stop_then : stop_left (effect d t (event.Stop reason)) ≡ 0 = refl in
      unpaid d budget t (effect d t (event.Stop reason)) refl (omega (arith, stop, stop_then))

  pub kept_after : (e : Event) → MayFollow d budget t e → work_left d budget (effect d t e) ≤ work_left d budget t
  kept_after (event.Floor block basis cut) may = omega (arith, falls_after (event.Floor block basis cut) may tt)
  kept_after (event.Ray block direction) may = omega (arith, falls_after (event.Ray block direction) may tt)
  kept_after (event.Post node front point leaf) may = omega (arith, falls_after (event.Post node front point leaf) may tt)
  kept_after (event.Append post basis cut) may = omega (arith, falls_after (event.Append post basis cut) may tt)
  kept_after (event.Again post basis place) may = by (is_live may.post) refl
    where
      by : (b : Bool) → is_live may.post ≡ b → work_left d budget (effect d t (event.Again post basis place)) ≤ work_left d budget t
      by true live = omega (arith, falls_after (event.Again post basis place) may (λ x is. ap is_live (at_one t.posts post x may.post is may.is_post) ∙ live))
      by false dead =
          let nodes : nodes_left d budget (effect d t (event.Again post basis place)) ≤ nodes_left d budget t =
          known_keeps (blocks_of d.part) (most_cuts d budget) t.entries place t.nodes t.posts post may.post may.is_post dead lives in
          let stop : stop_left t ≡ 1 = stop_running t running in
          let stop_then : stop_left (effect d t (event.Again post basis place)) ≤ 1 = stop_most (effect d t (event.Again post basis place)) in
          unpaid_kept d budget t (effect d t (event.Again post basis place)) refl (omega (arith, nodes, stop, stop_then))
  kept_after (event.Fill post block y) may = omega (arith, falls_after (event.Fill post block y) may tt)
  kept_after (event.Incumbent post) may =
      let stop : stop_left t ≡ 1 = stop_running t running in
      let stop_then : stop_left (effect d t (event.Incumbent post)) ≤ 1 = stop_most (effect d t (event.Incumbent post)) in
      unpaid_kept d budget t (effect d t (event.Incumbent post)) refl (omega (arith, stop, stop_then))
  kept_after (event.Close number h) may = omega (arith, falls_after (event.Close number h) may tt)
  kept_after (event.Stop reason) may = omega (arith, falls_after (event.Stop reason) may tt)
