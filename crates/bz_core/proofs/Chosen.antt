-- What is handed out is the first that may be, and where nothing is, all is handed out.
use Rattle.std.proofs.Common.{◌≡◌, ◌<◌, ◌≤◌, ◌-◌, ℕ, zero, suc, Bool, true, false, List, [], ◌∷◌, length, refl, sym, subst, arith, inl, inr}
use Rattle.std.specs.Prelude.{Option, Some, None, IfNone, IfSome, IsSome}
use Rattle.std.specs.List.{slice_get}
use Rattle.std.proofs.lemmas.Option.{slice_get_within}
use Rattle.bz_model.specs.Parting.{blocks_of}
use Rattle.bz_model.specs.Splits.{Decomposition}
use Rattle.bz_history.specs.declared.state.FallingRay.{FallingRay}
use Rattle.bz_history.specs.declared.state.Node.{Node}
use Rattle.bz_history.specs.States.{State, least_front, mode_of}
use Rattle.bz_history.specs.Steps.{AreFloorsReady, IsAt, IsFrontOf, IsNextFloor}
use Rattle.bz_history.proofs.Lists.{all_at}
use Rattle.bz_core.specs.declared.roles.Role.{Role}
use Rattle.bz_core.specs.declared.roles.Role.TheVariants as role
use Rattle.bz_core.specs.Handing.{AllIsHanded, Chooses, GoesOn, IsFirstNode, IsFirstSeparation, IsFreeNode, IsFreeSeparation, IsHandedBlock, NoNodeIsFree, NoSeparationIsFree, by_role}
use Rattle.bz_core.specs.Searches.{AreMarks, Marks}
use Rattle.bz_core.specs.Tasks.{IsNodeTask, IsSeparationTask}

-- ---- marks
-- a mark that is there and isn't off is on
mark_on : (marks : List Bool) (i : ℕ) → i < length marks → (slice_get marks i ≡ Some false → ⊥) → slice_get marks i ≡ Some true
mark_on [] i within other = absurd (omega arith)
mark_on (true ∷ ms) zero within other = refl
mark_on (false ∷ ms) zero within other = absurd (other refl)
mark_on (m ∷ ms) (suc i) within other = mark_on ms i (omega arith) other

-- what stands at a place of a list
there : {X : Type 0} (xs : List X) (i : ℕ) → i < length xs → (x : X) × (slice_get xs i ≡ Some x)
there [] i within = absurd (omega arith)
there (x ∷ xs) zero within = (x, refl)
there (x ∷ xs) (suc i) within = there xs i (omega arith)

-- ---- all is handed out
no_floor : (d : Decomposition) (t : State) (block : ℕ) → AreFloorsReady d t → IsNextFloor d t block → ⊥
no_floor d t block (inl all) next =
    let over : suc (length t.floors) ≤ blocks_of d.part = subst (λ (b : ℕ). b ≤ blocks_of d.part) next.next next.last in
    omega arith
no_floor d t block (inr ray) next =
    let none : IsSome {T = FallingRay} None = subst (λ (r : Option FallingRay). IsSome r) next.no_ray ray in
    absurd (cc)

handed_node : (d : Decomposition) (t : State) (marks : Marks) → AreMarks d t marks → NoNodeIsFree t.nodes marks.nodes
    → (number : ℕ) → IsNodeTask d t number → slice_get marks.nodes number ≡ Some true
handed_node d t marks m none number task =
    let inside : number < length t.nodes = slice_get_within t.nodes number task.node task.waits.is_node in
    let within : number < length marks.nodes = subst (λ (n : ℕ). number < n) (sym m.nodes) inside in
    mark_on marks.nodes number within (λ off. none number (record {
      node = task.node;
      is_node = task.waits.is_node;
      stands_open = task.waits.stands_open;
      unposted = task.waits.unposted;
      unmarked = off;
    }))

handed_block : (d : Decomposition) (t : State) (marks : Marks) → AreMarks d t marks
    → NoSeparationIsFree (blocks_of d.part) t.posts marks.blocks
    → (number block : ℕ) → IsSeparationTask d t number block → IsHandedBlock marks.blocks number block
handed_block d t marks m none number block task = by (there marks.blocks number within)
  where
    within : number < length marks.blocks
    within = subst (λ (n : ℕ). number < n) (sym m.posts) (slice_get_within t.posts number task.post task.is_post)

    by : ((x : List Bool) × (slice_get marks.blocks number ≡ Some x)) → IsHandedBlock marks.blocks number block
    by (of_post, is) =
        let count : length of_post ≡ blocks_of d.part = all_at (λ (x : List Bool). length x ≡ blocks_of d.part) marks.blocks number of_post m.blocks is in
        let first : 0 < block = task.first in
        let last : block ≤ blocks_of d.part = task.last in
        let place : block - 1 < length of_post = omega arith in
        record {
          of_post = of_post;
          is_marks = is;
          handed = mark_on of_post (block - 1) place (λ off. none number block (record {
            post = task.post;
            is_post = task.is_post;
            live = task.live;
            of_post = of_post;
            is_marks = is;
            free = record { first = task.first; last = task.last; empty = task.empty; unmarked = off };
          }));
        }

all_handed : (d : Decomposition) (t : State) (marks : Marks) → AreMarks d t marks → AreFloorsReady d t
    → NoNodeIsFree t.nodes marks.nodes → NoSeparationIsFree (blocks_of d.part) t.posts marks.blocks → AllIsHanded d t marks
all_handed d t marks m ready nodes separations = record {
  floors = λ block next. absurd (no_floor d t block ready next);
  nodes = handed_node d t marks m nodes;
  separations = handed_block d t marks m separations;
}

-- while floors are made and the next is handed out, all is
pub floor_handed : (d : Decomposition) (t : State) (marks : Marks) (block : ℕ) → IsNextFloor d t block → marks.floor ≡ true → AllIsHanded d t marks
floor_handed d t marks block next handed = record {
  floors = λ b task. handed;
  nodes = λ number task. absurd (no_floor d t block task.ready next);
  separations = λ number b task. absurd (no_floor d t block task.ready next);
}

-- ---- the choice
over_all_cuts : (d : Decomposition) (t : State) (x : Node) (front : ℕ) → front ≡ length t.cuts → least_front d (mode_of t) x ≤ length t.cuts → IsFrontOf d t x front
over_all_cuts d t x front over least = record { at_least = subst (λ (n : ℕ). least_front d (mode_of t) x ≤ n) (sym over) least; at_most = omega (arith, over) }

pub chosen : (d : Decomposition) (t : State) (marks : Marks) (quit : Bool) (worker : Role) (front : ℕ) (node : Option ℕ) (separation : Option (ℕ × ℕ))
    → GoesOn t quit → AreFloorsReady d t → AreMarks d t marks → front ≡ length t.cuts
    → ((n : ℕ) (x : Node) → IsAt t.nodes n x → least_front d (mode_of t) x ≤ length t.cuts)
    → IfSome node (IsFreeNode t.nodes marks.nodes) → IfNone node (NoNodeIsFree t.nodes marks.nodes)
    → IfSome node (IsFirstNode t.nodes marks.nodes)
    → IfSome separation (λ s. IsFreeSeparation (blocks_of d.part) t.posts marks.blocks s.0 s.1)
    → IfNone separation (NoSeparationIsFree (blocks_of d.part) t.posts marks.blocks)
    → IfSome separation (λ s. IsFirstSeparation (blocks_of d.part) t.posts marks.blocks s.0 s.1)
    → Chooses d t marks quit worker (by_role worker front node separation)
chosen d t marks quit role.Nodes front (Some number) separation on ready m over least free none first sfree snone sfirst =
    (on, record { ready = ready; free = free; first = first; over_all = over; front_is = over_all_cuts d t free.node front over (least number free.node free.is_node); allowed = tt })
chosen d t marks quit role.Nodes front None (Some s) on ready m over least free none first sfree snone sfirst =
    (on, record { ready = ready; free = sfree; first = sfirst; allowed = none })
chosen d t marks quit role.Nodes front None None on ready m over least free none first sfree snone sfirst =
    (on, all_handed d t marks m ready none snone)
chosen d t marks quit role.Cuts front (Some number) (Some s) on ready m over least free none first sfree snone sfirst =
    (on, record { ready = ready; free = sfree; first = sfirst; allowed = tt })
chosen d t marks quit role.Cuts front None (Some s) on ready m over least free none first sfree snone sfirst =
    (on, record { ready = ready; free = sfree; first = sfirst; allowed = tt })
chosen d t marks quit role.Cuts front (Some number) None on ready m over least free none first sfree snone sfirst =
    (on, record { ready = ready; free = free; first = first; over_all = over; front_is = over_all_cuts d t free.node front over (least number free.node free.is_node); allowed = snone })
chosen d t marks quit role.Cuts front None None on ready m over least free none first sfree snone sfirst =
    (on, all_handed d t marks m ready none snone)
