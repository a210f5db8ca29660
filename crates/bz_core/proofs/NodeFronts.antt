-- No node has to be solved over more cuts than there are.
use Rattle.std.proofs.Common.{◌≡◌, refl, sym, subst, ℕ, zero, suc, ◌+◌, ◌<◌, ◌≤◌, List, [], ◌∷◌, ◌++◌, length, arith, inl, inr, cond}
use Rattle.std.specs.Prelude.{Option, Some, None, Bool, true, false, IsSome}
use Rattle.std.specs.List.{AllByRecursion, slice_get}
use Rattle.std.proofs.lemmas.List.{length-append}
use Rattle.std.proofs.lemmas.Option.{slice_get_within}
use Rattle.bz_model.specs.Parting.{blocks_of}
use Rattle.bz_model.specs.Splits.{Decomposition}
use Rattle.bz_cut.specs.declared.Cut.{Cut}
use Rattle.bz_event.specs.declared.events.Entry.{Entry}
use Rattle.bz_event.specs.declared.events.Event.{Event}
use Rattle.bz_event.specs.declared.events.Event.TheVariants as event
use Rattle.bz_event.specs.declared.events.How.{How}
use Rattle.bz_event.specs.declared.events.How.TheVariants as how
use Rattle.bz_history.specs.declared.state.FallingRay.{FallingRay}
use Rattle.bz_history.specs.declared.state.Node.{Node}
use Rattle.bz_history.specs.declared.state.Post.{Post}
use Rattle.bz_history.specs.declared.state.Region.{Region}
use Rattle.bz_history.specs.Floors.{AreFloorsFirst, IsFloorAt}
use Rattle.bz_history.specs.Histories.{IsReplay}
use Rattle.bz_history.specs.States.{State, changed, closed_by, effect, freed_by, freed_where_live, is_live, least_front, mode_for, mode_of, posted_by, sides_opened}
use Rattle.bz_history.specs.Steps.{AreFloorsReady, IsAt, MayFollow}
use Rattle.bz_history.proofs.FloorSteps.{floors_come_first}
use Rattle.bz_history.proofs.Growing.{histories_grow}
use Rattle.bz_history.proofs.Lists.{all_at}

-- the node's numbers of cuts are at most so many
record IsOver (cuts : ℕ) (node : Node) : Type 0 where
  opened : node.opened ≤ cuts
  after : node.after ≤ cuts

abbrev AllOver : ℕ → List Node → Type 0
AllOver cuts nodes = AllByRecursion (IsOver cuts) nodes

all_more : (n m : ℕ) (nodes : List Node) → n ≤ m → AllOver n nodes → AllOver m nodes
all_more n m [] less h = tt
all_more n m (x ∷ xs) less h =
    let opened : x.opened ≤ n = h.0.opened in
    let after : x.after ≤ n = h.0.after in
    (record { opened = omega arith; after = omega arith }, all_more n m xs less h.1)

all_changed : (n : ℕ) (f : Node → Node) (nodes : List Node) (i : ℕ) → ((x : Node) → IsOver n x → IsOver n (f x)) → AllOver n nodes → AllOver n (changed f nodes i)
all_changed n f [] i keeps h = tt
all_changed n f (x ∷ xs) zero keeps h = (keeps x h.0, h.1)
all_changed n f (x ∷ xs) (suc i) keeps h = (h.0, all_changed n f xs i keeps h.1)

all_append : (n : ℕ) (xs ys : List Node) → AllOver n xs → AllOver n ys → AllOver n (xs ++ ys)
all_append n [] ys h g = g
all_append n (x ∷ xs) ys h g = (h.0, all_append n xs ys h.1 g)

all_where : (n : ℕ) (b : Bool) (xs ys : List Node) → AllOver n xs → AllOver n ys → AllOver n (cond b xs ys)
all_where n true xs ys h g = h
all_where n false xs ys h g = g

all_freed : (n number : ℕ) (o : Option Post) (nodes : List Node) → suc number ≤ n → AllOver n nodes → AllOver n (freed_where_live o number nodes)
all_freed n number None nodes less h = h
all_freed n number (Some post) nodes less h =
    all_where n (is_live post) (changed (freed_by number) nodes post.node) nodes
    (all_changed n (freed_by number) nodes post.node (λ x over. record { opened = over.opened; after = less }) h) h

all_sides : (d : Decomposition) (n : ℕ) (w : How) (o : Option Node) → AllOver n (sides_opened d n w o)
all_sides d n (how.Split front basis position value) None = tt
all_sides d n (how.Split front basis position value) (Some node) =
    (record { opened = omega arith; after = omega arith }, (record { opened = omega arith; after = omega arith }, tt))
all_sides d n (how.Leaf front leaf) o = tt

over_step : (d : Decomposition) (budget : ℕ) (t : State) (e : Event) → MayFollow d budget t e → AllOver (length t.cuts) t.nodes → AllOver (length (effect d t e).cuts) (effect d t e).nodes
over_step d budget t (event.Floor block basis cut) may h =
    let more : length (t.cuts ++ cut ∷ []) ≡ length t.cuts + 1 = length-append t.cuts (cut ∷ []) in
    all_more (length t.cuts) (length (t.cuts ++ cut ∷ [])) t.nodes (omega arith) h
over_step d budget t (event.Ray block direction) may h = h
over_step d budget t (event.Post number front point leaf) may h =
    all_changed (length t.cuts) (posted_by (length t.posts)) t.nodes number (λ x over. record { opened = over.opened; after = over.after }) h
over_step d budget t (event.Append post basis cut) may h =
    let more : length (t.cuts ++ cut ∷ []) ≡ length t.cuts + 1 = length-append t.cuts (cut ∷ []) in
    all_freed (length (t.cuts ++ cut ∷ [])) (length t.cuts) (slice_get t.posts post) t.nodes (omega arith)
    (all_more (length t.cuts) (length (t.cuts ++ cut ∷ [])) t.nodes (omega arith) h)
over_step d budget t (event.Again post basis place) may h =
    let within : place < length t.cuts = slice_get_within t.cuts place may.known.known may.known.is_known in
    all_freed (length t.cuts) place (slice_get t.posts post) t.nodes (omega arith) h
over_step d budget t (event.Fill post block y) may h = h
over_step d budget t (event.Incumbent post) may h = h
over_step d budget t (event.Close number w) may h =
    all_append (length t.cuts) (changed (closed_by w t.entries (length t.nodes)) t.nodes number) (sides_opened d (length t.cuts) w (slice_get t.nodes number))
    (all_changed (length t.cuts) (closed_by w t.entries (length t.nodes)) t.nodes number (λ x over. record { opened = over.opened; after = over.after }) h)
    (all_sides d (length t.cuts) w (slice_get t.nodes number))
over_step d budget t (event.Stop reason) may h = h

all_over : (d : Decomposition) (budget : ℕ) (root : Region) (es : List Entry) (t : State) → IsReplay d budget root es t → AllOver (length t.cuts) t.nodes
all_over d budget root es t r = histories_grow d budget root (λ before u. AllOver (length u.cuts) u.nodes)
    (record { opened = omega arith; after = omega arith }, tt)
    (λ before u x replayed step old. over_step d budget u x.event step.may old) es t r

-- there is a cut for each block, once each has its floor
cuts_for_blocks : (cuts : List Cut) (blocks : ℕ) → ((k : ℕ) → k < blocks → IsFloorAt cuts k) → blocks ≤ length cuts
cuts_for_blocks cuts zero floors = omega arith
cuts_for_blocks cuts (suc n) floors =
    let last : IsFloorAt cuts n = floors n (omega arith) in
    let within : n < length cuts = slice_get_within cuts n last.cut last.is_cut in
    omega arith

least_by : (d : Decomposition) (t : State) (x : Node) (ray : Option FallingRay) → t.ray ≡ ray → AreFloorsFirst d t → AreFloorsReady d t → IsOver (length t.cuts) x
    → least_front d (mode_for ray) x ≤ length t.cuts
least_by d t x None is floors (inl all) over =
    let blocks : blocks_of d.part ≤ length t.cuts = cuts_for_blocks t.cuts (blocks_of d.part) (λ k less. floors.floors k (subst (λ (n : ℕ). k < n) (sym all) less)) in
    let opened : x.opened ≤ length t.cuts = over.opened in
    let after : x.after ≤ length t.cuts = over.after in
    omega arith
least_by d t x None is floors (inr some) over =
    let none : IsSome {T = FallingRay} None = subst (λ (r : Option FallingRay). IsSome r) is some in
    absurd (cc)
least_by d t x (Some r) is floors ready over =
    let opened : x.opened ≤ length t.cuts = over.opened in
    let after : x.after ≤ length t.cuts = over.after in
    omega arith

pub least_front_there : (d : Decomposition) (budget : ℕ) (root : Region) (es : List Entry) (t : State) (n : ℕ) (x : Node) → IsReplay d budget root es t
    → AreFloorsReady d t → IsAt t.nodes n x → least_front d (mode_of t) x ≤ length t.cuts
least_front_there d budget root es t n x r ready at =
    least_by d t x t.ray refl (floors_come_first d budget root es t r) ready (all_at (IsOver (length t.cuts)) t.nodes n x (all_over d budget root es t r) at)
