-- The sizes of a search's lists after each event.
use Rattle.std.proofs.Common.{◌≡◌, refl, ◌∙◌, ap, ℕ, zero, suc, ◌+◌, ◌*◌, ◌<◌, ◌≤◌, List, [], ◌∷◌, ◌++◌, length, arith}
use Rattle.std.specs.Prelude.{Option, Some, None, Bool, true, false, cond}
use Rattle.std.specs.List.{slice_get}
use Rattle.std.proofs.lemmas.List.{length-append}
use Rattle.bz_model.specs.Parting.{blocks_of}
use Rattle.bz_model.specs.Splits.{Decomposition}
use Rattle.bz_event.specs.declared.events.Entry.{Entry}
use Rattle.bz_event.specs.declared.events.Event.{Event}
use Rattle.bz_event.specs.declared.events.Event.TheVariants as event
use Rattle.bz_event.specs.declared.events.How.{How}
use Rattle.bz_event.specs.declared.events.How.TheVariants as how
use Rattle.bz_history.specs.declared.state.Node.{Node}
use Rattle.bz_history.specs.declared.state.Post.{Post}
use Rattle.bz_history.specs.Sizes.{AreSizes, SizesAreRight, closed_in}
use Rattle.bz_history.specs.States.{State, changed, closed_by, effect, freed_by, freed_where_live, is_live, is_open, opening, posted_by, sides_opened}
use Rattle.bz_history.specs.Steps.{IsClosing, MayFollow}
use Rattle.bz_history.proofs.Growing.{histories_grow}
use Rattle.bz_history.proofs.Lists.{length-changed}

-- ---- closed nodes
closed-append : (xs ys : List Node) → closed_in (xs ++ ys) ≡ closed_in xs + closed_in ys
closed-append [] ys = omega arith
closed-append (x ∷ xs) ys =
    let rest : closed_in (xs ++ ys) ≡ closed_in xs + closed_in ys = closed-append xs ys in
    omega arith

closed-kept : (f : Node → Node) (nodes : List Node) (n : ℕ) → ((x : Node) → is_open (f x) ≡ is_open x) → closed_in (changed f nodes n) ≡ closed_in nodes
closed-kept f [] n same = refl
closed-kept f (y ∷ ys) zero same = ap (λ b. cond b 0 1 + closed_in ys) (same y)
closed-kept f (y ∷ ys) (suc n) same = ap (λ k. cond (is_open y) 0 1 + k) (closed-kept f ys n same)

open_alone : (x : Node) → is_open x ≡ true → closed_in (x ∷ []) ≡ 0
open_alone x h = ap (λ (b : Bool). cond {A = ℕ} b 0 1 + 0) h

closed_alone : (x : Node) → is_open x ≡ false → closed_in (x ∷ []) ≡ 1
closed_alone x h = ap (λ (b : Bool). cond {A = ℕ} b 0 1 + 0) h

-- an open node is closed
closed-more : (f : Node → Node) (nodes : List Node) (n : ℕ) (x : Node) → slice_get nodes n ≡ Some x → is_open x ≡ true → ((y : Node) → is_open (f y) ≡ false) → closed_in (changed f nodes n) ≡ closed_in nodes + 1
closed-more f [] n x is stands closes = absurd (cc)
closed-more f (y ∷ ys) zero x is stands closes =
    let same : y ≡ x = cc in
    let old : closed_in (y ∷ []) ≡ 0 = open_alone y (ap is_open same ∙ stands) in
    let new : closed_in (f y ∷ []) ≡ 1 = closed_alone (f y) (closes y) in
    omega arith
closed-more f (y ∷ ys) (suc n) x is stands closes =
    let rest : closed_in (changed f ys n) ≡ closed_in ys + 1 = closed-more f ys n x is stands closes in
    omega arith

-- ---- nodes of which none is closed
where_same : {X : Type 0} (F : List Node → X) (b : Bool) (nodes later : List Node) → F later ≡ F nodes → F (cond b later nodes) ≡ F nodes
where_same F true nodes later h = h
where_same F false nodes later h = refl

freed_same : {X : Type 0} (F : List Node → X) (o : Option Post) (number : ℕ) (nodes : List Node) → ((n : ℕ) → F (changed (freed_by number) nodes n) ≡ F nodes) → F (freed_where_live o number nodes) ≡ F nodes
freed_same F None number nodes h = refl
freed_same F (Some post) number nodes h = where_same F (is_live post) nodes (changed (freed_by number) nodes post.node) (h post.node)

closed-freed : (o : Option Post) (number : ℕ) (nodes : List Node) → closed_in (freed_where_live o number nodes) ≡ closed_in nodes
closed-freed o number nodes = freed_same closed_in o number nodes (λ n. closed-kept (freed_by number) nodes n (λ x. refl))

length-freed : (o : Option Post) (number : ℕ) (nodes : List Node) → length (freed_where_live o number nodes) ≡ length nodes
length-freed o number nodes = freed_same length o number nodes (λ n. length-changed (freed_by number) nodes n)

-- ---- a closing
opened_two : (d : Decomposition) (cuts : ℕ) (h : How) (o : Option Node) → length (sides_opened d cuts h o) ≤ 2
opened_two d cuts (how.Split front basis position value) None = omega arith
opened_two d cuts (how.Split front basis position value) (Some node) = omega arith
opened_two d cuts (how.Leaf front leaf) o = omega arith

opened_open : (d : Decomposition) (cuts : ℕ) (h : How) (o : Option Node) → closed_in (sides_opened d cuts h o) ≡ 0
opened_open d cuts (how.Split front basis position value) None = refl
opened_open d cuts (how.Split front basis position value) (Some node) = refl
opened_open d cuts (how.Leaf front leaf) o = refl

-- the node that a closing closes is open
closing_open : (d : Decomposition) (t : State) (number : ℕ) (h : How) → IsClosing d t number h → (node : Node) × (slice_get t.nodes number ≡ Some node) × (is_open node ≡ true)
closing_open d t number (how.Split front basis position value) may = (may.waiting, may.waits.is_node, may.waits.stands_open)
closing_open d t number (how.Leaf front leaf) may = (may.node, may.is_node, may.stands_open)

-- ---- each event
-- an entry that adds no cut and closes no node
same_sizes : (d : Decomposition) (budget : ℕ) (es : List Entry) (t : State) (x : Entry) (u : State) → u.entries ≡ suc t.entries → u.cuts ≡ t.cuts → u.floors ≡ t.floors → u.units ≡ t.units → closed_in u.nodes ≡ closed_in t.nodes → length u.nodes ≡ length t.nodes → AreSizes d budget es t → AreSizes d budget (es ++ x ∷ []) u
same_sizes d budget es t x u entries cuts floors units closed count h =
    let more : length (es ++ x ∷ []) ≡ length es + 1 = length-append es (x ∷ []) in
    let same_cuts : length u.cuts ≡ length t.cuts = ap length cuts in
    let same_floors : length u.floors ≡ length t.floors = ap length floors in
    let old : t.entries ≡ length es = h.entries in
    let sum : length t.floors + t.units ≡ length t.cuts + closed_in t.nodes = h.units in
    let spent : t.units ≤ budget = h.spent in
    let nodes : length t.nodes ≤ 1 + 2 * closed_in t.nodes = h.nodes in
    let few : length t.floors ≤ blocks_of d.part = h.floors in
    record { entries = omega arith; units = omega arith; spent = omega arith; nodes = omega arith; floors = omega arith }

size_step : (d : Decomposition) (budget : ℕ) (es : List Entry) (t : State) (x : Entry) (e : Event) → MayFollow d budget t e → AreSizes d budget es t → AreSizes d budget (es ++ x ∷ []) (effect d t e)
size_step d budget es t x (event.Floor block basis cut) may h =
    let more : length (es ++ x ∷ []) ≡ length es + 1 = length-append es (x ∷ []) in
    let cuts : length (t.cuts ++ cut ∷ []) ≡ length t.cuts + 1 = length-append t.cuts (cut ∷ []) in
    let floors : length (t.floors ++ t.entries ∷ []) ≡ length t.floors + 1 = length-append t.floors (t.entries ∷ []) in
    let next : block ≡ suc (length t.floors) = may.next.next in
    let last : block ≤ blocks_of d.part = may.next.last in
    let old : t.entries ≡ length es = h.entries in
    let units : length t.floors + t.units ≡ length t.cuts + closed_in t.nodes = h.units in
    record { entries = omega arith; units = omega arith; spent = h.spent; nodes = h.nodes; floors = omega arith }
size_step d budget es t x (event.Ray block direction) may h = same_sizes d budget es t x (effect d t (event.Ray block direction)) refl refl refl refl refl refl h
size_step d budget es t x (event.Post node front point leaf) may h =
    same_sizes d budget es t x (effect d t (event.Post node front point leaf)) refl refl refl refl (closed-kept (posted_by (length t.posts)) t.nodes node (λ y. refl)) (length-changed (posted_by (length t.posts)) t.nodes node) h
size_step d budget es t x (event.Append post basis cut) may h =
    let more : length (es ++ x ∷ []) ≡ length es + 1 = length-append es (x ∷ []) in
    let cuts : length (t.cuts ++ cut ∷ []) ≡ length t.cuts + 1 = length-append t.cuts (cut ∷ []) in
    let closed : closed_in (freed_where_live (slice_get t.posts post) (length t.cuts) t.nodes) ≡ closed_in t.nodes = closed-freed (slice_get t.posts post) (length t.cuts) t.nodes in
    let count : length (freed_where_live (slice_get t.posts post) (length t.cuts) t.nodes) ≡ length t.nodes = length-freed (slice_get t.posts post) (length t.cuts) t.nodes in
    let old : t.entries ≡ length es = h.entries in
    let units : length t.floors + t.units ≡ length t.cuts + closed_in t.nodes = h.units in
    let nodes : length t.nodes ≤ 1 + 2 * closed_in t.nodes = h.nodes in
    let left : t.units < budget = may.units in
    record { entries = omega arith; units = omega arith; spent = omega arith; nodes = omega arith; floors = h.floors }
size_step d budget es t x (event.Again post basis place) may h =
    same_sizes d budget es t x (effect d t (event.Again post basis place)) refl refl refl refl (closed-freed (slice_get t.posts post) place t.nodes) (length-freed (slice_get t.posts post) place t.nodes) h
size_step d budget es t x (event.Fill post block y) may h = same_sizes d budget es t x (effect d t (event.Fill post block y)) refl refl refl refl refl refl h
size_step d budget es t x (event.Incumbent post) may h = same_sizes d budget es t x (effect d t (event.Incumbent post)) refl refl refl refl refl refl h
size_step d budget es t x (event.Close number w) may h =
    let closing : (node : Node) × (slice_get t.nodes number ≡ Some node) × (is_open node ≡ true) = closing_open d t number w may.closing in
    let f : Node → Node = closed_by w t.entries (length t.nodes) in
    let sides : List Node = sides_opened d (length t.cuts) w (slice_get t.nodes number) in
    let more : length (es ++ x ∷ []) ≡ length es + 1 = length-append es (x ∷ []) in
    let one : closed_in (changed f t.nodes number) ≡ closed_in t.nodes + 1 = closed-more f t.nodes number closing.0 closing.1 closing.2 (λ y. refl) in
    let none : closed_in sides ≡ 0 = opened_open d (length t.cuts) w (slice_get t.nodes number) in
    let all : closed_in (changed f t.nodes number ++ sides) ≡ closed_in (changed f t.nodes number) + closed_in sides = closed-append (changed f t.nodes number) sides in
    let two : length sides ≤ 2 = opened_two d (length t.cuts) w (slice_get t.nodes number) in
    let same : length (changed f t.nodes number) ≡ length t.nodes = length-changed f t.nodes number in
    let count : length (changed f t.nodes number ++ sides) ≡ length (changed f t.nodes number) + length sides = length-append (changed f t.nodes number) sides in
    let old : t.entries ≡ length es = h.entries in
    let units : length t.floors + t.units ≡ length t.cuts + closed_in t.nodes = h.units in
    let nodes : length t.nodes ≤ 1 + 2 * closed_in t.nodes = h.nodes in
    let left : t.units < budget = may.units in
    record { entries = omega arith; units = omega arith; spent = omega arith; nodes = omega arith; floors = h.floors }
size_step d budget es t x (event.Stop reason) may h = same_sizes d budget es t x (effect d t (event.Stop reason)) refl refl refl refl refl refl h

pub sizes_are_right : SizesAreRight
sizes_are_right d budget root es t r = histories_grow d budget root (AreSizes d budget) begins
    (λ before u x replayed step old. size_step d budget before u x x.event step.may old) es t r
  where
    begins : AreSizes d budget [] (opening root)
    begins = record { entries = refl; units = refl; spent = omega arith; nodes = omega arith; floors = omega arith }
