-- Live posts after each event.
use Rattle.std.proofs.Common.{◌≡◌, refl, sym, ◌∙◌, ap, subst, ℕ, zero, suc, ◌+◌, List, [], ◌∷◌, ◌++◌, length, inl, inr, append-nil}
use Rattle.std.proofs.lemmas.Bool.{cases_eq}
use Rattle.std.specs.Prelude.{◌⊎◌, Option, Some, None, Bool, true, false, cond, is_none}
use Rattle.std.specs.List.{slice_get}
use Rattle.bz_model.specs.declared.Master.{Master}
use Rattle.bz_model.specs.Splits.{Decomposition}
use Rattle.bz_tree.specs.declared.Leaf.{Leaf}
use Rattle.bz_event.specs.declared.events.Event.{Event}
use Rattle.bz_event.specs.declared.events.Event.TheVariants as event
use Rattle.bz_event.specs.declared.events.How.{How}
use Rattle.bz_event.specs.declared.events.How.TheVariants as how
use Rattle.bz_history.specs.declared.state.Node.{Node}
use Rattle.bz_history.specs.declared.state.Post.{Post}
use Rattle.bz_history.specs.declared.state.Region.{Region}
use Rattle.bz_history.specs.Lives.{AreLives, HasLivePost, IsLivePostOf, LivesAreRight}
use Rattle.bz_history.specs.States.{State, changed, changed_at, closed_by, effect, end_of, ended_by, filled_by, freed_by, freed_where_live, is_live, live_of, posted_by, posted_point, side, sides_opened}
use Rattle.bz_history.specs.Steps.{IsAt, IsClosing, IsPostStep, MayFollow}
use Rattle.bz_history.proofs.Growing.{histories_grow}
use Rattle.bz_history.proofs.Lists.{at_changed, at_either, at_end, at_kept, at_more, at_one, before_changed, changed_here, changed_item, changed_there}

pub some_same : (i j : ℕ) → Some i ≡ Some j → i ≡ j
some_same i j e = cc

pub none_some : (i : ℕ) → None ≡ Some i → ⊥
none_some i e = absurd (cc)

-- ---- links that go
-- the nodes other than n stay, and each that has a live post is one of these
record AreNodesBut (n : ℕ) (nodes later : List Node) : Type 0 where
  stays : (m : ℕ) (x : Node) → (m ≡ n → ⊥) → IsAt nodes m x → IsAt later m x
  was : (m i : ℕ) (z : Node) → IsAt later m z → z.live ≡ Some i → (m ≡ n → ⊥) × IsAt nodes m z

-- the posts other than p stay, and each live one is one of these
record ArePostsBut (p : ℕ) (posts later : List Post) : Type 0 where
  stays : (i : ℕ) (x : Post) → (i ≡ p → ⊥) → IsAt posts i x → IsAt later i x
  was : (i : ℕ) (y : Post) → IsAt later i y → is_live y ≡ true → (i ≡ p → ⊥) × IsAt posts i y

-- a node and its live post go together
unlinked : (n p : ℕ) (node : Node) (nodes later : List Node) (posts ended : List Post) → IsAt nodes n node → node.live ≡ Some p → AreNodesBut n nodes later → ArePostsBut p posts ended → AreLives nodes posts → AreLives later ended
unlinked n p node nodes later posts ended is live ns ps h = record { of_node = of_node; of_post = of_post }
  where
    own : IsLivePostOf posts p n
    own = h.of_node n p node is live

    of_node : (m i : ℕ) (z : Node) → IsAt later m z → z.live ≡ Some i → IsLivePostOf ended i m
    of_node m i z is_z live_z =
        let w : (m ≡ n → ⊥) × IsAt nodes m z = ns.was m i z is_z live_z in
        let q : IsLivePostOf posts i m = h.of_node m i z w.1 live_z in
        let other : i ≡ p → ⊥ = λ e. w.0 (sym q.of_node ∙ ap (λ (x : Post). x.node) (at_one posts p q.post own.post (subst (λ (k : ℕ). IsAt posts k q.post) e q.is_post) own.is_post) ∙ own.of_node) in
        record { post = q.post; is_post = ps.stays i q.post other q.is_post; of_node = q.of_node; live = q.live }

    of_post : (i : ℕ) (y : Post) → IsAt ended i y → is_live y ≡ true → HasLivePost later y.node i
    of_post i y is_y live_y =
        let w : (i ≡ p → ⊥) × IsAt posts i y = ps.was i y is_y live_y in
        let q : HasLivePost nodes y.node i = h.of_post i y w.1 live_y in
        let other : y.node ≡ n → ⊥ = λ e. w.0 (some_same i p (sym q.live ∙ ap (λ (x : Node). x.live) (at_one nodes n q.node node (subst (λ (k : ℕ). IsAt nodes k q.node) e q.is_node) is) ∙ live)) in
        record { node = q.node; is_node = ns.stays y.node q.node other q.is_node; live = q.live; stands_open = q.stands_open }

-- a node without a live post goes alone
unlinked_alone : (n : ℕ) (node : Node) (nodes later : List Node) (posts : List Post) → IsAt nodes n node → node.live ≡ None → AreNodesBut n nodes later → AreLives nodes posts → AreLives later posts
unlinked_alone n node nodes later posts is none ns h = record { of_node = of_node; of_post = of_post }
  where
    of_node : (m i : ℕ) (z : Node) → IsAt later m z → z.live ≡ Some i → IsLivePostOf posts i m
    of_node m i z is_z live_z =
        let w : (m ≡ n → ⊥) × IsAt nodes m z = ns.was m i z is_z live_z in
        h.of_node m i z w.1 live_z

    of_post : (i : ℕ) (y : Post) → IsAt posts i y → is_live y ≡ true → HasLivePost later y.node i
    of_post i y is_y live_y =
        let q : HasLivePost nodes y.node i = h.of_post i y is_y live_y in
        let other : y.node ≡ n → ⊥ = λ e. none_some i (sym none ∙ sym (ap (λ (x : Node). x.live) (at_one nodes n q.node node (subst (λ (k : ℕ). IsAt nodes k q.node) e q.is_node) is)) ∙ q.live) in
        record { node = q.node; is_node = ns.stays y.node q.node other q.is_node; live = q.live; stands_open = q.stands_open }

-- ---- what goes
-- a node that is changed to one without a live post
nodes_but : (f : Node → Node) (nodes more : List Node) (n : ℕ) → ((x : Node) → (f x).live ≡ None) → ((j : ℕ) (z : Node) → slice_get more j ≡ Some z → z.live ≡ None) → AreNodesBut n nodes (changed f nodes n ++ more)
nodes_but f nodes more n gone fresh = record {
  stays = λ m x other is. at_kept (changed f nodes n) more m x (changed_there f nodes n m other ∙ is);
  was = λ m i z is live. by m i z live (at_either (changed f nodes n) more m z is);
}
  where
    here : (m i : ℕ) (z : Node) → z.live ≡ Some i → slice_get (changed f nodes n) m ≡ Some z → (m ≡ n → ⊥) × IsAt nodes m z
    here m i z live is = (other, sym (changed_there f nodes n m other) ∙ is)
      where
        other : m ≡ n → ⊥
        other e =
            let b : (x : Node) × (slice_get nodes n ≡ Some x) × (z ≡ f x) = before_changed f nodes n z (subst (λ (k : ℕ). slice_get (changed f nodes n) k ≡ Some z) e is) in
            none_some i (sym (gone b.0) ∙ ap (λ (x : Node). x.live) (sym b.2) ∙ live)

    by : (m i : ℕ) (z : Node) → z.live ≡ Some i → (slice_get (changed f nodes n) m ≡ Some z) ⊎ ((j : ℕ) × (m ≡ length (changed f nodes n) + j) × (slice_get more j ≡ Some z)) → (m ≡ n → ⊥) × IsAt nodes m z
    by m i z live (inl is) = here m i z live is
    by m i z live (inr (j, place, is)) = absurd (none_some i (sym (fresh j z is) ∙ live))

live_ended : (at : ℕ) (x : Post) → is_live (ended_by at x) ≡ true → ⊥
live_ended at x h = by x.ended h
  where
    by : (o : Option ℕ) → is_none (end_of at o) ≡ true → ⊥
    by None e = absurd (cc)
    by (Some b) e = absurd (cc)

posts_but : (at : ℕ) (posts : List Post) (p : ℕ) → ArePostsBut p posts (changed (ended_by at) posts p)
posts_but at posts p = record {
  stays = λ i x other is. changed_there (ended_by at) posts p i other ∙ is;
  was = was;
}
  where
    was : (i : ℕ) (y : Post) → IsAt (changed (ended_by at) posts p) i y → is_live y ≡ true → (i ≡ p → ⊥) × IsAt posts i y
    was i y is live = (other, sym (changed_there (ended_by at) posts p i other) ∙ is)
      where
        other : i ≡ p → ⊥
        other e =
            let b : (x : Post) × (slice_get posts p ≡ Some x) × (y ≡ ended_by at x) = before_changed (ended_by at) posts p y (subst (λ (k : ℕ). slice_get (changed (ended_by at) posts p) k ≡ Some y) e is) in
            live_ended at b.0 (ap is_live (sym b.2) ∙ live)

-- ---- posts that stay as they are
-- a fill ends nothing
lives_filled : (f : Post → Post) (nodes : List Node) (posts : List Post) (p : ℕ) → ((x : Post) → (f x).node ≡ x.node) → ((x : Post) → is_live (f x) ≡ is_live x) → AreLives nodes posts → AreLives nodes (changed f posts p)
lives_filled f nodes posts p node live h = record { of_node = of_node; of_post = of_post }
  where
    of_node : (n i : ℕ) (x : Node) → IsAt nodes n x → x.live ≡ Some i → IsLivePostOf (changed f posts p) i n
    of_node n i x is live_x = by (changed_item f posts p i q.post q.is_post)
      where
        q : IsLivePostOf posts i n
        q = h.of_node n i x is live_x

        by : ((y : Post) × (slice_get (changed f posts p) i ≡ Some y) × ((y ≡ q.post) ⊎ ((i ≡ p) × (y ≡ f q.post)))) → IsLivePostOf (changed f posts p) i n
        by (y, at, inl e) = record { post = y; is_post = at; of_node = ap (λ (z : Post). z.node) e ∙ q.of_node; live = ap is_live e ∙ q.live }
        by (y, at, inr e) = record { post = y; is_post = at; of_node = ap (λ (z : Post). z.node) e.1 ∙ node q.post ∙ q.of_node; live = ap is_live e.1 ∙ live q.post ∙ q.live }

    of_post : (i : ℕ) (y : Post) → IsAt (changed f posts p) i y → is_live y ≡ true → HasLivePost nodes y.node i
    of_post i y is live_y = by (at_changed f posts p i y is)
      where
        by : ((x : Post) × (slice_get posts i ≡ Some x) × ((y ≡ x) ⊎ ((i ≡ p) × (y ≡ f x)))) → HasLivePost nodes y.node i
        by (x, at, inl e) = subst (λ (n : ℕ). HasLivePost nodes n i) (ap (λ (z : Post). z.node) (sym e)) (h.of_post i x at (ap is_live (sym e) ∙ live_y))
        by (x, at, inr e) = subst (λ (n : ℕ). HasLivePost nodes n i) (sym (node x) ∙ ap (λ (z : Post). z.node) (sym e.1)) (h.of_post i x at (sym (live x) ∙ ap is_live (sym e.1) ∙ live_y))

-- an entry after the one that ended a post changes nothing
lives_dead : (at : ℕ) (nodes : List Node) (posts : List Post) (p : ℕ) (post : Post) → IsAt posts p post → is_live post ≡ false → AreLives nodes posts → AreLives nodes (changed (ended_by at) posts p)
lives_dead at nodes posts p post is dead h = record { of_node = of_node; of_post = of_post }
  where
    of_node : (n i : ℕ) (x : Node) → IsAt nodes n x → x.live ≡ Some i → IsLivePostOf (changed (ended_by at) posts p) i n
    of_node n i x is_x live_x =
        let q : IsLivePostOf posts i n = h.of_node n i x is_x live_x in
        let other : i ≡ p → ⊥ = λ e. false_true (sym dead ∙ ap is_live (at_one posts p post q.post is (subst (λ (k : ℕ). IsAt posts k q.post) e q.is_post)) ∙ q.live) in
        record { post = q.post; is_post = changed_there (ended_by at) posts p i other ∙ q.is_post; of_node = q.of_node; live = q.live }
      where
        false_true : false ≡ true → ⊥
        false_true e = absurd (cc)

    of_post : (i : ℕ) (y : Post) → IsAt (changed (ended_by at) posts p) i y → is_live y ≡ true → HasLivePost nodes y.node i
    of_post i y is_y live_y =
        let w : (i ≡ p → ⊥) × IsAt posts i y = (posts_but at posts p).was i y is_y live_y in
        h.of_post i y w.1 live_y

-- ---- a new post
open_none : (d : Decomposition) (t : State) (number front : ℕ) (point : Master) (leaf : Option Leaf) → IsPostStep d t number front point leaf → AreLives t.nodes t.posts → AreLives (changed (posted_by (length t.posts)) t.nodes number) (t.posts ++ posted_point d t.entries number front point leaf ∷ [])
open_none d t number front point leaf may h = record { of_node = of_node; of_post = of_post }
  where
    k : ℕ
    k = length t.posts

    new : Post
    new = posted_point d t.entries number front point leaf

    nodes : List Node
    nodes = changed (posted_by k) t.nodes number

    of_node : (m i : ℕ) (z : Node) → IsAt nodes m z → z.live ≡ Some i → IsLivePostOf (t.posts ++ new ∷ []) i m
    of_node m i z is live = elim (cases_eq m number) [ inl e ↦ here e | inr other ↦ there other ]
      where
        here : m ≡ number → IsLivePostOf (t.posts ++ new ∷ []) i m
        here e =
            let b : (x : Node) × (slice_get t.nodes number ≡ Some x) × (z ≡ posted_by k x) = before_changed (posted_by k) t.nodes number z (subst (λ (n : ℕ). slice_get nodes n ≡ Some z) e is) in
            let own : k ≡ i = some_same k i (ap (λ (x : Node). x.live) (sym b.2) ∙ live) in
            subst (λ (j : ℕ). IsLivePostOf (t.posts ++ new ∷ []) j m) own (record { post = new; is_post = at_end t.posts new; of_node = sym e; live = refl })

        there : (m ≡ number → ⊥) → IsLivePostOf (t.posts ++ new ∷ []) i m
        there other =
            let q : IsLivePostOf t.posts i m = h.of_node m i z (sym (changed_there (posted_by k) t.nodes number m other) ∙ is) live in
            record { post = q.post; is_post = at_kept t.posts (new ∷ []) i q.post q.is_post; of_node = q.of_node; live = q.live }

    of_post : (i : ℕ) (y : Post) → IsAt (t.posts ++ new ∷ []) i y → is_live y ≡ true → HasLivePost nodes y.node i
    of_post i y is live = by (at_more t.posts new i y is)
      where
        by : (slice_get t.posts i ≡ Some y) ⊎ ((new ≡ y) × (i ≡ k)) → HasLivePost nodes y.node i
        by (inl g) =
            let q : HasLivePost t.nodes y.node i = h.of_post i y g live in
            let other : y.node ≡ number → ⊥ = λ e. none_some i (sym may.waits.unposted ∙ sym (ap (λ (x : Node). x.live) (at_one t.nodes number q.node may.node (subst (λ (n : ℕ). IsAt t.nodes n q.node) e q.is_node) may.waits.is_node)) ∙ q.live) in
            record { node = q.node; is_node = changed_there (posted_by k) t.nodes number y.node other ∙ q.is_node; live = q.live; stands_open = q.stands_open }
        by (inr g) =
            let own : HasLivePost nodes number k = record { node = posted_by k may.node; is_node = changed_here (posted_by k) t.nodes number may.node may.waits.is_node; live = refl; stands_open = may.waits.stands_open } in
            subst (λ (n : ℕ). HasLivePost nodes n i) (ap (λ (x : Post). x.node) g.0) (subst (λ (j : ℕ). HasLivePost nodes number j) (sym g.1) own)

-- ---- a cut ends a post
cut_ends : (number at p : ℕ) (nodes : List Node) (posts : List Post) (post : Post) → IsAt posts p post → AreLives nodes posts → AreLives (freed_where_live (slice_get posts p) number nodes) (changed (ended_by at) posts p)
cut_ends number at p nodes posts post is h = subst (λ (o : Option Post). AreLives (freed_where_live o number nodes) (changed (ended_by at) posts p)) (sym is) (by (is_live post) refl)
  where
    by : (b : Bool) → is_live post ≡ b → AreLives (cond b (changed (freed_by number) nodes post.node) nodes) (changed (ended_by at) posts p)
    by true live =
        let q : HasLivePost nodes post.node p = h.of_post p post is live in
        subst (λ (ns : List Node). AreLives ns (changed (ended_by at) posts p)) (append-nil (changed (freed_by number) nodes post.node))
        (unlinked post.node p q.node nodes (changed (freed_by number) nodes post.node ++ []) posts (changed (ended_by at) posts p) q.is_node q.live
        (nodes_but (freed_by number) nodes [] post.node (λ x. refl) (λ j z none. absurd (cc))) (posts_but at posts p) h)
    by false dead = lives_dead at nodes posts p post is dead h

-- ---- a node is closed
fresh_unposted : (d : Decomposition) (cuts : ℕ) (h : How) (o : Option Node) (j : ℕ) (z : Node) → slice_get (sides_opened d cuts h o) j ≡ Some z → z.live ≡ None
fresh_unposted d cuts (how.Split front basis position value) None j z is = absurd (cc)
fresh_unposted d cuts (how.Split front basis position value) (Some node) zero z is = cc
fresh_unposted d cuts (how.Split front basis position value) (Some node) (suc zero) z is = cc
fresh_unposted d cuts (how.Split front basis position value) (Some node) (suc (suc j)) z is = absurd (cc)
fresh_unposted d cuts (how.Leaf front leaf) o j z is = absurd (cc)

-- the node that a closing closes is there
pub closing_node : (d : Decomposition) (t : State) (number : ℕ) (h : How) → IsClosing d t number h → (node : Node) × IsAt t.nodes number node
closing_node d t number (how.Split front basis position value) may = (may.waiting, may.waits.is_node)
closing_node d t number (how.Leaf front leaf) may = (may.node, may.is_node)

close_lives : (d : Decomposition) (t : State) (number : ℕ) (h : How) → IsClosing d t number h → AreLives t.nodes t.posts
    → AreLives (changed (closed_by h t.entries (length t.nodes)) t.nodes number ++ sides_opened d (length t.cuts) h (slice_get t.nodes number)) (changed_at (ended_by t.entries) t.posts (live_of (slice_get t.nodes number)))
close_lives d t number h may lives = subst (λ (o : Option Node). AreLives later (changed_at (ended_by t.entries) t.posts (live_of o))) (sym node.1) (by node.0.live refl)
  where
    node : (x : Node) × IsAt t.nodes number x
    node = closing_node d t number h may

    later : List Node
    later = changed (closed_by h t.entries (length t.nodes)) t.nodes number ++ sides_opened d (length t.cuts) h (slice_get t.nodes number)

    but : AreNodesBut number t.nodes later
    but = nodes_but (closed_by h t.entries (length t.nodes)) t.nodes (sides_opened d (length t.cuts) h (slice_get t.nodes number)) number (λ x. refl) (fresh_unposted d (length t.cuts) h (slice_get t.nodes number))

    by : (o : Option ℕ) → node.0.live ≡ o → AreLives later (changed_at (ended_by t.entries) t.posts node.0.live)
    by None e = subst (λ (o : Option ℕ). AreLives later (changed_at (ended_by t.entries) t.posts o)) (sym e) (unlinked_alone number node.0 t.nodes later t.posts node.1 e but lives)
    by (Some p) e = subst (λ (o : Option ℕ). AreLives later (changed_at (ended_by t.entries) t.posts o)) (sym e)
        (unlinked number p node.0 t.nodes later t.posts (changed (ended_by t.entries) t.posts p) node.1 e but (posts_but t.entries t.posts p) lives)

-- ---- each event
live_step : (d : Decomposition) (budget : ℕ) (t : State) (e : Event) → MayFollow d budget t e → AreLives t.nodes t.posts → AreLives (effect d t e).nodes (effect d t e).posts
live_step d budget t (event.Floor block basis cut) may h = h
live_step d budget t (event.Ray block direction) may h = h
live_step d budget t (event.Post node front point leaf) may h = open_none d t node front point leaf may h
live_step d budget t (event.Append post basis cut) may h = cut_ends (length t.cuts) t.entries post t.nodes t.posts may.post may.is_post h
live_step d budget t (event.Again post basis place) may h = cut_ends place t.entries post t.nodes t.posts may.post may.is_post h
live_step d budget t (event.Fill post block y) may h = lives_filled (filled_by t.entries block y) t.nodes t.posts post (λ x. refl) (λ x. refl) h
live_step d budget t (event.Incumbent post) may h = h
live_step d budget t (event.Close number w) may h = close_lives d t number w may.closing h
live_step d budget t (event.Stop reason) may h = h

begins : (root : Region) → AreLives (side 0 root ∷ []) []
begins root = record { of_node = of_node; of_post = λ i y is live. absurd (cc) }
  where
    of_node : (n i : ℕ) (x : Node) → IsAt (side 0 root ∷ []) n x → x.live ≡ Some i → IsLivePostOf [] i n
    of_node zero i x is live =
        let same : side 0 root ≡ x = cc in
        absurd (none_some i (ap (λ (y : Node). y.live) same ∙ live))
    of_node (suc n) i x is live = absurd (cc)

pub lives_are_right : LivesAreRight
lives_are_right d budget root es t r = histories_grow d budget root (λ es u. AreLives u.nodes u.posts) (begins root)
    (λ before u x replayed step old. live_step d budget u x.event step.may old) es t r
