-- The fronts of posts after each event.
use Rattle.std.proofs.Common.{◌≡◌, refl, sym, ◌∙◌, ap, subst, ℕ, suc, ◌+◌, ◌<◌, ◌≤◌, List, [], ◌∷◌, ◌++◌, length, inl, inr, arith}
use Rattle.std.proofs.Math.Nat.{le-max_left, le-max_right, le_trans}
use Rattle.std.proofs.lemmas.Bool.{cases_eq}
use Rattle.std.proofs.lemmas.Option.{slice_get_within}
use Rattle.std.specs.Prelude.{◌⊎◌, Option, Some, None, Bool, true, false, cond, is_none, max}
use Rattle.std.specs.List.{slice_get}
use Rattle.bz_model.specs.declared.Master.{Master}
use Rattle.bz_model.specs.Parting.{blocks_of}
use Rattle.bz_model.specs.Splits.{Decomposition}
use Rattle.bz_cut.specs.declared.Mode.{Mode}
use Rattle.bz_cut.specs.declared.Mode.TheVariants as mode
use Rattle.bz_tree.specs.declared.Leaf.{Leaf}
use Rattle.bz_event.specs.declared.events.Event.{Event}
use Rattle.bz_event.specs.declared.events.Event.TheVariants as event
use Rattle.bz_event.specs.declared.events.How.{How}
use Rattle.bz_history.specs.declared.state.Node.{Node}
use Rattle.bz_history.specs.declared.state.Post.{Post}
use Rattle.bz_history.specs.Fronts.{AreFronts, FrontsRise}
use Rattle.bz_history.specs.Lives.{AreLives, HasLivePost, IsLivePostOf}
use Rattle.bz_history.specs.Posts.{ArePosts}
use Rattle.bz_history.specs.States.{State, changed, changed_at, closed_by, effect, end_of, ended_by, filled_by, freed_by, freed_where_live, is_live, is_open, least_front, live_of, mode_of, posted_by, posted_point, sides_opened}
use Rattle.bz_history.specs.Steps.{IsAt, IsClosing, IsPostStep, MayFollow}
use Rattle.bz_history.proofs.Growing.{histories_grow}
use Rattle.bz_history.proofs.Lists.{at_changed, at_either, at_more, at_one, before_changed, changed_there, length-changed}
use Rattle.bz_history.proofs.LiveSteps.{closing_node, lives_are_right, none_some}
use Rattle.bz_history.proofs.PostSteps.{posts_are_right}

-- ---- posts that keep their fronts
-- each post has the node and the front of the one that was there, and is not live where that wasn't
abbrev ArePostsOf : List Post → List Post → Type 0
ArePostsOf posts later = (i : ℕ) (y : Post) → IsAt later i y → (x : Post) × IsAt posts i x × (y.node ≡ x.node) × (y.front ≡ x.front) × (is_live y ≡ true → is_live x ≡ true)

of_changed : (f : Post → Post) (posts : List Post) (p : ℕ) → ((x : Post) → (f x).node ≡ x.node) → ((x : Post) → (f x).front ≡ x.front) → ((x : Post) → is_live (f x) ≡ true → is_live x ≡ true) → ArePostsOf posts (changed f posts p)
of_changed f posts p node front live i y is = by (at_changed f posts p i y is)
  where
    by : ((x : Post) × (slice_get posts i ≡ Some x) × ((y ≡ x) ⊎ ((i ≡ p) × (y ≡ f x)))) → (x : Post) × IsAt posts i x × (y.node ≡ x.node) × (y.front ≡ x.front) × (is_live y ≡ true → is_live x ≡ true)
    by (x, at, inl e) = (x, at, ap (λ (z : Post). z.node) e, ap (λ (z : Post). z.front) e, λ h. ap is_live (sym e) ∙ h)
    by (x, at, inr e) = (x, at, ap (λ (z : Post). z.node) e.1 ∙ node x, ap (λ (z : Post). z.front) e.1 ∙ front x, λ h. live x (ap is_live (sym e.1) ∙ h))

of_same : (posts : List Post) → ArePostsOf posts posts
of_same posts i y is = (y, is, refl, refl, λ h. h)

still_dead : (at : ℕ) (x : Post) → is_live (ended_by at x) ≡ true → is_live x ≡ true
still_dead at x h = by x.ended h
  where
    by : (o : Option ℕ) → is_none (end_of at o) ≡ true → is_none o ≡ true
    by None e = refl
    by (Some b) e = absurd (cc)

of_ended : (at : ℕ) (posts : List Post) (o : Option ℕ) → ArePostsOf posts (changed_at (ended_by at) posts o)
of_ended at posts None = of_same posts
of_ended at posts (Some p) = of_changed (ended_by at) posts p (λ x. refl) (λ x. refl) (still_dead at)

rise_kept : (nodes : List Node) (posts later : List Post) → ArePostsOf posts later → AreFronts nodes posts → (i j : ℕ) (a b : Post) → IsAt later i a → IsAt later j b → i < j → a.node ≡ b.node → a.front < b.front
rise_kept nodes posts later like h i j a b at_a at_b below same =
    let x : (x : Post) × IsAt posts i x × (a.node ≡ x.node) × (a.front ≡ x.front) × (is_live a ≡ true → is_live x ≡ true) = like i a at_a in
    let y : (y : Post) × IsAt posts j y × (b.node ≡ y.node) × (b.front ≡ y.front) × (is_live b ≡ true → is_live y ≡ true) = like j b at_b in
    let less : x.0.front < y.0.front = h.rise i j x.0 y.0 x.1 y.1 below (sym x.2 ∙ same ∙ y.2) in
    let front_a : a.front ≡ x.0.front = x.3 in
    let front_b : b.front ≡ y.0.front = y.3 in
    omega arith

last_kept : (nodes : List Node) (posts later : List Post) → ArePostsOf posts later → AreFronts nodes posts → (i j : ℕ) (a b : Post) → IsAt later i a → is_live a ≡ true → IsAt later j b → a.node ≡ b.node → j ≤ i
last_kept nodes posts later like h i j a b at_a live at_b same =
    let x : (x : Post) × IsAt posts i x × (a.node ≡ x.node) × (a.front ≡ x.front) × (is_live a ≡ true → is_live x ≡ true) = like i a at_a in
    let y : (y : Post) × IsAt posts j y × (b.node ≡ y.node) × (b.front ≡ y.front) × (is_live b ≡ true → is_live y ≡ true) = like j b at_b in
    h.last i j x.0 y.0 x.1 (x.4 live) y.1 (sym x.2 ∙ same ∙ y.2)

false_true : false ≡ true → ⊥
false_true e = absurd (cc)

-- ---- a fill
fronts_filled : (f : Post → Post) (nodes : List Node) (posts : List Post) (p : ℕ) → ((x : Post) → (f x).node ≡ x.node) → ((x : Post) → (f x).front ≡ x.front) → ((x : Post) → is_live (f x) ≡ is_live x) → AreFronts nodes posts → AreFronts nodes (changed f posts p)
fronts_filled f nodes posts p node front live h = record {
  rise = rise_kept nodes posts (changed f posts p) like h;
  ended = ended;
  last = last_kept nodes posts (changed f posts p) like h;
}
  where
    like : ArePostsOf posts (changed f posts p)
    like = of_changed f posts p node front (λ x e. sym (live x) ∙ e)

    ended : (i : ℕ) (y : Post) (z : Node) → IsAt (changed f posts p) i y → is_live y ≡ false → IsAt nodes y.node z → is_open z ≡ true → y.front < z.after
    ended i y z is dead at stands = by (at_changed f posts p i y is)
      where
        by : ((x : Post) × (slice_get posts i ≡ Some x) × ((y ≡ x) ⊎ ((i ≡ p) × (y ≡ f x)))) → y.front < z.after
        by (x, at_x, inl e) = h.ended i y z (subst (λ (u : Post). IsAt posts i u) (sym e) at_x) dead at stands
        by (x, at_x, inr e) =
            let own : y.node ≡ x.node = ap (λ (u : Post). u.node) e.1 ∙ node x in
            let same : y.front ≡ x.front = ap (λ (u : Post). u.front) e.1 ∙ front x in
            let less : x.front < z.after = h.ended i x z at_x (sym (live x) ∙ ap is_live (sym e.1) ∙ dead) (subst (λ (n : ℕ). IsAt nodes n z) own at) stands in
            omega arith

-- ---- a cut ends a live post
fronts_freed : (number at p : ℕ) (nodes : List Node) (posts : List Post) (post : Post) → IsAt posts p post → is_live post ≡ true → post.front ≤ number → AreFronts nodes posts → AreFronts (changed (freed_by number) nodes post.node) (changed (ended_by at) posts p)
fronts_freed number at p nodes posts post is live most h = record {
  rise = rise_kept nodes posts later like h;
  ended = ended;
  last = last_kept nodes posts later like h;
}
  where
    later : List Post
    later = changed (ended_by at) posts p

    like : ArePostsOf posts later
    like = of_changed (ended_by at) posts p (λ x. refl) (λ x. refl) (still_dead at)

    -- a post of the same node was there no later, so its front is no greater
    before : (i : ℕ) (x : Post) → IsAt posts i x → x.node ≡ post.node → x.front ≤ post.front
    before i x at_x same = elim (cases_eq i p) [
      | inl e ↦
          let own : x ≡ post = at_one posts p x post (subst (λ (k : ℕ). IsAt posts k x) e at_x) is in
          let equal : x.front ≡ post.front = ap (λ (u : Post). u.front) own in
          omega arith
      | inr other ↦
          let no_later : i ≤ p = h.last p i post x is live at_x (sym same) in
          let less : x.front < post.front = h.rise i p x post at_x is (omega (arith, no_later, other)) same in
          omega arith
    ]

    ended : (i : ℕ) (y : Post) (z : Node) → IsAt later i y → is_live y ≡ false → IsAt (changed (freed_by number) nodes post.node) y.node z → is_open z ≡ true → y.front < z.after
    ended i y z at_y dead at_z stands = elim (cases_eq y.node post.node) [ inl e ↦ here e | inr other ↦ there other ]
      where
        x : (x : Post) × IsAt posts i x × (y.node ≡ x.node) × (y.front ≡ x.front) × (is_live y ≡ true → is_live x ≡ true)
        x = like i y at_y

        here : y.node ≡ post.node → y.front < z.after
        here e =
            let b : (n : Node) × (slice_get nodes post.node ≡ Some n) × (z ≡ freed_by number n) = before_changed (freed_by number) nodes post.node z (subst (λ (k : ℕ). IsAt (changed (freed_by number) nodes post.node) k z) e at_z) in
            let after : z.after ≡ suc number = ap (λ (n : Node). n.after) b.2 in
            let front : y.front ≡ x.0.front = x.3 in
            let less : x.0.front ≤ post.front = before i x.0 x.1 (sym x.2 ∙ e) in
            omega arith

        there : (y.node ≡ post.node → ⊥) → y.front < z.after
        there other =
            let not_p : i ≡ p → ⊥ = λ e. other (x.2 ∙ ap (λ (u : Post). u.node) (at_one posts p x.0 post (subst (λ (k : ℕ). IsAt posts k x.0) e x.1) is)) in
            let own : IsAt posts i y = sym (changed_there (ended_by at) posts p i not_p) ∙ at_y in
            h.ended i y z own dead (sym (changed_there (freed_by number) nodes post.node y.node other) ∙ at_z) stands

-- an entry after the one that ended a post changes no front
fronts_dead : (at p : ℕ) (nodes : List Node) (posts : List Post) (post : Post) → IsAt posts p post → is_live post ≡ false → AreFronts nodes posts → AreFronts nodes (changed (ended_by at) posts p)
fronts_dead at p nodes posts post is dead h = record {
  rise = rise_kept nodes posts later like h;
  ended = ended;
  last = last_kept nodes posts later like h;
}
  where
    later : List Post
    later = changed (ended_by at) posts p

    like : ArePostsOf posts later
    like = of_changed (ended_by at) posts p (λ x. refl) (λ x. refl) (still_dead at)

    ended : (i : ℕ) (y : Post) (z : Node) → IsAt later i y → is_live y ≡ false → IsAt nodes y.node z → is_open z ≡ true → y.front < z.after
    ended i y z at_y gone at_z stands = by (at_changed (ended_by at) posts p i y at_y)
      where
        by : ((x : Post) × (slice_get posts i ≡ Some x) × ((y ≡ x) ⊎ ((i ≡ p) × (y ≡ ended_by at x)))) → y.front < z.after
        by (x, at_x, inl e) = h.ended i y z (subst (λ (u : Post). IsAt posts i u) (sym e) at_x) gone at_z stands
        by (x, at_x, inr e) =
            let own : x ≡ post = at_one posts p x post (subst (λ (k : ℕ). IsAt posts k x) e.0 at_x) is in
            let node : y.node ≡ x.node = ap (λ (u : Post). u.node) e.1 in
            let front : y.front ≡ x.front = ap (λ (u : Post). u.front) e.1 in
            let less : x.front < z.after = h.ended i x z at_x (ap is_live own ∙ dead) (subst (λ (n : ℕ). IsAt nodes n z) node at_z) stands in
            omega arith

fronts_cut : (number at p : ℕ) (nodes : List Node) (posts : List Post) (post : Post) → IsAt posts p post → (is_live post ≡ true → post.front ≤ number) → AreFronts nodes posts → AreFronts (freed_where_live (slice_get posts p) number nodes) (changed (ended_by at) posts p)
fronts_cut number at p nodes posts post is most h = subst (λ (o : Option Post). AreFronts (freed_where_live o number nodes) (changed (ended_by at) posts p)) (sym is) (by (is_live post) refl)
  where
    by : (b : Bool) → is_live post ≡ b → AreFronts (cond b (changed (freed_by number) nodes post.node) nodes) (changed (ended_by at) posts p)
    by true live = fronts_freed number at p nodes posts post is live (most live) h
    by false dead = fronts_dead at p nodes posts post is dead h

-- ---- a new post
least_after : (d : Decomposition) (way : Mode) (node : Node) → node.after ≤ least_front d way node
least_after d mode.Cost node = le_trans (le-max_right node.opened node.after) (le-max_left (max node.opened node.after) (blocks_of d.part))
least_after d mode.Point node = le-max_right node.opened node.after

fronts_posted : (d : Decomposition) (t : State) (number front : ℕ) (point : Master) (leaf : Option Leaf) → IsPostStep d t number front point leaf → AreLives t.nodes t.posts → AreFronts t.nodes t.posts
    → AreFronts (changed (posted_by (length t.posts)) t.nodes number) (t.posts ++ posted_point d t.entries number front point leaf ∷ [])
fronts_posted d t number front point leaf may lives h = record { rise = rise; ended = ended; last = last }
  where
    new : Post
    new = posted_point d t.entries number front point leaf

    later : List Post
    later = t.posts ++ new ∷ []

    -- no post of the node is live
    dead : (i : ℕ) (a : Post) → IsAt t.posts i a → a.node ≡ number → is_live a ≡ true → ⊥
    dead i a at_a same live =
        let q : HasLivePost t.nodes a.node i = lives.of_post i a at_a live in
        none_some i (sym may.waits.unposted ∙ ap (λ (x : Node). x.live) (at_one t.nodes number may.node q.node may.waits.is_node (subst (λ (k : ℕ). IsAt t.nodes k q.node) same q.is_node)) ∙ q.live)

    below_new : (i : ℕ) (a : Post) → IsAt t.posts i a → a.node ≡ number → a.front < front
    below_new i a at_a same = by (is_live a) refl
      where
        by : (b : Bool) → is_live a ≡ b → a.front < front
        by true live = absurd (dead i a at_a same live)
        by false gone =
            let less : a.front < may.node.after = h.ended i a may.node at_a gone (subst (λ (k : ℕ). IsAt t.nodes k may.node) (sym same) may.waits.is_node) may.waits.stands_open in
            let least : may.node.after ≤ least_front d (mode_of t) may.node = least_after d (mode_of t) may.node in
            let most : least_front d (mode_of t) may.node ≤ front = may.front_is.at_least in
            omega arith

    rise : (i j : ℕ) (a b : Post) → IsAt later i a → IsAt later j b → i < j → a.node ≡ b.node → a.front < b.front
    rise i j a b at_a at_b below same = by (at_more t.posts new i a at_a) (at_more t.posts new j b at_b)
      where
        by : (slice_get t.posts i ≡ Some a) ⊎ ((new ≡ a) × (i ≡ length t.posts)) → (slice_get t.posts j ≡ Some b) ⊎ ((new ≡ b) × (j ≡ length t.posts)) → a.front < b.front
        by (inl g) (inl k) = h.rise i j a b g k below same
        by (inl g) (inr k) = subst (λ (u : Post). a.front < u.front) k.0 (below_new i a g (same ∙ ap (λ (u : Post). u.node) (sym k.0)))
        by (inr g) (inl k) =
            let inside : j < length t.posts = slice_get_within t.posts j b k in
            let end : i ≡ length t.posts = g.1 in
            absurd (omega arith)
        by (inr g) (inr k) =
            let end : i ≡ length t.posts = g.1 in
            let end_too : j ≡ length t.posts = k.1 in
            absurd (omega arith)

    ended : (i : ℕ) (y : Post) (z : Node) → IsAt later i y → is_live y ≡ false → IsAt (changed (posted_by (length t.posts)) t.nodes number) y.node z → is_open z ≡ true → y.front < z.after
    ended i y z at_y gone at_z stands = by (at_more t.posts new i y at_y) (at_changed (posted_by (length t.posts)) t.nodes number y.node z at_z)
      where
        by : (slice_get t.posts i ≡ Some y) ⊎ ((new ≡ y) × (i ≡ length t.posts)) → ((x : Node) × (slice_get t.nodes y.node ≡ Some x) × ((z ≡ x) ⊎ ((y.node ≡ number) × (z ≡ posted_by (length t.posts) x)))) → y.front < z.after
        by (inl g) (x, at_x, inl e) = h.ended i y z g gone (subst (λ (u : Node). IsAt t.nodes y.node u) (sym e) at_x) stands
        by (inl g) (x, at_x, inr e) =
            let after : z.after ≡ x.after = ap (λ (u : Node). u.after) e.1 in
            let less : y.front < x.after = h.ended i y x g gone at_x (ap is_open (sym e.1) ∙ stands) in
            omega arith
        by (inr g) x = absurd (false_true (sym gone ∙ ap is_live (sym g.0)))

    last : (i j : ℕ) (a b : Post) → IsAt later i a → is_live a ≡ true → IsAt later j b → a.node ≡ b.node → j ≤ i
    last i j a b at_a live at_b same = by (at_more t.posts new i a at_a) (at_more t.posts new j b at_b)
      where
        by : (slice_get t.posts i ≡ Some a) ⊎ ((new ≡ a) × (i ≡ length t.posts)) → (slice_get t.posts j ≡ Some b) ⊎ ((new ≡ b) × (j ≡ length t.posts)) → j ≤ i
        by (inl g) (inl k) = h.last i j a b g live k same
        by (inl g) (inr k) = absurd (dead i a g (same ∙ ap (λ (u : Post). u.node) (sym k.0)) live)
        by (inr g) (inl k) =
            let inside : j < length t.posts = slice_get_within t.posts j b k in
            let end : i ≡ length t.posts = g.1 in
            omega arith
        by (inr g) (inr k) =
            let end : i ≡ length t.posts = g.1 in
            let end_too : j ≡ length t.posts = k.1 in
            omega arith

-- ---- a node is closed
-- a post stays as it is, or it is the one that is ended
ended_of : (at : ℕ) (posts : List Post) (o : Option ℕ) (i : ℕ) (y : Post) → IsAt (changed_at (ended_by at) posts o) i y → (x : Post) × IsAt posts i x × ((y ≡ x) ⊎ (o ≡ Some i))
ended_of at posts None i y is = (y, is, inl refl)
ended_of at posts (Some p) i y is = by (at_changed (ended_by at) posts p i y is)
  where
    by : ((x : Post) × (slice_get posts i ≡ Some x) × ((y ≡ x) ⊎ ((i ≡ p) × (y ≡ ended_by at x)))) → (x : Post) × IsAt posts i x × ((y ≡ x) ⊎ (Some p ≡ Some i))
    by (x, at_x, inl e) = (x, at_x, inl e)
    by (x, at_x, inr e) = (x, at_x, inr (ap Some (sym e.0)))

fronts_closed : (d : Decomposition) (t : State) (number : ℕ) (w : How) → IsClosing d t number w → ArePosts d t → AreLives t.nodes t.posts → AreFronts t.nodes t.posts
    → AreFronts (changed (closed_by w t.entries (length t.nodes)) t.nodes number ++ sides_opened d (length t.cuts) w (slice_get t.nodes number)) (changed_at (ended_by t.entries) t.posts (live_of (slice_get t.nodes number)))
fronts_closed d t number w may posts lives h = record {
  rise = rise_kept t.nodes t.posts later like h;
  ended = ended;
  last = last_kept t.nodes t.posts later like h;
}
  where
    f : Node → Node
    f = closed_by w t.entries (length t.nodes)

    sides : List Node
    sides = sides_opened d (length t.cuts) w (slice_get t.nodes number)

    later : List Post
    later = changed_at (ended_by t.entries) t.posts (live_of (slice_get t.nodes number))

    like : ArePostsOf t.posts later
    like = of_ended t.entries t.posts (live_of (slice_get t.nodes number))

    -- of a node that stays open nothing ends
    ended : (i : ℕ) (y : Post) (z : Node) → IsAt later i y → is_live y ≡ false → IsAt (changed f t.nodes number ++ sides) y.node z → is_open z ≡ true → y.front < z.after
    ended i y z at_y gone at_z stands = by (at_either (changed f t.nodes number) sides y.node z at_z)
      where
        x : (x : Post) × IsAt t.posts i x × (y.node ≡ x.node) × (y.front ≡ x.front) × (is_live y ≡ true → is_live x ≡ true)
        x = like i y at_y

        -- the node is not the closed one
        other : slice_get (changed f t.nodes number) y.node ≡ Some z → y.node ≡ number → ⊥
        other is e =
            let b : (n : Node) × (slice_get t.nodes number ≡ Some n) × (z ≡ f n) = before_changed f t.nodes number z (subst (λ (k : ℕ). slice_get (changed f t.nodes number) k ≡ Some z) e is) in
            false_true (ap is_open (sym b.2) ∙ stands)

        by : (slice_get (changed f t.nodes number) y.node ≡ Some z) ⊎ ((j : ℕ) × (y.node ≡ length (changed f t.nodes number) + j) × (slice_get sides j ≡ Some z)) → y.front < z.after
        by (inl is) =
            let node : IsAt t.nodes x.0.node z = subst (λ (k : ℕ). IsAt t.nodes k z) x.2 (sym (changed_there f t.nodes number y.node (other is)) ∙ is) in
            let front : y.front ≡ x.0.front = x.3 in
            let less : x.0.front < z.after = h.ended i x.0 z x.1 (dead is) node stands in
            omega arith
          where
            -- the post was dead before, or it was the live one of the closed node
            dead : slice_get (changed f t.nodes number) y.node ≡ Some z → is_live x.0 ≡ false
            dead is = from (ended_of t.entries t.posts (live_of (slice_get t.nodes number)) i y at_y)
              where
                from : ((u : Post) × IsAt t.posts i u × ((y ≡ u) ⊎ (live_of (slice_get t.nodes number) ≡ Some i))) → is_live x.0 ≡ false
                from (u, at_u, inl e) = ap is_live (at_one t.posts i x.0 u x.1 at_u) ∙ ap is_live (sym e) ∙ gone
                from (u, at_u, inr e) =
                    let c : (n : Node) × IsAt t.nodes number n = closing_node d t number w may in
                    let own : c.0.live ≡ Some i = ap live_of (sym c.1) ∙ e in
                    let q : IsLivePostOf t.posts i number = lives.of_node number i c.0 c.1 own in
                    absurd (other is (x.2 ∙ ap (λ (v : Post). v.node) (at_one t.posts i x.0 q.post x.1 q.is_post) ∙ q.of_node))
        by (inr (j, place, is)) =
            let there : x.0.node < length t.nodes = slice_get_within t.nodes x.0.node (posts i x.0 x.1).node (posts i x.0 x.1).is_node in
            let count : length (changed f t.nodes number) ≡ length t.nodes = length-changed f t.nodes number in
            let own : y.node ≡ x.0.node = x.2 in
            absurd (omega arith)

-- ---- each event
front_step : (d : Decomposition) (budget : ℕ) (t : State) (e : Event) → MayFollow d budget t e → ArePosts d t → AreLives t.nodes t.posts → AreFronts t.nodes t.posts → AreFronts (effect d t e).nodes (effect d t e).posts
front_step d budget t (event.Floor block basis cut) may posts lives h = h
front_step d budget t (event.Ray block direction) may posts lives h = h
front_step d budget t (event.Post node front point leaf) may posts lives h = fronts_posted d t node front point leaf may lives h
front_step d budget t (event.Append post basis cut) may posts lives h = fronts_cut (length t.cuts) t.entries post t.nodes t.posts may.post may.is_post (λ live. (posts post may.post may.is_post).front) h
front_step d budget t (event.Again post basis place) may posts lives h = fronts_cut place t.entries post t.nodes t.posts may.post may.is_post (λ live. may.after) h
front_step d budget t (event.Fill post block y) may posts lives h = fronts_filled (filled_by t.entries block y) t.nodes t.posts post (λ x. refl) (λ x. refl) (λ x. refl) h
front_step d budget t (event.Incumbent post) may posts lives h = h
front_step d budget t (event.Close number w) may posts lives h = fronts_closed d t number w may.closing posts lives h
front_step d budget t (event.Stop reason) may posts lives h = h

pub fronts_rise : FrontsRise
fronts_rise d budget root es t r = histories_grow d budget root (λ es u. AreFronts u.nodes u.posts)
    (record { rise = λ i j a b at_a at_b below same. absurd (cc); ended = λ i y z at_y dead at_z stands. absurd (cc); last = λ i j a b at_a live at_b same. absurd (cc) })
    (λ before u x replayed step old. front_step d budget u x.event step.may (posts_are_right d budget root before u replayed) (lives_are_right d budget root before u replayed) old) es t r
