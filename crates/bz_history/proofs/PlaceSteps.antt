-- The places of the history after each event.
use Rattle.std.proofs.Common.{◌≡◌, refl, sym, ◌∙◌, ap, subst, ℕ, zero, suc, ◌+◌, ◌-◌, ◌<◌, List, [], ◌∷◌, ◌++◌, length, inl, inr, arith}
use Rattle.std.proofs.lemmas.List.{length-append}
use Rattle.std.specs.Prelude.{◌⊎◌, Option, Some, None}
use Rattle.std.specs.List.{slice_get}
use Rattle.bz_model.specs.declared.BlockPart.{BlockPart}
use Rattle.bz_model.specs.declared.Master.{Master}
use Rattle.bz_model.specs.Parting.{blocks_of}
use Rattle.bz_model.specs.Splits.{Decomposition}
use Rattle.bz_tree.specs.declared.Leaf.{Leaf}
use Rattle.bz_event.specs.declared.events.Entry.{Entry}
use Rattle.bz_event.specs.declared.events.Event.{Event}
use Rattle.bz_event.specs.declared.events.Event.TheVariants as event
use Rattle.bz_event.specs.declared.events.How.{How}
use Rattle.bz_history.specs.declared.state.Closing.{Closing}
use Rattle.bz_history.specs.declared.state.FallingRay.{FallingRay}
use Rattle.bz_history.specs.declared.state.Filled.{Filled}
use Rattle.bz_history.specs.declared.state.Node.{Node}
use Rattle.bz_history.specs.declared.state.Post.{Post}
use Rattle.bz_history.specs.Lives.{AreLives, IsLivePostOf}
use Rattle.bz_history.specs.Places.{ArePlaces, Ends, HasEvent, IsFloorOf, PlacesAreRight}
use Rattle.bz_history.specs.States.{State, changed, changed_at, closed_by, effect, end_of, ended_by, filled_by, live_of, opening, posted_by, posted_point, side, sides_opened}
use Rattle.bz_history.specs.Steps.{IsAt, MayFollow}
use Rattle.bz_history.proofs.FirstEnds.{AreFirstEnds, first_ends}
use Rattle.bz_history.proofs.Growing.{histories_grow, step_more}
use Rattle.bz_history.proofs.LeafSteps.{fresh_open}
use Rattle.bz_history.proofs.Lists.{at_changed, at_either, at_end, at_kept, at_more, at_one}
use Rattle.bz_history.proofs.LiveSteps.{closing_node, lives_are_right, none_some}
use Rattle.bz_history.proofs.PostSteps.{at_set, nothing_filled}
use Rattle.bz_history.proofs.TreeSteps.{AreSteady, steady_changed, steady_freed, steady_same}

-- ---- entries that stay
event_kept : (es more : List Entry) (at : ℕ) (Is : Event → Type 0) → HasEvent es at Is → HasEvent (es ++ more) at Is
event_kept es more at Is h = record { entry = h.entry; is_entry = at_kept es more at h.entry h.is_entry; is_event = h.is_event }

-- the new entry stands at the place after all others
event_new : (es : List Entry) (x : Entry) (at : ℕ) (Is : Event → Type 0) → at ≡ length es → Is x.event → HasEvent (es ++ x ∷ []) at Is
event_new es x at Is place is = record { entry = x; is_entry = subst (λ (k : ℕ). IsAt (es ++ x ∷ []) k x) (sym place) (at_end es x); is_event = is }

-- ---- what posts keep
-- the places of posts
record ArePostPlaces (es : List Entry) (posts : List Post) : Type 0 where
  posted : (i : ℕ) (p : Post) → IsAt posts i p → HasEvent es p.at (λ e. e ≡ event.Post p.node p.front p.point p.leaf)
  ended : (i at : ℕ) (p : Post) → IsAt posts i p → p.ended ≡ Some at → HasEvent es at (Ends i p.node)
  fills : (i b : ℕ) (p : Post) (f : Filled) → IsAt posts i p → slice_get p.fills b ≡ Some (Some f) → HasEvent es f.at (λ e. e ≡ event.Fill i (suc b) f.y)

post_places : (es : List Entry) (t : State) → ArePlaces es t → ArePostPlaces es t.posts
post_places es t h = record { posted = h.posts; ended = h.ended; fills = h.fills }

posts_kept : (es : List Entry) (x : Entry) (posts : List Post) → ArePostPlaces es posts → ArePostPlaces (es ++ x ∷ []) posts
posts_kept es x posts h = record {
  posted = λ i p is. event_kept es (x ∷ []) p.at _ (h.posted i p is);
  ended = λ i at p is e. event_kept es (x ∷ []) at _ (h.ended i at p is e);
  fills = λ i b p f is e. event_kept es (x ∷ []) f.at _ (h.fills i b p f is e);
}

some_at : (a b : ℕ) → Some a ≡ Some b → a ≡ b
some_at a b e = cc

-- the post with this number is ended by the new entry, which names it
posts_ended : (es : List Entry) (x : Entry) (at p : ℕ) (posts : List Post) → at ≡ length es → ((y : Post) → IsAt posts p y → Ends p y.node x.event) → ArePostPlaces es posts → ArePostPlaces (es ++ x ∷ []) (changed (ended_by at) posts p)
posts_ended es x at p posts place names h = record { posted = posted; ended = ended; fills = fills }
  where
    k : ArePostPlaces (es ++ x ∷ []) posts
    k = posts_kept es x posts h

    was : (i : ℕ) (y : Post) → IsAt (changed (ended_by at) posts p) i y → (u : Post) × IsAt posts i u × ((y ≡ u) ⊎ ((i ≡ p) × (y ≡ ended_by at u)))
    was i y is = at_changed (ended_by at) posts p i y is

    posted : (i : ℕ) (y : Post) → IsAt (changed (ended_by at) posts p) i y → HasEvent (es ++ x ∷ []) y.at (λ e. e ≡ event.Post y.node y.front y.point y.leaf)
    posted i y is = by (was i y is)
      where
        by : ((u : Post) × IsAt posts i u × ((y ≡ u) ⊎ ((i ≡ p) × (y ≡ ended_by at u)))) → HasEvent (es ++ x ∷ []) y.at (λ e. e ≡ event.Post y.node y.front y.point y.leaf)
        by (u, at_u, inl e) = subst (λ (v : Post). HasEvent (es ++ x ∷ []) v.at (λ e. e ≡ event.Post v.node v.front v.point v.leaf)) (sym e) (k.posted i u at_u)
        by (u, at_u, inr e) = subst (λ (v : Post). HasEvent (es ++ x ∷ []) v.at (λ e. e ≡ event.Post v.node v.front v.point v.leaf)) (sym e.1) (k.posted i u at_u)

    ended : (i place_of : ℕ) (y : Post) → IsAt (changed (ended_by at) posts p) i y → y.ended ≡ Some place_of → HasEvent (es ++ x ∷ []) place_of (Ends i y.node)
    ended i place_of y is gone = by (was i y is)
      where
        by : ((u : Post) × IsAt posts i u × ((y ≡ u) ⊎ ((i ≡ p) × (y ≡ ended_by at u)))) → HasEvent (es ++ x ∷ []) place_of (Ends i y.node)
        by (u, at_u, inl e) = k.ended i place_of y (subst (λ (v : Post). IsAt posts i v) (sym e) at_u) gone
        by (u, at_u, inr e) = subst (λ (v : Post). HasEvent (es ++ x ∷ []) place_of (Ends i v.node)) (sym e.1) (which u.ended refl)
          where
            own : end_of at u.ended ≡ Some place_of
            own = ap (λ (v : Post). v.ended) (sym e.1) ∙ gone

            which : (o : Option ℕ) → u.ended ≡ o → HasEvent (es ++ x ∷ []) place_of (Ends i u.node)
            which None none =
                let same : at ≡ place_of = some_at at place_of (ap (end_of at) (sym none) ∙ own) in
                event_new es x place_of (Ends i u.node) (sym same ∙ place) (subst (λ (j : ℕ). Ends j u.node x.event) (sym e.0) (names u (subst (λ (j : ℕ). IsAt posts j u) e.0 at_u)))
            which (Some before) there = k.ended i place_of u at_u (there ∙ ap (end_of at) (sym there) ∙ own)

    fills : (i b : ℕ) (y : Post) (f : Filled) → IsAt (changed (ended_by at) posts p) i y → slice_get y.fills b ≡ Some (Some f) → HasEvent (es ++ x ∷ []) f.at (λ e. e ≡ event.Fill i (suc b) f.y)
    fills i b y f is filled = by (was i y is)
      where
        by : ((u : Post) × IsAt posts i u × ((y ≡ u) ⊎ ((i ≡ p) × (y ≡ ended_by at u)))) → HasEvent (es ++ x ∷ []) f.at (λ e. e ≡ event.Fill i (suc b) f.y)
        by (u, at_u, inl e) = k.fills i b u f at_u (ap (λ (v : Post). slice_get v.fills b) (sym e) ∙ filled)
        by (u, at_u, inr e) = k.fills i b u f at_u (ap (λ (v : Post). slice_get v.fills b) (sym e.1) ∙ filled)

-- a post with the completion of a block
posts_filled : (es : List Entry) (x : Entry) (at number block : ℕ) (y : BlockPart) (posts : List Post) → at ≡ length es → 0 < block → x.event ≡ event.Fill number block y → ArePostPlaces es posts → ArePostPlaces (es ++ x ∷ []) (changed (filled_by at block y) posts number)
posts_filled es x at number block y posts place first is_fill h = record { posted = posted; ended = ended; fills = fills }
  where
    k : ArePostPlaces (es ++ x ∷ []) posts
    k = posts_kept es x posts h

    was : (i : ℕ) (z : Post) → IsAt (changed (filled_by at block y) posts number) i z → (u : Post) × IsAt posts i u × ((z ≡ u) ⊎ ((i ≡ number) × (z ≡ filled_by at block y u)))
    was i z is = at_changed (filled_by at block y) posts number i z is

    posted : (i : ℕ) (z : Post) → IsAt (changed (filled_by at block y) posts number) i z → HasEvent (es ++ x ∷ []) z.at (λ e. e ≡ event.Post z.node z.front z.point z.leaf)
    posted i z is = by (was i z is)
      where
        by : ((u : Post) × IsAt posts i u × ((z ≡ u) ⊎ ((i ≡ number) × (z ≡ filled_by at block y u)))) → HasEvent (es ++ x ∷ []) z.at (λ e. e ≡ event.Post z.node z.front z.point z.leaf)
        by (u, at_u, inl e) = subst (λ (v : Post). HasEvent (es ++ x ∷ []) v.at (λ e. e ≡ event.Post v.node v.front v.point v.leaf)) (sym e) (k.posted i u at_u)
        by (u, at_u, inr e) = subst (λ (v : Post). HasEvent (es ++ x ∷ []) v.at (λ e. e ≡ event.Post v.node v.front v.point v.leaf)) (sym e.1) (k.posted i u at_u)

    ended : (i place_of : ℕ) (z : Post) → IsAt (changed (filled_by at block y) posts number) i z → z.ended ≡ Some place_of → HasEvent (es ++ x ∷ []) place_of (Ends i z.node)
    ended i place_of z is gone = by (was i z is)
      where
        by : ((u : Post) × IsAt posts i u × ((z ≡ u) ⊎ ((i ≡ number) × (z ≡ filled_by at block y u)))) → HasEvent (es ++ x ∷ []) place_of (Ends i z.node)
        by (u, at_u, inl e) = k.ended i place_of z (subst (λ (v : Post). IsAt posts i v) (sym e) at_u) gone
        by (u, at_u, inr e) = subst (λ (v : Post). HasEvent (es ++ x ∷ []) place_of (Ends i v.node)) (sym e.1) (k.ended i place_of u at_u (ap (λ (v : Post). v.ended) (sym e.1) ∙ gone))

    fills : (i b : ℕ) (z : Post) (f : Filled) → IsAt (changed (filled_by at block y) posts number) i z → slice_get z.fills b ≡ Some (Some f) → HasEvent (es ++ x ∷ []) f.at (λ e. e ≡ event.Fill i (suc b) f.y)
    fills i b z f is filled = by (was i z is)
      where
        by : ((u : Post) × IsAt posts i u × ((z ≡ u) ⊎ ((i ≡ number) × (z ≡ filled_by at block y u)))) → HasEvent (es ++ x ∷ []) f.at (λ e. e ≡ event.Fill i (suc b) f.y)
        by (u, at_u, inl e) = k.fills i b u f at_u (ap (λ (v : Post). slice_get v.fills b) (sym e) ∙ filled)
        by (u, at_u, inr e) = which (at_set u.fills (block - 1) b (Some (record { y = y; at = at })) (Some f) (ap (λ (v : Post). slice_get v.fills b) (sym e.1) ∙ filled))
          where
            which : (slice_get u.fills b ≡ Some (Some f)) ⊎ ((b ≡ block - 1) × (Some (record { y = y; at = at }) ≡ Some f)) → HasEvent (es ++ x ∷ []) f.at (λ e. e ≡ event.Fill i (suc b) f.y)
            which (inl g) = k.fills i b u f at_u g
            which (inr g) =
                let index : b ≡ block - 1 = g.0 in
                let own_block : block ≡ suc b = omega arith in
                let own : record { y = y; at = at } ≡ f = cc in
                subst (λ (v : Filled). HasEvent (es ++ x ∷ []) v.at (λ e. e ≡ event.Fill i (suc b) v.y)) own
                (event_new es x at _ place (is_fill ∙ ap (λ (n : ℕ). event.Fill number n y) own_block ∙ ap (λ (n : ℕ). event.Fill n (suc b) y) (sym e.0)))

-- a new post
posts_posted : (d : Decomposition) (es : List Entry) (x : Entry) (at number front : ℕ) (point : Master) (leaf : Option Leaf) (posts : List Post) → at ≡ length es → x.event ≡ event.Post number front point leaf → ArePostPlaces es posts → ArePostPlaces (es ++ x ∷ []) (posts ++ posted_point d at number front point leaf ∷ [])
posts_posted d es x at number front point leaf posts place is_post h = record { posted = posted; ended = ended; fills = fills }
  where
    new : Post
    new = posted_point d at number front point leaf

    k : ArePostPlaces (es ++ x ∷ []) posts
    k = posts_kept es x posts h

    posted : (i : ℕ) (p : Post) → IsAt (posts ++ new ∷ []) i p → HasEvent (es ++ x ∷ []) p.at (λ e. e ≡ event.Post p.node p.front p.point p.leaf)
    posted i p is = by (at_more posts new i p is)
      where
        by : (slice_get posts i ≡ Some p) ⊎ ((new ≡ p) × (i ≡ length posts)) → HasEvent (es ++ x ∷ []) p.at (λ e. e ≡ event.Post p.node p.front p.point p.leaf)
        by (inl g) = k.posted i p g
        by (inr g) = subst (λ (v : Post). HasEvent (es ++ x ∷ []) v.at (λ e. e ≡ event.Post v.node v.front v.point v.leaf)) g.0 (event_new es x at _ place is_post)

    ended : (i place_of : ℕ) (p : Post) → IsAt (posts ++ new ∷ []) i p → p.ended ≡ Some place_of → HasEvent (es ++ x ∷ []) place_of (Ends i p.node)
    ended i place_of p is gone = by (at_more posts new i p is)
      where
        by : (slice_get posts i ≡ Some p) ⊎ ((new ≡ p) × (i ≡ length posts)) → HasEvent (es ++ x ∷ []) place_of (Ends i p.node)
        by (inl g) = k.ended i place_of p g gone
        by (inr g) = absurd (none_some place_of (ap (λ (v : Post). v.ended) g.0 ∙ gone))

    fills : (i b : ℕ) (p : Post) (f : Filled) → IsAt (posts ++ new ∷ []) i p → slice_get p.fills b ≡ Some (Some f) → HasEvent (es ++ x ∷ []) f.at (λ e. e ≡ event.Fill i (suc b) f.y)
    fills i b p f is filled = by (at_more posts new i p is)
      where
        by : (slice_get posts i ≡ Some p) ⊎ ((new ≡ p) × (i ≡ length posts)) → HasEvent (es ++ x ∷ []) f.at (λ e. e ≡ event.Fill i (suc b) f.y)
        by (inl g) = k.fills i b p f g filled
        by (inr g) = absurd (nothing_filled (blocks_of d.part) b f (ap (λ (v : Post). slice_get v.fills b) g.0 ∙ filled))

-- ---- nodes
abbrev AreClosings : List Entry → List Node → Type 0
AreClosings es nodes = (n : ℕ) (x : Node) (c : Closing) → IsAt nodes n x → x.closing ≡ Some c → HasEvent es c.at (λ e. e ≡ event.Close n c.how)

closings_steady : (es : List Entry) (x : Entry) (nodes later : List Node) → AreSteady nodes later → AreClosings es nodes → AreClosings (es ++ x ∷ []) later
closings_steady es x nodes later steady h n z c is closed =
    let s : (u : Node) × IsAt nodes n u × (z.region ≡ u.region) × (z.closing ≡ u.closing) = steady n z is in
    event_kept es (x ∷ []) c.at _ (h n s.0 c s.1 (sym s.3 ∙ closed))

closings_closed : (d : Decomposition) (es : List Entry) (x : Entry) (t : State) (number : ℕ) (w : How) → t.entries ≡ length es → x.event ≡ event.Close number w → AreClosings es t.nodes
    → AreClosings (es ++ x ∷ []) (changed (closed_by w t.entries (length t.nodes)) t.nodes number ++ sides_opened d (length t.cuts) w (slice_get t.nodes number))
closings_closed d es x t number w place is_close h n z c is closed = by (at_either (changed f t.nodes number) sides n z is)
  where
    f : Node → Node
    f = closed_by w t.entries (length t.nodes)

    sides : List Node
    sides = sides_opened d (length t.cuts) w (slice_get t.nodes number)

    here : ((u : Node) × (slice_get t.nodes n ≡ Some u) × ((z ≡ u) ⊎ ((n ≡ number) × (z ≡ f u)))) → HasEvent (es ++ x ∷ []) c.at (λ e. e ≡ event.Close n c.how)
    here (u, at_u, inl e) = event_kept es (x ∷ []) c.at _ (h n u c at_u (ap (λ (v : Node). v.closing) (sym e) ∙ closed))
    here (u, at_u, inr e) =
        let ends : Some (record { how = w; at = t.entries; kids = length t.nodes }) ≡ Some c = ap (λ (v : Node). v.closing) (sym e.1) ∙ closed in
        let own : record { how = w; at = t.entries; kids = length t.nodes } ≡ c = cc in
        subst (λ (k : Closing). HasEvent (es ++ x ∷ []) k.at (λ e. e ≡ event.Close n k.how)) own
        (event_new es x t.entries _ place (is_close ∙ ap (λ (k : ℕ). event.Close k w) (sym e.0)))

    by : (slice_get (changed f t.nodes number) n ≡ Some z) ⊎ ((j : ℕ) × (n ≡ length (changed f t.nodes number) + j) × (slice_get sides j ≡ Some z)) → HasEvent (es ++ x ∷ []) c.at (λ e. e ≡ event.Close n c.how)
    by (inl g) = here (at_changed f t.nodes number n z g)
    by (inr (j, there, g)) =
        let none : z.closing ≡ None = fresh_open d (length t.cuts) w (slice_get t.nodes number) j z g in
        let both : None ≡ Some c = sym none ∙ closed in
        absurd (cc)

-- ---- all together
placed_with : (es : List Entry) (x : Entry) (t u : State) → u.entries ≡ suc t.entries → u.floors ≡ t.floors → u.ray ≡ t.ray → ArePostPlaces (es ++ x ∷ []) u.posts → AreClosings (es ++ x ∷ []) u.nodes → AreFirstEnds (es ++ x ∷ []) u.nodes u.posts → ArePlaces es t → ArePlaces (es ++ x ∷ []) u
placed_with es x t u entries floors ray posts closings f h =
    let more : length (es ++ x ∷ []) ≡ length es + 1 = length-append es (x ∷ []) in
    let old : t.entries ≡ length es = h.entries in
    record {
      entries = omega arith;
      floors = λ k at is. event_kept es (x ∷ []) at _ (h.floors k at (subst (λ (xs : List ℕ). IsAt xs k at) floors is));
      ray = λ r is. event_kept es (x ∷ []) r.at _ (h.ray r (sym ray ∙ is));
      posts = posts.posted;
      ended = posts.ended;
      first = λ i at p is e k below ends. f.first i at k p ends.entry is e below ends.is_entry ends.is_event;
      unended = λ i p is live k ends. f.live i k p ends.entry is live ends.is_entry ends.is_event;
      fills = posts.fills;
      closings = closings;
    }

close_names : (d : Decomposition) (t : State) (number p : ℕ) (w : How) (node : Node) → IsAt t.nodes number node → node.live ≡ Some p → AreLives t.nodes t.posts → (y : Post) → IsAt t.posts p y → Ends p y.node (event.Close number w)
close_names d t number p w node is live lives y at_y =
    let q : IsLivePostOf t.posts p number = lives.of_node number p node is live in
    sym (ap (λ (v : Post). v.node) (at_one t.posts p y q.post at_y q.is_post) ∙ q.of_node)

place_step : (d : Decomposition) (budget : ℕ) (es : List Entry) (t : State) (x : Entry) (e : Event) → x.event ≡ e → MayFollow d budget t e → AreLives t.nodes t.posts → AreFirstEnds (es ++ x ∷ []) (effect d t e).nodes (effect d t e).posts → ArePlaces es t → ArePlaces (es ++ x ∷ []) (effect d t e)
place_step d budget es t x (event.Floor block basis cut) is may lives f h =
    let more : length (es ++ x ∷ []) ≡ length es + 1 = length-append es (x ∷ []) in
    let old : t.entries ≡ length es = h.entries in
    let posts : ArePostPlaces (es ++ x ∷ []) t.posts = posts_kept es x t.posts (post_places es t h) in
    record {
      entries = omega arith;
      floors = λ k at at_k. floor k at (at_more t.floors t.entries k at at_k);
      ray = λ r is_r. event_kept es (x ∷ []) r.at _ (h.ray r is_r);
      posts = posts.posted;
      ended = posts.ended;
      first = λ i at p is e k below ends. f.first i at k p ends.entry is e below ends.is_entry ends.is_event;
      unended = λ i p is live k ends. f.live i k p ends.entry is live ends.is_entry ends.is_event;
      fills = posts.fills;
      closings = closings_steady es x t.nodes t.nodes (steady_same t.nodes) h.closings;
    }
  where
    floor : (k at : ℕ) → (slice_get t.floors k ≡ Some at) ⊎ ((t.entries ≡ at) × (k ≡ length t.floors)) → HasEvent (es ++ x ∷ []) at (IsFloorOf (suc k))
    floor k at (inl g) = event_kept es (x ∷ []) at _ (h.floors k at g)
    floor k at (inr g) = subst (λ (n : ℕ). HasEvent (es ++ x ∷ []) n (IsFloorOf (suc k))) g.0
        (event_new es x t.entries (IsFloorOf (suc k)) h.entries (subst (IsFloorOf (suc k)) (sym is) (may.next.next ∙ ap suc (sym g.1))))
place_step d budget es t x (event.Ray block direction) is may lives f h =
    let more : length (es ++ x ∷ []) ≡ length es + 1 = length-append es (x ∷ []) in
    let old : t.entries ≡ length es = h.entries in
    let posts : ArePostPlaces (es ++ x ∷ []) t.posts = posts_kept es x t.posts (post_places es t h) in
    record {
      entries = omega arith;
      floors = λ k at at_k. event_kept es (x ∷ []) at _ (h.floors k at at_k);
      ray = ray;
      posts = posts.posted;
      ended = posts.ended;
      first = λ i at p is e k below ends. f.first i at k p ends.entry is e below ends.is_entry ends.is_event;
      unended = λ i p is live k ends. f.live i k p ends.entry is live ends.is_entry ends.is_event;
      fills = posts.fills;
      closings = closings_steady es x t.nodes t.nodes (steady_same t.nodes) h.closings;
    }
  where
    ray : (r : FallingRay) → Some (record { block = block; d = direction; at = t.entries }) ≡ Some r → HasEvent (es ++ x ∷ []) r.at (λ e. e ≡ event.Ray r.block r.d)
    ray r is_r =
        let own : record { block = block; d = direction; at = t.entries } ≡ r = cc in
        subst (λ (v : FallingRay). HasEvent (es ++ x ∷ []) v.at (λ e. e ≡ event.Ray v.block v.d)) own (event_new es x t.entries _ h.entries is)
place_step d budget es t x (event.Post node front point leaf) is may lives f h = placed_with es x t (effect d t (event.Post node front point leaf)) refl refl refl
    (posts_posted d es x t.entries node front point leaf t.posts h.entries is (post_places es t h))
    (closings_steady es x t.nodes (changed (posted_by (length t.posts)) t.nodes node) (steady_changed (posted_by (length t.posts)) t.nodes node (λ y. refl) (λ y. refl)) h.closings) f h
place_step d budget es t x (event.Append post basis cut) is may lives f h = placed_with es x t (effect d t (event.Append post basis cut)) refl refl refl
    (posts_ended es x t.entries post t.posts h.entries (λ y at_y. subst (Ends post y.node) (sym is) refl) (post_places es t h))
    (closings_steady es x t.nodes _ (steady_freed (slice_get t.posts post) (length t.cuts) t.nodes) h.closings) f h
place_step d budget es t x (event.Again post basis place) is may lives f h = placed_with es x t (effect d t (event.Again post basis place)) refl refl refl
    (posts_ended es x t.entries post t.posts h.entries (λ y at_y. subst (Ends post y.node) (sym is) refl) (post_places es t h))
    (closings_steady es x t.nodes _ (steady_freed (slice_get t.posts post) place t.nodes) h.closings) f h
place_step d budget es t x (event.Fill post block y) is may lives f h = placed_with es x t (effect d t (event.Fill post block y)) refl refl refl
    (posts_filled es x t.entries post block y t.posts h.entries may.first is (post_places es t h))
    (closings_steady es x t.nodes t.nodes (steady_same t.nodes) h.closings) f h
place_step d budget es t x (event.Incumbent post) is may lives f h = placed_with es x t (effect d t (event.Incumbent post)) refl refl refl (posts_kept es x t.posts (post_places es t h)) (closings_steady es x t.nodes t.nodes (steady_same t.nodes) h.closings) f h
place_step d budget es t x (event.Close number w) is may lives f h = placed_with es x t (effect d t (event.Close number w)) refl refl refl posts
    (closings_closed d es x t number w h.entries is h.closings) f h
  where
    node : (n : Node) × IsAt t.nodes number n
    node = closing_node d t number w may.closing

    by : (o : Option ℕ) → node.0.live ≡ o → ArePostPlaces (es ++ x ∷ []) (changed_at (ended_by t.entries) t.posts node.0.live)
    by None e = subst (λ (o : Option ℕ). ArePostPlaces (es ++ x ∷ []) (changed_at (ended_by t.entries) t.posts o)) (sym e) (posts_kept es x t.posts (post_places es t h))
    by (Some p) e = subst (λ (o : Option ℕ). ArePostPlaces (es ++ x ∷ []) (changed_at (ended_by t.entries) t.posts o)) (sym e)
        (posts_ended es x t.entries p t.posts h.entries (λ y at_y. subst (Ends p y.node) (sym is) (close_names d t number p w node.0 node.1 e lives y at_y)) (post_places es t h))

    posts : ArePostPlaces (es ++ x ∷ []) (changed_at (ended_by t.entries) t.posts (live_of (slice_get t.nodes number)))
    posts = subst (λ (o : Option Node). ArePostPlaces (es ++ x ∷ []) (changed_at (ended_by t.entries) t.posts (live_of o))) (sym node.1) (by node.0.live refl)
place_step d budget es t x (event.Stop reason) is may lives f h = placed_with es x t (effect d t (event.Stop reason)) refl refl refl (posts_kept es x t.posts (post_places es t h)) (closings_steady es x t.nodes t.nodes (steady_same t.nodes) h.closings) f h

pub places_are_right : PlacesAreRight
places_are_right d budget root es t r = histories_grow d budget root ArePlaces begins
    (λ before u x replayed step old. place_step d budget before u x x.event refl step.may (lives_are_right d budget root before u replayed)
    (first_ends d budget root (before ++ x ∷ []) (effect d u x.event) (step_more d budget root before u x replayed step)) old) es t r
  where
    nothing_closed : (n : ℕ) (y : Node) (c : Closing) → slice_get (side 0 root ∷ []) n ≡ Some y → y.closing ≡ Some c → ⊥
    nothing_closed zero y c is closed =
        let same : side 0 root ≡ y = cc in
        let both : None ≡ Some c = ap (λ (u : Node). u.closing) same ∙ closed in
        absurd (cc)
    nothing_closed (suc n) y c is closed = absurd (cc)

    begins : ArePlaces [] (opening root)
    begins = record {
      entries = refl;
      floors = λ k at is. absurd (cc);
      ray = λ r is. absurd (cc);
      posts = λ i p is. absurd (cc);
      ended = λ i at p is e. absurd (cc);
      first = λ i at p is e k below ends. absurd (cc);
      unended = λ i p is live k ends. absurd (cc);
      fills = λ i b p f is e. absurd (cc);
      closings = λ n y c is closed. absurd (nothing_closed n y c is closed);
    }
