-- The entry that ended a post is the first that ends it.
use Rattle.std.proofs.Common.{◌≡◌, refl, sym, ◌∙◌, ap, subst, ℕ, ◌+◌, ◌<◌, ◌≤◌, List, [], ◌∷◌, ◌++◌, length, inl, inr, arith}
use Rattle.std.proofs.lemmas.Bool.{cases_eq}
use Rattle.std.proofs.lemmas.List.{length-append}
use Rattle.std.proofs.lemmas.Option.{slice_get_within}
use Rattle.std.specs.Prelude.{◌⊎◌, Option, Some, None, Bool, true, false, cond, is_none}
use Rattle.std.specs.List.{slice_get}
use Rattle.bz_model.specs.Splits.{Decomposition}
use Rattle.bz_event.specs.declared.events.Entry.{Entry}
use Rattle.bz_event.specs.declared.events.Event.{Event}
use Rattle.bz_event.specs.declared.events.Event.TheVariants as event
use Rattle.bz_event.specs.declared.events.How.{How}
use Rattle.bz_history.specs.declared.state.Node.{Node}
use Rattle.bz_history.specs.declared.state.Post.{Post}
use Rattle.bz_history.specs.declared.state.Region.{Region}
use Rattle.bz_history.specs.Histories.{IsReplay}
use Rattle.bz_history.specs.Lives.{AreLives, HasLivePost}
use Rattle.bz_history.specs.Places.{Ends}
use Rattle.bz_history.specs.States.{State, changed, changed_at, closed_by, effect, end_of, ended_by, filled_by, freed_by, freed_where_live, is_live, is_open, live_of, posted_by, posted_point, sides_opened}
use Rattle.bz_history.specs.Steps.{IsAt, IsClosing, IsPostStep, MayFollow}
use Rattle.bz_history.proofs.Growing.{histories_grow}
use Rattle.bz_history.proofs.Lists.{at_changed, at_kept, at_more, at_one, before_changed, changed_here, changed_item, changed_there, length-changed}
use Rattle.bz_history.proofs.LiveSteps.{closing_node, lives_are_right, none_some}
use Rattle.bz_history.proofs.SizeSteps.{sizes_are_right}

-- ---- the two kinds of ends
-- the event names the post as one that is cut off
abbrev Names : ℕ → Event → Type 0
Names post (event.Floor b basis cut) = ⊥
Names post (event.Ray b direction) = ⊥
Names post (event.Post n front point leaf) = ⊥
Names post (event.Append p basis cut) = p ≡ post
Names post (event.Again p basis place) = p ≡ post
Names post (event.Fill p b y) = ⊥
Names post (event.Incumbent p) = ⊥
Names post (event.Close n h) = ⊥
Names post (event.Stop reason) = ⊥

-- the event closes the node
abbrev Closes : ℕ → Event → Type 0
Closes node (event.Floor b basis cut) = ⊥
Closes node (event.Ray b direction) = ⊥
Closes node (event.Post n front point leaf) = ⊥
Closes node (event.Append p basis cut) = ⊥
Closes node (event.Again p basis place) = ⊥
Closes node (event.Fill p b y) = ⊥
Closes node (event.Incumbent p) = ⊥
Closes node (event.Close n h) = n ≡ node
Closes node (event.Stop reason) = ⊥

ends_by : (i n : ℕ) (e : Event) → Ends i n e → Names i e ⊎ Closes n e
ends_by i n (event.Floor b basis cut) h = absurd h
ends_by i n (event.Ray b direction) h = absurd h
ends_by i n (event.Post m front point leaf) h = absurd h
ends_by i n (event.Append p basis cut) h = inl h
ends_by i n (event.Again p basis place) h = inl h
ends_by i n (event.Fill p b y) h = absurd h
ends_by i n (event.Incumbent p) h = absurd h
ends_by i n (event.Close m w) h = inr h
ends_by i n (event.Stop reason) h = absurd h

-- ---- what stays true
-- no entry ends a post before the one that ended it, or a live post at all; only posts that are there are named, and what is
-- closed stays so
pub record AreFirstEnds (es : List Entry) (nodes : List Node) (posts : List Post) : Type 0 where
  before : (i at : ℕ) (p : Post) → IsAt posts i p → p.ended ≡ Some at → at < length es
  pub first : (i at k : ℕ) (p : Post) (e : Entry) → IsAt posts i p → p.ended ≡ Some at → k < at → IsAt es k e → Ends i p.node e.event → ⊥
  pub live : (i k : ℕ) (p : Post) (e : Entry) → IsAt posts i p → is_live p ≡ true → IsAt es k e → Ends i p.node e.event → ⊥
  named : (k i : ℕ) (e : Entry) → IsAt es k e → Names i e.event → i < length posts
  closed : (k n : ℕ) (e : Entry) → IsAt es k e → Closes n e.event → (y : Node) × IsAt nodes n y × (is_open y ≡ false)

-- a post that was there, and that the event doesn't end
record IsSpared (e : Event) (posts : List Post) (i : ℕ) (p : Post) : Type 0 where
  post : Post
  was : IsAt posts i post
  node : p.node ≡ post.node
  ended : p.ended ≡ post.ended
  spared : is_live post ≡ true → Ends i post.node e → ⊥

-- a post that was live, and that the next entry ends
record IsEndedNow (es : List Entry) (posts : List Post) (i : ℕ) (p : Post) : Type 0 where
  post : Post
  was : IsAt posts i post
  node : p.node ≡ post.node
  live : is_live post ≡ true
  ended : p.ended ≡ Some (length es)

-- a new post of an open node
record IsNewPost (e : Event) (nodes : List Node) (posts : List Post) (i : ℕ) (p : Post) : Type 0 where
  number : i ≡ length posts
  unended : p.ended ≡ None
  node : Node
  is_node : IsAt nodes p.node node
  stands_open : is_open node ≡ true
  spared : Ends i p.node e → ⊥

abbrev AreOf : List Entry → Event → List Node → List Post → List Post → Type 0
AreOf es e nodes posts later = (i : ℕ) (p : Post) → IsAt later i p → IsSpared e posts i p ⊎ (IsEndedNow es posts i p ⊎ IsNewPost e nodes posts i p)

-- closed nodes stay closed
abbrev AreClosedKept : List Node → List Node → Type 0
AreClosedKept nodes later = (n : ℕ) (y : Node) → IsAt nodes n y → is_open y ≡ false → (z : Node) × IsAt later n z × (is_open z ≡ false)

false_true : false ≡ true → ⊥
false_true h = absurd (cc)

some_at : (a b : ℕ) → Some a ≡ Some b → a ≡ b
some_at a b e = cc

module _ (es : List Entry) (x : Entry) (e : Event) (nodes later_nodes : List Node) (posts later : List Post) (is : x.event ≡ e) (of : AreOf es e nodes posts later) (h : AreFirstEnds es nodes posts) where
  -- what the new entry says, its event says
  of_new : (P : Event → Type 0) (y : Entry) → x ≡ y → P y.event → P e
  of_new P y same p = subst P (ap (λ (z : Entry). z.event) (sym same) ∙ is) p

  before_step : (i at : ℕ) (p : Post) → IsAt later i p → p.ended ≡ Some at → at < length (es ++ x ∷ [])
  before_step i at p at_p ended = by (of i p at_p)
    where
      more : length (es ++ x ∷ []) ≡ length es + 1
      more = length-append es (x ∷ [])

      by : IsSpared e posts i p ⊎ (IsEndedNow es posts i p ⊎ IsNewPost e nodes posts i p) → at < length (es ++ x ∷ [])
      by (inl s) =
          let old : at < length es = h.before i at s.post s.was (sym s.ended ∙ ended) in
          omega (arith, more)
      by (inr (inl s)) =
          let same : length es ≡ at = some_at (length es) at (sym s.ended ∙ ended) in
          omega (arith, more)
      by (inr (inr s)) = absurd (none_some at (sym s.unended ∙ ended))

  first_step : (i at k : ℕ) (p : Post) (y : Entry) → IsAt later i p → p.ended ≡ Some at → k < at → IsAt (es ++ x ∷ []) k y → Ends i p.node y.event → ⊥
  first_step i at k p y at_p ended below at_y ends = by (of i p at_p) (at_more es x k y at_y)
    where
      by : IsSpared e posts i p ⊎ (IsEndedNow es posts i p ⊎ IsNewPost e nodes posts i p) → (slice_get es k ≡ Some y) ⊎ ((x ≡ y) × (k ≡ length es)) → ⊥
      by (inl s) (inl old) = h.first i at k s.post y s.was (sym s.ended ∙ ended) below old (subst (λ (n : ℕ). Ends i n y.event) s.node ends)
      by (inl s) (inr new) =
          let past : at < length es = h.before i at s.post s.was (sym s.ended ∙ ended) in
          let last : k ≡ length es = new.1 in
          absurd (omega arith)
      by (inr (inl s)) (inl old) = h.live i k s.post y s.was s.live old (subst (λ (n : ℕ). Ends i n y.event) s.node ends)
      by (inr (inl s)) (inr new) =
          let same : length es ≡ at = some_at (length es) at (sym s.ended ∙ ended) in
          let last : k ≡ length es = new.1 in
          absurd (omega arith)
      by (inr (inr s)) either = none_some at (sym s.unended ∙ ended)

  live_step : (i k : ℕ) (p : Post) (y : Entry) → IsAt later i p → is_live p ≡ true → IsAt (es ++ x ∷ []) k y → Ends i p.node y.event → ⊥
  live_step i k p y at_p live at_y ends = by (of i p at_p) (at_more es x k y at_y)
    where
      fresh : IsNewPost e nodes posts i p → slice_get es k ≡ Some y → Names i y.event ⊎ Closes p.node y.event → ⊥
      fresh s old (inl names) =
          let inside : i < length posts = h.named k i y old names in
          let number : i ≡ length posts = s.number in
          absurd (omega arith)
      fresh s old (inr closes) =
          let c : (z : Node) × IsAt nodes p.node z × (is_open z ≡ false) = h.closed k p.node y old closes in
          false_true (sym c.2 ∙ ap is_open (at_one nodes p.node c.0 s.node c.1 s.is_node) ∙ s.stands_open)

      by : IsSpared e posts i p ⊎ (IsEndedNow es posts i p ⊎ IsNewPost e nodes posts i p) → (slice_get es k ≡ Some y) ⊎ ((x ≡ y) × (k ≡ length es)) → ⊥
      by (inl s) (inl old) = h.live i k s.post y s.was (ap (λ (o : Option ℕ). is_none o) (sym s.ended) ∙ live) old (subst (λ (n : ℕ). Ends i n y.event) s.node ends)
      by (inl s) (inr new) = s.spared (ap (λ (o : Option ℕ). is_none o) (sym s.ended) ∙ live) (of_new (Ends i s.post.node) y new.0 (subst (λ (n : ℕ). Ends i n y.event) s.node ends))
      by (inr (inl s)) either = false_true (ap (λ (o : Option ℕ). is_none o) (sym s.ended) ∙ live)
      by (inr (inr s)) (inl old) = fresh s old (ends_by i p.node y.event ends)
      by (inr (inr s)) (inr new) = s.spared (of_new (Ends i p.node) y new.0 ends)

  ends_step : AreClosedKept nodes later_nodes → length posts ≤ length later → ((i : ℕ) → Names i e → i < length later) → ((n : ℕ) → Closes n e → (y : Node) × IsAt later_nodes n y × (is_open y ≡ false)) → AreFirstEnds (es ++ x ∷ []) later_nodes later
  ends_step kept grown names closes = record { before = before_step; first = first_step; live = live_step; named = named; closed = closed }
    where
      named : (k i : ℕ) (y : Entry) → IsAt (es ++ x ∷ []) k y → Names i y.event → i < length later
      named k i y at_y names_i = by (at_more es x k y at_y)
        where
          by : (slice_get es k ≡ Some y) ⊎ ((x ≡ y) × (k ≡ length es)) → i < length later
          by (inl old) =
              let inside : i < length posts = h.named k i y old names_i in
              omega (arith, grown)
          by (inr new) = names i (of_new (Names i) y new.0 names_i)

      closed : (k n : ℕ) (y : Entry) → IsAt (es ++ x ∷ []) k y → Closes n y.event → (z : Node) × IsAt later_nodes n z × (is_open z ≡ false)
      closed k n y at_y closes_n = by (at_more es x k y at_y)
        where
          by : (slice_get es k ≡ Some y) ⊎ ((x ≡ y) × (k ≡ length es)) → (z : Node) × IsAt later_nodes n z × (is_open z ≡ false)
          by (inl old) =
              let c : (z : Node) × IsAt nodes n z × (is_open z ≡ false) = h.closed k n y old closes_n in
              kept n c.0 c.1 c.2
          by (inr new) = closes n (of_new (Closes n) y new.0 closes_n)

-- ---- nodes
kept_same : (nodes : List Node) → AreClosedKept nodes nodes
kept_same nodes n y is closed = (y, is, closed)

kept_changed : (f : Node → Node) (nodes : List Node) (i : ℕ) → ((y : Node) → is_open y ≡ false → is_open (f y) ≡ false) → AreClosedKept nodes (changed f nodes i)
kept_changed f nodes i keeps n y is closed = by (changed_item f nodes i n y is)
  where
    by : ((z : Node) × (slice_get (changed f nodes i) n ≡ Some z) × ((z ≡ y) ⊎ ((n ≡ i) × (z ≡ f y)))) → (z : Node) × IsAt (changed f nodes i) n z × (is_open z ≡ false)
    by (z, at, inl e) = (z, at, ap is_open e ∙ closed)
    by (z, at, inr e) = (z, at, ap is_open e.1 ∙ keeps y closed)

kept_where : (b : Bool) (nodes later : List Node) → AreClosedKept nodes later → AreClosedKept nodes (cond b later nodes)
kept_where true nodes later h = h
kept_where false nodes later h = kept_same nodes

kept_freed : (o : Option Post) (number : ℕ) (nodes : List Node) → AreClosedKept nodes (freed_where_live o number nodes)
kept_freed None number nodes = kept_same nodes
kept_freed (Some post) number nodes = kept_where (is_live post) nodes (changed (freed_by number) nodes post.node) (kept_changed (freed_by number) nodes post.node (λ y h. h))

kept_closed : (h : How) (at kids number : ℕ) (nodes more : List Node) → AreClosedKept nodes (changed (closed_by h at kids) nodes number ++ more)
kept_closed h at kids number nodes more n y is closed =
    let k : (z : Node) × IsAt (changed (closed_by h at kids) nodes number) n z × (is_open z ≡ false) = kept_changed (closed_by h at kids) nodes number (λ z c. refl) n y is closed in
    (k.0, at_kept (changed (closed_by h at kids) nodes number) more n k.0 k.1, k.2)

-- ---- posts
spared_all : (es : List Entry) (e : Event) (nodes : List Node) (posts : List Post) → ((i : ℕ) (p : Post) → IsAt posts i p → is_live p ≡ true → Ends i p.node e → ⊥) → AreOf es e nodes posts posts
spared_all es e nodes posts spared i p is = inl (record { post = p; was = is; node = refl; ended = refl; spared = spared i p is })

spared_changed : (es : List Entry) (e : Event) (nodes : List Node) (f : Post → Post) (posts : List Post) (number : ℕ) → ((p : Post) → (f p).node ≡ p.node) → ((p : Post) → (f p).ended ≡ p.ended) → ((i n : ℕ) → Ends i n e → ⊥) → AreOf es e nodes posts (changed f posts number)
spared_changed es e nodes f posts number node ended spared i p is = by (at_changed f posts number i p is)
  where
    by : ((u : Post) × (slice_get posts i ≡ Some u) × ((p ≡ u) ⊎ ((i ≡ number) × (p ≡ f u)))) → IsSpared e posts i p ⊎ (IsEndedNow es posts i p ⊎ IsNewPost e nodes posts i p)
    by (u, at, inl s) = inl (record { post = u; was = at; node = ap (λ (v : Post). v.node) s; ended = ap (λ (v : Post). v.ended) s; spared = λ live. spared i u.node })
    by (u, at, inr s) = inl (record { post = u; was = at; node = ap (λ (v : Post). v.node) s.1 ∙ node u; ended = ap (λ (v : Post). v.ended) s.1 ∙ ended u; spared = λ live. spared i u.node })

-- the post with the number is ended, and no other
ended_one : (es : List Entry) (e : Event) (nodes : List Node) (at number : ℕ) (posts : List Post) → at ≡ length es → ((i : ℕ) (p : Post) → (i ≡ number → ⊥) → IsAt posts i p → is_live p ≡ true → Ends i p.node e → ⊥) → AreOf es e nodes posts (changed (ended_by at) posts number)
ended_one es e nodes at number posts place spared i p is = elim (cases_eq i number) [
  | inl same ↦ here (before_changed (ended_by at) posts number p (subst (λ (k : ℕ). slice_get (changed (ended_by at) posts number) k ≡ Some p) same is)) same
  | inr other ↦
      let own : IsAt posts i p = sym (changed_there (ended_by at) posts number i other) ∙ is in
      inl (record { post = p; was = own; node = refl; ended = refl; spared = spared i p other own })
]
  where
    here : ((u : Post) × (slice_get posts number ≡ Some u) × (p ≡ ended_by at u)) → i ≡ number → IsSpared e posts i p ⊎ (IsEndedNow es posts i p ⊎ IsNewPost e nodes posts i p)
    here (u, at_u, s) same = which u.ended refl
      where
        was : IsAt posts i u
        was = subst (λ (k : ℕ). slice_get posts k ≡ Some u) (sym same) at_u

        own : p.ended ≡ end_of at u.ended
        own = ap (λ (v : Post). v.ended) s

        which : (o : Option ℕ) → u.ended ≡ o → IsSpared e posts i p ⊎ (IsEndedNow es posts i p ⊎ IsNewPost e nodes posts i p)
        which None none = inr (inl (record { post = u; was = was; node = ap (λ (v : Post). v.node) s; live = ap (λ (o : Option ℕ). is_none o) none; ended = own ∙ ap (end_of at) none ∙ ap Some place }))
        which (Some b) gone = inl (record { post = u; was = was; node = ap (λ (v : Post). v.node) s; ended = own ∙ ap (end_of at) gone ∙ sym gone; spared = λ live ends. false_true (ap (λ (o : Option ℕ). is_none o) (sym gone) ∙ live) })

posted_one : (d : Decomposition) (es : List Entry) (t : State) (e : Event) (number front : ℕ) (point : _) (leaf : _) → IsPostStep d t number front point leaf → ((i n : ℕ) → Ends i n e → ⊥) → AreOf es e t.nodes t.posts (t.posts ++ posted_point d t.entries number front point leaf ∷ [])
posted_one d es t e number front point leaf may spared i p is = by (at_more t.posts (posted_point d t.entries number front point leaf) i p is)
  where
    by : (slice_get t.posts i ≡ Some p) ⊎ ((posted_point d t.entries number front point leaf ≡ p) × (i ≡ length t.posts)) → IsSpared e t.posts i p ⊎ (IsEndedNow es t.posts i p ⊎ IsNewPost e t.nodes t.posts i p)
    by (inl old) = inl (record { post = p; was = old; node = refl; ended = refl; spared = λ live. spared i p.node })
    by (inr new) = inr (inr (record {
      number = new.1;
      unended = ap (λ (v : Post). v.ended) (sym new.0);
      node = may.node;
      is_node = subst (λ (n : ℕ). IsAt t.nodes n may.node) (ap (λ (v : Post). v.node) new.0) may.waits.is_node;
      stands_open = may.waits.stands_open;
      spared = spared i p.node;
    }))

-- a closing ends the live post of its node, and no other
close_spares : (t : State) (number : ℕ) (w : How) (node : Node) → IsAt t.nodes number node → AreLives t.nodes t.posts → (i : ℕ) (p : Post) → (node.live ≡ Some i → ⊥) → IsAt t.posts i p → is_live p ≡ true → Ends i p.node (event.Close number w) → ⊥
close_spares t number w node is lives i p other at_p live ends =
    let q : HasLivePost t.nodes p.node i = lives.of_post i p at_p live in
    other (ap (λ (v : Node). v.live) (at_one t.nodes number node q.node is (subst (λ (n : ℕ). IsAt t.nodes n q.node) (sym ends) q.is_node)) ∙ q.live)

closed_one : (d : Decomposition) (es : List Entry) (t : State) (number : ℕ) (w : How) → t.entries ≡ length es → IsClosing d t number w → AreLives t.nodes t.posts → AreOf es (event.Close number w) t.nodes t.posts (changed_at (ended_by t.entries) t.posts (live_of (slice_get t.nodes number)))
closed_one d es t number w place may lives = subst (λ (o : Option Node). AreOf es (event.Close number w) t.nodes t.posts (changed_at (ended_by t.entries) t.posts (live_of o))) (sym node.1) (by node.0.live refl)
  where
    node : (n : Node) × IsAt t.nodes number n
    node = closing_node d t number w may

    by : (o : Option ℕ) → node.0.live ≡ o → AreOf es (event.Close number w) t.nodes t.posts (changed_at (ended_by t.entries) t.posts node.0.live)
    by None none = subst (λ (o : Option ℕ). AreOf es (event.Close number w) t.nodes t.posts (changed_at (ended_by t.entries) t.posts o)) (sym none)
        (spared_all es (event.Close number w) t.nodes t.posts (λ i p. close_spares t number w node.0 node.1 lives i p (λ e. none_some i (sym none ∙ e))))
    by (Some k) some = subst (λ (o : Option ℕ). AreOf es (event.Close number w) t.nodes t.posts (changed_at (ended_by t.entries) t.posts o)) (sym some)
        (ended_one es (event.Close number w) t.nodes t.entries k t.posts place (λ i p other. close_spares t number w node.0 node.1 lives i p (λ e. other (sym (some_at k i (sym some ∙ e))))))

length-ended : (at : ℕ) (posts : List Post) (o : Option ℕ) → length (changed_at (ended_by at) posts o) ≡ length posts
length-ended at posts None = refl
length-ended at posts (Some i) = length-changed (ended_by at) posts i

-- ---- each event
at_most : (a b : ℕ) → b ≡ a → a ≤ b
at_most a b e = omega arith

cut_step : (es : List Entry) (x : Entry) (e : Event) (t : State) (number place : ℕ) (post : Post) → x.event ≡ e → t.entries ≡ length es → IsAt t.posts number post → ((i n : ℕ) → Ends i n e → number ≡ i) → ((i : ℕ) → Names i e → number ≡ i) → ((n : ℕ) → Closes n e → ⊥) → AreFirstEnds es t.nodes t.posts
    → AreFirstEnds (es ++ x ∷ []) (freed_where_live (slice_get t.posts number) place t.nodes) (changed (ended_by t.entries) t.posts number)
cut_step es x e t number place post is entries at ends names closes h =
    ends_step es x e t.nodes (freed_where_live (slice_get t.posts number) place t.nodes) t.posts (changed (ended_by t.entries) t.posts number) is
    (ended_one es e t.nodes t.entries number t.posts entries (λ i p other at_p live own. other (sym (ends i p.node own)))) h
    (kept_freed (slice_get t.posts number) place t.nodes) (at_most _ _ count) inside (λ n c. absurd (closes n c))
  where
    count : length (changed (ended_by t.entries) t.posts number) ≡ length t.posts
    count = length-changed (ended_by t.entries) t.posts number

    inside : (i : ℕ) → Names i e → i < length (changed (ended_by t.entries) t.posts number)
    inside i own =
        let there : number < length t.posts = slice_get_within t.posts number post at in
        let same : number ≡ i = names i own in
        omega (arith, count)

same_step : (es : List Entry) (x : Entry) (e : Event) (t : State) → x.event ≡ e → ((i n : ℕ) → Ends i n e → ⊥) → ((i : ℕ) → Names i e → ⊥) → ((n : ℕ) → Closes n e → ⊥) → AreFirstEnds es t.nodes t.posts → AreFirstEnds (es ++ x ∷ []) t.nodes t.posts
same_step es x e t is ends names closes h =
    ends_step es x e t.nodes t.nodes t.posts t.posts is (spared_all es e t.nodes t.posts (λ i p at live. ends i p.node)) h
    (kept_same t.nodes) (omega arith) (λ i n. absurd (names i n)) (λ n c. absurd (closes n c))

end_step : (d : Decomposition) (budget : ℕ) (es : List Entry) (t : State) (x : Entry) (e : Event) → x.event ≡ e → MayFollow d budget t e → t.entries ≡ length es → AreLives t.nodes t.posts → AreFirstEnds es t.nodes t.posts → AreFirstEnds (es ++ x ∷ []) (effect d t e).nodes (effect d t e).posts
end_step d budget es t x (event.Floor block basis cut) is may entries lives h = same_step es x (event.Floor block basis cut) t is (λ i n f. f) (λ i f. f) (λ n f. f) h
end_step d budget es t x (event.Ray block direction) is may entries lives h = same_step es x (event.Ray block direction) t is (λ i n f. f) (λ i f. f) (λ n f. f) h
end_step d budget es t x (event.Post node front point leaf) is may entries lives h =
    ends_step es x (event.Post node front point leaf) t.nodes (changed (posted_by (length t.posts)) t.nodes node) t.posts (t.posts ++ posted_point d t.entries node front point leaf ∷ []) is
    (posted_one d es t (event.Post node front point leaf) node front point leaf may (λ i n f. f)) h
    (kept_changed (posted_by (length t.posts)) t.nodes node (λ y c. c)) more (λ i f. absurd f) (λ n f. absurd f)
  where
    more : length t.posts ≤ length (t.posts ++ posted_point d t.entries node front point leaf ∷ [])
    more =
        let count : length (t.posts ++ posted_point d t.entries node front point leaf ∷ []) ≡ length t.posts + 1 = length-append t.posts (posted_point d t.entries node front point leaf ∷ []) in
        omega arith
end_step d budget es t x (event.Append post basis cut) is may entries lives h = cut_step es x (event.Append post basis cut) t post (length t.cuts) may.post is entries may.is_post (λ i n e. e) (λ i e. e) (λ n f. f) h
end_step d budget es t x (event.Again post basis place) is may entries lives h = cut_step es x (event.Again post basis place) t post place may.post is entries may.is_post (λ i n e. e) (λ i e. e) (λ n f. f) h
end_step d budget es t x (event.Fill post block y) is may entries lives h =
    ends_step es x (event.Fill post block y) t.nodes t.nodes t.posts (changed (filled_by t.entries block y) t.posts post) is
    (spared_changed es (event.Fill post block y) t.nodes (filled_by t.entries block y) t.posts post (λ p. refl) (λ p. refl) (λ i n f. f)) h
    (kept_same t.nodes) (at_most _ _ (length-changed (filled_by t.entries block y) t.posts post)) (λ i f. absurd f) (λ n f. absurd f)
end_step d budget es t x (event.Incumbent post) is may entries lives h = same_step es x (event.Incumbent post) t is (λ i n f. f) (λ i f. f) (λ n f. f) h
end_step d budget es t x (event.Close number w) is may entries lives h =
    ends_step es x (event.Close number w) t.nodes (changed (closed_by w t.entries (length t.nodes)) t.nodes number ++ sides_opened d (length t.cuts) w (slice_get t.nodes number)) t.posts
    (changed_at (ended_by t.entries) t.posts (live_of (slice_get t.nodes number))) is (closed_one d es t number w entries may.closing lives) h
    (kept_closed w t.entries (length t.nodes) number t.nodes (sides_opened d (length t.cuts) w (slice_get t.nodes number)))
    (at_most _ _ (length-ended t.entries t.posts (live_of (slice_get t.nodes number)))) (λ i f. absurd f) closes
  where
    closes : (n : ℕ) → number ≡ n → (y : Node) × IsAt (changed (closed_by w t.entries (length t.nodes)) t.nodes number ++ sides_opened d (length t.cuts) w (slice_get t.nodes number)) n y × (is_open y ≡ false)
    closes n same =
        let node : (m : Node) × IsAt t.nodes number m = closing_node d t number w may.closing in
        let here : IsAt (changed (closed_by w t.entries (length t.nodes)) t.nodes number) number (closed_by w t.entries (length t.nodes) node.0) = changed_here (closed_by w t.entries (length t.nodes)) t.nodes number node.0 node.1 in (
          closed_by w t.entries (length t.nodes) node.0,
          at_kept (changed (closed_by w t.entries (length t.nodes)) t.nodes number) (sides_opened d (length t.cuts) w (slice_get t.nodes number)) n (closed_by w t.entries (length t.nodes) node.0)
              (subst (λ (k : ℕ). IsAt (changed (closed_by w t.entries (length t.nodes)) t.nodes number) k (closed_by w t.entries (length t.nodes) node.0)) same here),
          refl,
        )
end_step d budget es t x (event.Stop reason) is may entries lives h = same_step es x (event.Stop reason) t is (λ i n f. f) (λ i f. f) (λ n f. f) h

pub first_ends : (d : Decomposition) (budget : ℕ) (root : Region) (es : List Entry) (t : State) → IsReplay d budget root es t → AreFirstEnds es t.nodes t.posts
first_ends d budget root es t r = histories_grow d budget root (λ es u. AreFirstEnds es u.nodes u.posts)
    (record {
      before = λ i at p is ended. absurd (cc);
      first = λ i at k p y is ended below at_y ends. absurd (cc);
      live = λ i k p y is live at_y ends. absurd (cc);
      named = λ k i y at_y names. absurd (cc);
      closed = λ k n y at_y closes. absurd (cc);
    })
    (λ before u x replayed step old. end_step d budget before u x x.event refl step.may (sizes_are_right d budget root before u replayed).entries (lives_are_right d budget root before u replayed) old) es t r
