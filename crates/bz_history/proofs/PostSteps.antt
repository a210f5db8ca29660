-- The posted points are kept right by each event.
use Rattle.std.proofs.Common.{◌≡◌, refl, sym, ◌∙◌, ap, subst, ℕ, zero, suc, ◌+◌, ◌-◌, ◌<◌, ◌≤◌, List, [], ◌∷◌, ◌++◌, length, inl, inr, arith}
use Rattle.std.specs.Prelude.{◌⊎◌, Option, Some, None, Bool, true, false, cond, take, replicate, set}
use Rattle.std.specs.List.{slice_get}
use Rattle.std.proofs.lemmas.List.{length-append, length-replicate, length-set, take-append-le}
use Rattle.std.proofs.lemmas.Option.{slice_get_within}
use Rattle.bz_model.specs.declared.BlockPart.{BlockPart}
use Rattle.bz_model.specs.declared.Master.{Master}
use Rattle.bz_model.specs.Parting.{blocks_of}
use Rattle.bz_model.specs.Splits.{Decomposition}
use Rattle.bz_cut.specs.declared.Cut.{Cut}
use Rattle.bz_cut.specs.declared.Mode.{Mode}
use Rattle.bz_tree.specs.declared.Leaf.{Leaf}
use Rattle.bz_event.specs.declared.events.Event.{Event}
use Rattle.bz_event.specs.declared.events.Event.TheVariants as event
use Rattle.bz_history.specs.declared.state.Filled.{Filled}
use Rattle.bz_history.specs.declared.state.Node.{Node}
use Rattle.bz_history.specs.declared.state.Post.{Post}
use Rattle.bz_history.specs.declared.state.Region.{Region}
use Rattle.bz_history.specs.Pools.{cuts_in}
use Rattle.bz_history.specs.Posts.{ArePosts, IsPostOf, PostsAreRight}
use Rattle.bz_history.specs.States.{State, box_of, changed, changed_at, closed_by, effect, ended_by, filled_by, freed_by, freed_where_live, is_live, live_of, mode_of, posted_by, posted_point, sides_opened}
use Rattle.bz_history.specs.Steps.{IsAt, IsCompletion, IsFillStep, IsPostStep, IsPostedPoint, MayFollow}
use Rattle.bz_history.proofs.Growing.{histories_grow}
use Rattle.bz_history.proofs.Lists.{at_changed, at_kept, at_more, at_one, changed_item}
use Rattle.bz_history.proofs.PoolSteps.{IsEarly, IsPooled, early_of_next, pooled}

-- ---- nodes that stay
-- the nodes stay where they are, with their regions
abbrev pub AreKept : List Node → List Node → Type 0
AreKept nodes later = (n : ℕ) (node : Node) → IsAt nodes n node → (x : Node) × IsAt later n x × (x.region ≡ node.region)

pub kept_same : (nodes : List Node) → AreKept nodes nodes
kept_same nodes n node h = (node, h, refl)

pub kept_changed : (f : Node → Node) (nodes : List Node) (i : ℕ) → ((x : Node) → (f x).region ≡ x.region) → AreKept nodes (changed f nodes i)
kept_changed f nodes i same n node h = by (changed_item f nodes i n node h)
  where
    by : ((y : Node) × (slice_get (changed f nodes i) n ≡ Some y) × ((y ≡ node) ⊎ ((n ≡ i) × (y ≡ f node)))) → (x : Node) × IsAt (changed f nodes i) n x × (x.region ≡ node.region)
    by (y, at, inl e) = (y, at, ap (λ (x : Node). x.region) e)
    by (y, at, inr e) = (y, at, ap (λ (x : Node). x.region) e.1 ∙ same node)

kept_where : (b : Bool) (nodes later : List Node) → AreKept nodes later → AreKept nodes (cond b later nodes)
kept_where true nodes later h = h
kept_where false nodes later h = kept_same nodes

pub kept_freed : (o : Option Post) (number : ℕ) (nodes : List Node) → AreKept nodes (freed_where_live o number nodes)
kept_freed None number nodes = kept_same nodes
kept_freed (Some post) number nodes = kept_where (is_live post) nodes (changed (freed_by number) nodes post.node) (kept_changed (freed_by number) nodes post.node (λ x. refl))

pub kept_with : (nodes later more : List Node) → AreKept nodes later → AreKept nodes (later ++ more)
kept_with nodes later more h n node at =
    let k : (x : Node) × IsAt later n x × (x.region ≡ node.region) = h n node at in
    (k.0, at_kept later more n k.0 k.1, k.2)

-- ---- cuts that stay
-- the first cuts stay as they are
pub record IsLonger (cuts later : List Cut) : Type 0 where
  pub longer : length cuts ≤ length later
  pub front : (n : ℕ) → n ≤ length cuts → take n later ≡ take n cuts

pub longer_same : (cuts : List Cut) → IsLonger cuts cuts
longer_same cuts = record { longer = omega arith; front = λ n h. refl }

pub longer_with : (cuts more : List Cut) → IsLonger cuts (cuts ++ more)
longer_with cuts more =
    let whole : length (cuts ++ more) ≡ length cuts + length more = length-append cuts more in
    record { longer = omega arith; front = λ n h. take-append-le n cuts more h }

-- ---- posts that stay
-- a post is right over more cuts, and with the nodes kept
post_grown : (d : Decomposition) (way : Mode) (nodes later : List Node) (cuts more : List Cut) (post : Post) → AreKept nodes later → IsLonger cuts more → IsPostOf d way nodes cuts post → IsPostOf d way later more post
post_grown d way nodes later cuts more post kept longer h =
    let k : (x : Node) × IsAt later post.node x × (x.region ≡ h.node.region) = kept post.node h.node h.is_node in
    let front : post.front ≤ length cuts = h.front in
    let less : length cuts ≤ length more = longer.longer in
    record {
      node = k.0;
      is_node = k.1;
      front = omega arith;
      posted = subst (λ (r : Region). IsPostedPoint d way (box_of r) (take post.front more) post.point post.leaf) (sym k.2)
          (subst (λ (cs : List Cut). IsPostedPoint d way (box_of h.node.region) cs post.point post.leaf) (sym (longer.front post.front front)) h.posted);
      places = h.places;
      fills = h.fills;
    }

post_ended : (d : Decomposition) (way : Mode) (nodes : List Node) (cuts : List Cut) (at : ℕ) (post : Post) → IsPostOf d way nodes cuts post → IsPostOf d way nodes cuts (ended_by at post)
post_ended d way nodes cuts at post h = record { node = h.node; is_node = h.is_node; front = h.front; posted = h.posted; places = h.places; fills = h.fills }

-- each post is one of the old ones, or was ended by the entry at this place
abbrev AreEnded : ℕ → List Post → List Post → Type 0
AreEnded at posts later = (i : ℕ) (y : Post) → IsAt later i y → (x : Post) × IsAt posts i x × ((y ≡ x) ⊎ (y ≡ ended_by at x))

ended_same : (at : ℕ) (posts : List Post) → AreEnded at posts posts
ended_same at posts i y h = (y, h, inl refl)

ended_changed : (at : ℕ) (posts : List Post) (p : ℕ) → AreEnded at posts (changed (ended_by at) posts p)
ended_changed at posts p i y h = by (at_changed (ended_by at) posts p i y h)
  where
    by : ((x : Post) × (slice_get posts i ≡ Some x) × ((y ≡ x) ⊎ ((i ≡ p) × (y ≡ ended_by at x)))) → (x : Post) × IsAt posts i x × ((y ≡ x) ⊎ (y ≡ ended_by at x))
    by (x, is, inl e) = (x, is, inl e)
    by (x, is, inr e) = (x, is, inr e.1)

ended_at : (at : ℕ) (posts : List Post) (p : Option ℕ) → AreEnded at posts (changed_at (ended_by at) posts p)
ended_at at posts None = ended_same at posts
ended_at at posts (Some p) = ended_changed at posts p

-- posts that stay are right
posts_kept : (d : Decomposition) (t u : State) (at : ℕ) → mode_of u ≡ mode_of t → AreKept t.nodes u.nodes → IsLonger t.cuts u.cuts → AreEnded at t.posts u.posts → ArePosts d t → ArePosts d u
posts_kept d t u at way nodes cuts posts h i y is = by (posts i y is)
  where
    old : (x : Post) → IsAt t.posts i x → IsPostOf d (mode_of u) u.nodes u.cuts x
    old x is_x = subst (λ (m : Mode). IsPostOf d m u.nodes u.cuts x) (sym way) (post_grown d (mode_of t) t.nodes u.nodes t.cuts u.cuts x nodes cuts (h i x is_x))

    by : ((x : Post) × IsAt t.posts i x × ((y ≡ x) ⊎ (y ≡ ended_by at x))) → IsPostOf d (mode_of u) u.nodes u.cuts y
    by (x, is_x, inl e) = subst (IsPostOf d (mode_of u) u.nodes u.cuts) (sym e) (old x is_x)
    by (x, is_x, inr e) = subst (IsPostOf d (mode_of u) u.nodes u.cuts) (sym e) (post_ended d (mode_of u) u.nodes u.cuts at x (old x is_x))

-- ---- a new post
replicate_has : {X : Type 0} (n i : ℕ) (x y : X) → slice_get (replicate n x) i ≡ Some y → x ≡ y
replicate_has zero i x y h = absurd (cc)
replicate_has (suc n) zero x y h = cc
replicate_has (suc n) (suc i) x y h = replicate_has n i x y h

pub nothing_filled : (n b : ℕ) (fill : Filled) → slice_get (replicate n None) b ≡ Some (Some fill) → ⊥
nothing_filled n b fill h =
    let same : None ≡ Some fill = replicate_has n b None (Some fill) h in
    absurd (cc)

new_post : (d : Decomposition) (t : State) (number front : ℕ) (point : Master) (leaf : Option Leaf) → IsPostStep d t number front point leaf
    → IsPostOf d (mode_of t) (changed (posted_by (length t.posts)) t.nodes number) t.cuts (posted_point d t.entries number front point leaf)
new_post d t number front point leaf may =
    let k : (x : Node) × IsAt (changed (posted_by (length t.posts)) t.nodes number) number x × (x.region ≡ may.node.region) = kept_changed (posted_by (length t.posts)) t.nodes number (λ x. refl) number may.node may.waits.is_node in
    record {
      node = k.0;
      is_node = k.1;
      front = may.front_is.at_most;
      posted = subst (λ (r : Region). IsPostedPoint d (mode_of t) (box_of r) (take front t.cuts) point leaf) (sym k.2) may.posted;
      places = length-replicate (blocks_of d.part) None;
      fills = λ b fill is. absurd (nothing_filled (blocks_of d.part) b fill is);
    }

-- ---- a fill
pub at_set : {X : Type 0} (xs : List X) (i k : ℕ) (v y : X) → slice_get (set xs i v) k ≡ Some y → (slice_get xs k ≡ Some y) ⊎ ((k ≡ i) × (v ≡ y))
at_set [] i k v y h = absurd (cc)
at_set (x ∷ xs) zero zero v y h =
    let same : v ≡ y = cc in
    inr (refl, same)
at_set (x ∷ xs) zero (suc k) v y h = inl h
at_set (x ∷ xs) (suc i) zero v y h = inl h
at_set (x ∷ xs) (suc i) (suc k) v y h = later (at_set xs i k v y h)
  where
    later : (slice_get xs k ≡ Some y) ⊎ ((k ≡ i) × (v ≡ y)) → (slice_get xs k ≡ Some y) ⊎ ((suc k ≡ suc i) × (v ≡ y))
    later (inl g) = inl g
    later (inr g) = inr (ap suc g.0, g.1)

post_filled : (d : Decomposition) (way : Mode) (nodes : List Node) (cuts : List Cut) (at block : ℕ) (y : BlockPart) (post : Post) → 0 < block → IsCompletion d way post.point block y → IsPostOf d way nodes cuts post → IsPostOf d way nodes cuts (filled_by at block y post)
post_filled d way nodes cuts at block y post first new h = record {
  node = h.node;
  is_node = h.is_node;
  front = h.front;
  posted = h.posted;
  places = length-set post.fills (block - 1) (Some (record { y = y; at = at })) ∙ h.places;
  fills = λ b fill is. by b fill (at_set post.fills (block - 1) b (Some (record { y = y; at = at })) (Some fill) is);
}
  where
    by : (b : ℕ) (fill : Filled) → (slice_get post.fills b ≡ Some (Some fill)) ⊎ ((b ≡ block - 1) × (Some (record { y = y; at = at }) ≡ Some fill)) → IsCompletion d way post.point (suc b) fill.y
    by b fill (inl g) = h.fills b fill g
    by b fill (inr g) =
        let index : b ≡ block - 1 = g.0 in
        let place : suc b ≡ block = omega arith in
        let same : record { y = y; at = at } ≡ fill = cc in
        subst (λ (n : ℕ). IsCompletion d way post.point n fill.y) (sym place) (subst (λ (f : Filled). IsCompletion d way post.point block f.y) same new)

-- ---- each event
posts_filled : (d : Decomposition) (t : State) (number block : ℕ) (y : BlockPart) → IsFillStep d t number block y → ArePosts d t → ArePosts d (effect d t (event.Fill number block y))
posts_filled d t number block y may h i z is = by (at_changed (filled_by t.entries block y) t.posts number i z is)
  where
    by : ((x : Post) × (slice_get t.posts i ≡ Some x) × ((z ≡ x) ⊎ ((i ≡ number) × (z ≡ filled_by t.entries block y x)))) → IsPostOf d (mode_of t) t.nodes t.cuts z
    by (x, is_x, inl e) = subst (IsPostOf d (mode_of t) t.nodes t.cuts) (sym e) (h i x is_x)
    by (x, is_x, inr e) =
        let there : slice_get t.posts number ≡ Some x = subst (λ (k : ℕ). slice_get t.posts k ≡ Some x) e.0 is_x in
        let own : may.post ≡ x = at_one t.posts number may.post x may.is_post there in
        subst (IsPostOf d (mode_of t) t.nodes t.cuts) (sym e.1)
        (post_filled d (mode_of t) t.nodes t.cuts t.entries block y x may.first (subst (λ (p : Post). IsCompletion d (mode_of t) p.point block y) own may.completes) (h i x is_x))

posts_posted : (d : Decomposition) (t : State) (number front : ℕ) (point : Master) (leaf : Option Leaf) → IsPostStep d t number front point leaf → ArePosts d t → ArePosts d (effect d t (event.Post number front point leaf))
posts_posted d t number front point leaf may h i z is = by (at_more t.posts (posted_point d t.entries number front point leaf) i z is)
  where
    later : List Node
    later = changed (posted_by (length t.posts)) t.nodes number

    by : (slice_get t.posts i ≡ Some z) ⊎ ((posted_point d t.entries number front point leaf ≡ z) × (i ≡ length t.posts)) → IsPostOf d (mode_of t) later t.cuts z
    by (inl g) = post_grown d (mode_of t) t.nodes later t.cuts t.cuts z (kept_changed (posted_by (length t.posts)) t.nodes number (λ x. refl)) (longer_same t.cuts) (h i z g)
    by (inr g) = subst (IsPostOf d (mode_of t) later t.cuts) g.0 (new_post d t number front point leaf may)

-- where a ray comes there are no posts
no_posts_yet : (d : Decomposition) (t u : State) → length u.posts ≡ 0 → ArePosts d u
no_posts_yet d t u none i z is =
    let inside : i < length u.posts = slice_get_within u.posts i z is in
    absurd (omega arith)

post_step : (d : Decomposition) (budget : ℕ) (cs : List Cut) (t : State) (e : Event) → MayFollow d budget t e → IsPooled d cs t → ArePosts d t → ArePosts d (effect d t e)
post_step d budget cs t (event.Floor block basis cut) may p h = posts_kept d t (effect d t (event.Floor block basis cut)) t.entries refl (kept_same t.nodes) (longer_with t.cuts (cut ∷ [])) (ended_same t.entries t.posts) h
post_step d budget cs t (event.Ray block direction) may p h =
    let early : IsEarly t = early_of_next d cs t block may.next p in
    no_posts_yet d t (effect d t (event.Ray block direction)) early.no_posts
post_step d budget cs t (event.Post node front point leaf) may p h = posts_posted d t node front point leaf may h
post_step d budget cs t (event.Append post basis cut) may p h = posts_kept d t (effect d t (event.Append post basis cut)) t.entries refl (kept_freed (slice_get t.posts post) (length t.cuts) t.nodes) (longer_with t.cuts (cut ∷ [])) (ended_changed t.entries t.posts post) h
post_step d budget cs t (event.Again post basis place) may p h = posts_kept d t (effect d t (event.Again post basis place)) t.entries refl (kept_freed (slice_get t.posts post) place t.nodes) (longer_same t.cuts) (ended_changed t.entries t.posts post) h
post_step d budget cs t (event.Fill post block y) may p h = posts_filled d t post block y may h
post_step d budget cs t (event.Incumbent post) may p h = posts_kept d t (effect d t (event.Incumbent post)) t.entries refl (kept_same t.nodes) (longer_same t.cuts) (ended_same t.entries t.posts) h
post_step d budget cs t (event.Close node how) may p h = posts_kept d t (effect d t (event.Close node how)) t.entries refl
    (kept_with t.nodes (changed (closed_by how t.entries (length t.nodes)) t.nodes node) (sides_opened d (length t.cuts) how (slice_get t.nodes node)) (kept_changed (closed_by how t.entries (length t.nodes)) t.nodes node (λ x. refl)))
    (longer_same t.cuts) (ended_at t.entries t.posts (live_of (slice_get t.nodes node))) h
post_step d budget cs t (event.Stop reason) may p h = posts_kept d t (effect d t (event.Stop reason)) t.entries refl (kept_same t.nodes) (longer_same t.cuts) (ended_same t.entries t.posts) h

pub posts_are_right : PostsAreRight
posts_are_right d budget root es t r = histories_grow d budget root (λ es u. ArePosts d u) (λ i z is. absurd (cc))
    (λ before u x replayed step old. post_step d budget (cuts_in before) u x.event step.may (pooled d budget root before u replayed) old) es t r
