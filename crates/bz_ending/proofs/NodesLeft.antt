-- What is left at the nodes after each event.
use Rattle.std.proofs.Common.{◌≡◌, refl, sym, ◌∙◌, ap, subst, ℕ, zero, suc, ◌+◌, ◌-◌, ◌*◌, ◌<◌, ◌≤◌, List, [], ◌∷◌, ◌++◌, length, inl, inr, arith}
use Rattle.std.proofs.Math.Nat.{mul-le-mul_right}
use Rattle.std.specs.Prelude.{◌⊎◌, Bool, true, false, Option, Some, None, cond, is_none, replicate, set}
use Rattle.std.specs.List.{slice_get}
use Rattle.bz_model.specs.declared.BlockPart.{BlockPart}
use Rattle.bz_model.specs.Sizes.{sum_of}
use Rattle.bz_model.specs.Splits.{Decomposition}
use Rattle.bz_event.specs.declared.events.How.{How}
use Rattle.bz_event.specs.declared.events.How.TheVariants as how
use Rattle.bz_history.specs.declared.state.Filled.{Filled}
use Rattle.bz_history.specs.declared.state.Node.{Node}
use Rattle.bz_history.specs.declared.state.Post.{Post}
use Rattle.bz_history.specs.Lives.{AreLives, HasLivePost, IsLivePostOf}
use Rattle.bz_history.specs.States.{changed, changed_at, closed_by, ended_by, filled_by, freed_by, freed_where_live, is_live, is_open, live_of, posted_by, sides_opened}
use Rattle.bz_history.specs.Steps.{IsAt}
use Rattle.bz_history.proofs.Lists.{at_end, at_kept, changed_here, changed_item}
use Rattle.bz_ending.specs.Work.{left_of_node, left_of_open, left_of_post, left_unposted, rounds_left, unfilled}
use Rattle.bz_ending.proofs.Sums.{sum_changed, sum_falls, sum_no_more, sum_of-append, sum_rises}

-- ---- fills
pub unfilled_new : (n : ℕ) → unfilled (replicate n None) ≡ n
unfilled_new zero = refl
unfilled_new (suc n) =
    let rest : unfilled (replicate n None) ≡ n = unfilled_new n in
    omega arith

fill_no_more : (fills : List (Option Filled)) (i : ℕ) (fill : Filled) → unfilled (set fills i (Some fill)) ≤ unfilled fills
fill_no_more [] i fill = omega arith
fill_no_more (x ∷ xs) zero fill = omega arith
fill_no_more (x ∷ xs) (suc i) fill =
    let rest : unfilled (set xs i (Some fill)) ≤ unfilled xs = fill_no_more xs i fill in
    omega arith

-- an empty block is filled
fill_less : (fills : List (Option Filled)) (i : ℕ) (fill : Filled) → slice_get fills i ≡ Some None → unfilled (set fills i (Some fill)) + 1 ≤ unfilled fills
fill_less [] i fill is = absurd (cc)
fill_less (x ∷ xs) zero fill is =
    let same : x ≡ None = cc in
    let one : cond {A = ℕ} (is_none x) 1 0 ≡ 1 = ap (λ (o : Option Filled). cond {A = ℕ} (is_none o) 1 0) same in
    omega arith
fill_less (x ∷ xs) (suc i) fill is =
    let rest : unfilled (set xs i (Some fill)) + 1 ≤ unfilled xs = fill_less xs i fill is in
    omega arith

-- ---- a node closed or open
no_more_where : (b : Bool) (m n : ℕ) → m ≤ n → cond b m 0 ≤ cond b n 0
no_more_where true m n h = h
no_more_where false m n h = omega arith

at_most_where : (b : Bool) (n : ℕ) → cond b n 0 ≤ n
at_most_where true n = omega arith
at_most_where false n = omega arith

module _ (blocks cuts : ℕ) where
  -- ---- rounds
  -- from a later front on there are no more
  fewer_rounds : (front later : ℕ) → front ≤ later → rounds_left blocks cuts later ≤ rounds_left blocks cuts front
  fewer_rounds front later h =
      let fewer : cuts - later ≤ cuts - front = omega arith in
      mul-le-mul_right (blocks + 2) fewer

  -- a cut after the front ends a round
  round_over : (front place : ℕ) → front ≤ place → place < cuts → rounds_left blocks cuts (suc place) + (blocks + 2) ≤ rounds_left blocks cuts front
  round_over front place h within =
      let fewer : (cuts - suc place) + 1 ≤ cuts - front = omega arith in
      let all : ((cuts - suc place) + 1) * (blocks + 2) ≤ (cuts - front) * (blocks + 2) = mul-le-mul_right (blocks + 2) fewer in
      omega arith

  -- no node without a live post has more left than a new one
  unposted_most : (after : ℕ) → left_unposted blocks cuts after ≤ left_unposted blocks cuts 0
  unposted_most after =
      let fewer : rounds_left blocks cuts after ≤ rounds_left blocks cuts 0 = fewer_rounds 0 after (omega arith) in
      omega arith

  -- ---- nodes
  -- what is left at an open node with this live post
  left_open : (posts : List Post) (x : Node) (live : Option ℕ) → is_open x ≡ true → x.live ≡ live → left_of_node blocks cuts posts x ≡ left_of_open blocks cuts posts x.after live
  left_open posts x live stands is =
      ap (λ (b : Bool). cond {A = ℕ} b (left_of_open blocks cuts posts x.after x.live) 0) stands
      ∙ ap (λ (o : Option ℕ). left_of_open blocks cuts posts x.after o) is

  -- ---- posts at which there is no more left than before
  abbrev AreNoMore : List Post → List Post → Type 0
  AreNoMore posts later = (i : ℕ) (post : Post) → IsAt posts i post → left_of_post blocks cuts (slice_get later i) ≤ left_of_post blocks cuts (Some post)

  changed_no_more : (f : Post → Post) (posts : List Post) (j : ℕ) → ((x : Post) → left_of_post blocks cuts (Some (f x)) ≤ left_of_post blocks cuts (Some x)) → AreNoMore posts (changed f posts j)
  changed_no_more f posts j less i post is = by (changed_item f posts j i post is)
    where
      at_most : (y : Post) → slice_get (changed f posts j) i ≡ Some y → left_of_post blocks cuts (Some y) ≤ left_of_post blocks cuts (Some post) → left_of_post blocks cuts (slice_get (changed f posts j) i) ≤ left_of_post blocks cuts (Some post)
      at_most y at h = subst (λ (o : Option Post). left_of_post blocks cuts o ≤ left_of_post blocks cuts (Some post)) (sym at) h

      by : ((y : Post) × (slice_get (changed f posts j) i ≡ Some y) × ((y ≡ post) ⊎ ((i ≡ j) × (y ≡ f post)))) → left_of_post blocks cuts (slice_get (changed f posts j) i) ≤ left_of_post blocks cuts (Some post)
      by (y, at, inl e) = at_most y at (subst (λ (z : Post). left_of_post blocks cuts (Some z) ≤ left_of_post blocks cuts (Some post)) (sym e) (omega arith))
      by (y, at, inr e) = at_most y at (subst (λ (z : Post). left_of_post blocks cuts (Some z) ≤ left_of_post blocks cuts (Some post)) (sym e.1) (less post))

  ended_no_more : (at : ℕ) (posts : List Post) (j : ℕ) → AreNoMore posts (changed (ended_by at) posts j)
  ended_no_more at posts j = changed_no_more (ended_by at) posts j (λ x. omega arith)

  ended_at_no_more : (at : ℕ) (posts : List Post) (o : Option ℕ) → AreNoMore posts (changed_at (ended_by at) posts o)
  ended_at_no_more at posts None i post is = subst (λ (o : Option Post). left_of_post blocks cuts o ≤ left_of_post blocks cuts (Some post)) (sym is) (omega arith)
  ended_at_no_more at posts (Some j) i post is = ended_no_more at posts j i post is

  filled_no_more : (at block : ℕ) (y : BlockPart) (posts : List Post) (j : ℕ) → AreNoMore posts (changed (filled_by at block y) posts j)
  filled_no_more at block y posts j = changed_no_more (filled_by at block y) posts j (λ x.
      let fewer : unfilled (set x.fills (block - 1) (Some (record { y = y; at = at }))) ≤ unfilled x.fills = fill_no_more x.fills (block - 1) (record { y = y; at = at }) in
      omega arith)

  with_no_more : (posts more : List Post) → AreNoMore posts (posts ++ more)
  with_no_more posts more i post is = subst (λ (o : Option Post). left_of_post blocks cuts o ≤ left_of_post blocks cuts (Some post)) (sym (at_kept posts more i post is)) (omega arith)

  -- no more is left at an open node whose live post is one of these
  open_no_more : (posts later : List Post) (after : ℕ) (live : Option ℕ) → AreNoMore posts later → ((i : ℕ) → live ≡ Some i → (post : Post) × IsAt posts i post) → left_of_open blocks cuts later after live ≤ left_of_open blocks cuts posts after live
  open_no_more posts later after None h own = omega arith
  open_no_more posts later after (Some i) h own =
      let post : (x : Post) × IsAt posts i x = own i refl in
      subst (λ (o : Option Post). left_of_post blocks cuts (slice_get later i) ≤ left_of_post blocks cuts o) (sym post.1) (h i post.0 post.1)

  each_no_more : (nodes : List Node) (posts later : List Post) → AreLives nodes posts → AreNoMore posts later → (k : ℕ) (x : Node) → slice_get nodes k ≡ Some x → left_of_node blocks cuts later x ≤ left_of_node blocks cuts posts x
  each_no_more nodes posts later lives h k x is = no_more_where (is_open x) _ _ (open_no_more posts later x.after x.live h own)
    where
      own : (i : ℕ) → x.live ≡ Some i → (post : Post) × IsAt posts i post
      own i live =
          let q : IsLivePostOf posts i k = lives.of_node k i x is live in
          (q.post, q.is_post)

  all_no_more : (nodes : List Node) (posts later : List Post) → AreLives nodes posts → AreNoMore posts later → sum_of (left_of_node blocks cuts later) nodes ≤ sum_of (left_of_node blocks cuts posts) nodes
  all_no_more nodes posts later lives h = sum_no_more (left_of_node blocks cuts posts) (left_of_node blocks cuts later) nodes (each_no_more nodes posts later lives h)

  -- ---- a post
  -- a node is posted over a front: its rounds are no more, and the post itself is done
  pub post_lowers : (nodes : List Node) (posts : List Post) (n : ℕ) (x : Node) (new : Post) → IsAt nodes n x → is_open x ≡ true → x.live ≡ None → x.after ≤ new.front → unfilled new.fills ≡ blocks → AreLives nodes posts
      → sum_of (left_of_node blocks cuts (posts ++ new ∷ [])) (changed (posted_by (length posts)) nodes n) + 1 ≤ sum_of (left_of_node blocks cuts posts) nodes
  post_lowers nodes posts n x new is stands unposted front fills lives =
      let others : sum_of (left_of_node blocks cuts (posts ++ new ∷ [])) nodes ≤ sum_of (left_of_node blocks cuts posts) nodes = all_no_more nodes posts (posts ++ new ∷ []) lives (with_no_more posts (new ∷ [])) in
      let moved : sum_of (left_of_node blocks cuts (posts ++ new ∷ [])) (changed (posted_by (length posts)) nodes n) + left_of_node blocks cuts (posts ++ new ∷ []) x ≡ sum_of (left_of_node blocks cuts (posts ++ new ∷ [])) nodes + left_of_node blocks cuts (posts ++ new ∷ []) (posted_by (length posts) x) = sum_changed (left_of_node blocks cuts (posts ++ new ∷ [])) (posted_by (length posts)) nodes n x is in
      let old : left_of_node blocks cuts (posts ++ new ∷ []) x ≡ rounds_left blocks cuts x.after + (blocks + 1) = left_open (posts ++ new ∷ []) x None stands unposted in
      let own : left_of_node blocks cuts (posts ++ new ∷ []) (posted_by (length posts) x) ≡ rounds_left blocks cuts new.front + unfilled new.fills =
      left_open (posts ++ new ∷ []) (posted_by (length posts) x) (Some (length posts)) stands refl ∙ ap (left_of_post blocks cuts) (at_end posts new) in
      let rounds : rounds_left blocks cuts new.front ≤ rounds_left blocks cuts x.after = fewer_rounds x.after new.front front in
      omega arith

  -- ---- a fill
  pub fill_lowers : (at block : ℕ) (y : BlockPart) (nodes : List Node) (posts : List Post) (p : ℕ) (post : Post) → IsAt posts p post → is_live post ≡ true → slice_get post.fills (block - 1) ≡ Some None → AreLives nodes posts
      → sum_of (left_of_node blocks cuts (changed (filled_by at block y) posts p)) nodes + 1 ≤ sum_of (left_of_node blocks cuts posts) nodes
  fill_lowers at block y nodes posts p post is live empty lives =
      let home : HasLivePost nodes post.node p = lives.of_post p post is live in
      let falls : sum_of (left_of_node blocks cuts (changed (filled_by at block y) posts p)) nodes + left_of_node blocks cuts posts home.node ≤ sum_of (left_of_node blocks cuts posts) nodes + left_of_node blocks cuts (changed (filled_by at block y) posts p) home.node =
      sum_falls (left_of_node blocks cuts posts) (left_of_node blocks cuts (changed (filled_by at block y) posts p)) nodes post.node home.node home.is_node (each_no_more nodes posts (changed (filled_by at block y) posts p) lives (filled_no_more at block y posts p)) in
      let old : left_of_node blocks cuts posts home.node ≡ rounds_left blocks cuts post.front + unfilled post.fills = left_open posts home.node (Some p) home.stands_open home.live ∙ ap (left_of_post blocks cuts) is in
      let new : left_of_node blocks cuts (changed (filled_by at block y) posts p) home.node ≡ rounds_left blocks cuts post.front + unfilled (set post.fills (block - 1) (Some (record { y = y; at = at }))) =
      left_open (changed (filled_by at block y) posts p) home.node (Some p) home.stands_open home.live ∙ ap (left_of_post blocks cuts) (changed_here (filled_by at block y) posts p post is) in
      let fewer : unfilled (set post.fills (block - 1) (Some (record { y = y; at = at }))) + 1 ≤ unfilled post.fills = fill_less post.fills (block - 1) (record { y = y; at = at }) empty in
      omega arith

  -- ---- a cut
  freed_most : (posts : List Post) (number : ℕ) (x : Node) → left_of_node blocks cuts posts (freed_by number x) ≤ left_unposted blocks cuts 0
  freed_most posts number x =
      let where_open : cond (is_open x) (left_unposted blocks cuts (suc number)) 0 ≤ left_unposted blocks cuts (suc number) = at_most_where (is_open x) (left_unposted blocks cuts (suc number)) in
      let most : left_unposted blocks cuts (suc number) ≤ left_unposted blocks cuts 0 = unposted_most (suc number) in
      omega arith

  freed_at_most : (later : List Post) (o : Option Post) (number : ℕ) (nodes : List Node) → sum_of (left_of_node blocks cuts later) (freed_where_live o number nodes) ≤ sum_of (left_of_node blocks cuts later) nodes + left_unposted blocks cuts 0
  freed_at_most later None number nodes = omega arith
  freed_at_most later (Some post) number nodes = by (is_live post)
    where
      by : (b : Bool) → sum_of (left_of_node blocks cuts later) (cond b (changed (freed_by number) nodes post.node) nodes) ≤ sum_of (left_of_node blocks cuts later) nodes + left_unposted blocks cuts 0
      by true = sum_rises (left_of_node blocks cuts later) (freed_by number) (left_unposted blocks cuts 0) nodes post.node (freed_most later number)
      by false = omega arith

  -- a cut frees one node at most
  pub cut_rises : (at number : ℕ) (nodes : List Node) (posts : List Post) (p : ℕ) → AreLives nodes posts
      → sum_of (left_of_node blocks cuts (changed (ended_by at) posts p)) (freed_where_live (slice_get posts p) number nodes) ≤ sum_of (left_of_node blocks cuts posts) nodes + left_unposted blocks cuts 0
  cut_rises at number nodes posts p lives =
      let others : sum_of (left_of_node blocks cuts (changed (ended_by at) posts p)) nodes ≤ sum_of (left_of_node blocks cuts posts) nodes = all_no_more nodes posts (changed (ended_by at) posts p) lives (ended_no_more at posts p) in
      let freed : sum_of (left_of_node blocks cuts (changed (ended_by at) posts p)) (freed_where_live (slice_get posts p) number nodes) ≤ sum_of (left_of_node blocks cuts (changed (ended_by at) posts p)) nodes + left_unposted blocks cuts 0 = freed_at_most (changed (ended_by at) posts p) (slice_get posts p) number nodes in
      omega arith

  -- a cut that came after those of the live post's front ends a round of its node
  known_ends : (at number : ℕ) (nodes : List Node) (posts : List Post) (p : ℕ) (post : Post) → IsAt posts p post → is_live post ≡ true → post.front ≤ number → number < cuts → AreLives nodes posts
      → sum_of (left_of_node blocks cuts (changed (ended_by at) posts p)) (changed (freed_by number) nodes post.node) + 1 ≤ sum_of (left_of_node blocks cuts posts) nodes
  known_ends at number nodes posts p post is live front within lives =
      let home : HasLivePost nodes post.node p = lives.of_post p post is live in
      let others : sum_of (left_of_node blocks cuts (changed (ended_by at) posts p)) nodes ≤ sum_of (left_of_node blocks cuts posts) nodes = all_no_more nodes posts (changed (ended_by at) posts p) lives (ended_no_more at posts p) in
      let moved : sum_of (left_of_node blocks cuts (changed (ended_by at) posts p)) (changed (freed_by number) nodes post.node) + left_of_node blocks cuts (changed (ended_by at) posts p) home.node ≡ sum_of (left_of_node blocks cuts (changed (ended_by at) posts p)) nodes + left_of_node blocks cuts (changed (ended_by at) posts p) (freed_by number home.node) =
      sum_changed (left_of_node blocks cuts (changed (ended_by at) posts p)) (freed_by number) nodes post.node home.node home.is_node in
      let old : left_of_node blocks cuts (changed (ended_by at) posts p) home.node ≡ rounds_left blocks cuts post.front + unfilled post.fills =
      left_open (changed (ended_by at) posts p) home.node (Some p) home.stands_open home.live ∙ ap (left_of_post blocks cuts) (changed_here (ended_by at) posts p post is) in
      let new : left_of_node blocks cuts (changed (ended_by at) posts p) (freed_by number home.node) ≡ rounds_left blocks cuts (suc number) + (blocks + 1) =
      left_open (changed (ended_by at) posts p) (freed_by number home.node) None home.stands_open refl in
      let over : rounds_left blocks cuts (suc number) + (blocks + 2) ≤ rounds_left blocks cuts post.front = round_over post.front number front within in
      omega arith

  pub known_lowers : (at number : ℕ) (nodes : List Node) (posts : List Post) (p : ℕ) (post : Post) → IsAt posts p post → is_live post ≡ true → post.front ≤ number → number < cuts → AreLives nodes posts
      → sum_of (left_of_node blocks cuts (changed (ended_by at) posts p)) (freed_where_live (slice_get posts p) number nodes) + 1 ≤ sum_of (left_of_node blocks cuts posts) nodes
  known_lowers at number nodes posts p post is live front within lives =
      subst (λ (o : Option Post). sum_of (left_of_node blocks cuts (changed (ended_by at) posts p)) (freed_where_live o number nodes) + 1 ≤ sum_of (left_of_node blocks cuts posts) nodes) (sym is)
      (subst (λ (b : Bool). sum_of (left_of_node blocks cuts (changed (ended_by at) posts p)) (cond b (changed (freed_by number) nodes post.node) nodes) + 1 ≤ sum_of (left_of_node blocks cuts posts) nodes) (sym live)
      (known_ends at number nodes posts p post is live front within lives))

  -- of a post that has ended it changes nothing
  pub known_keeps : (at number : ℕ) (nodes : List Node) (posts : List Post) (p : ℕ) (post : Post) → IsAt posts p post → is_live post ≡ false → AreLives nodes posts
      → sum_of (left_of_node blocks cuts (changed (ended_by at) posts p)) (freed_where_live (slice_get posts p) number nodes) ≤ sum_of (left_of_node blocks cuts posts) nodes
  known_keeps at number nodes posts p post is dead lives =
      subst (λ (o : Option Post). sum_of (left_of_node blocks cuts (changed (ended_by at) posts p)) (freed_where_live o number nodes) ≤ sum_of (left_of_node blocks cuts posts) nodes) (sym is)
      (subst (λ (b : Bool). sum_of (left_of_node blocks cuts (changed (ended_by at) posts p)) (cond b (changed (freed_by number) nodes post.node) nodes) ≤ sum_of (left_of_node blocks cuts posts) nodes) (sym dead)
      (all_no_more nodes posts (changed (ended_by at) posts p) lives (ended_no_more at posts p)))

  -- ---- a closing
  -- the sides that it opens are two new nodes at most
  sides_most : (later : List Post) (d : Decomposition) (opened : ℕ) (h : How) (o : Option Node) → sum_of (left_of_node blocks cuts later) (sides_opened d opened h o) ≤ 2 * left_unposted blocks cuts 0
  sides_most later d opened (how.Split front basis position value) None = omega arith
  sides_most later d opened (how.Split front basis position value) (Some node) = omega arith
  sides_most later d opened (how.Leaf front leaf) o = omega arith

  -- nothing is left at the closed node
  pub close_rises : (at opened n : ℕ) (d : Decomposition) (h : How) (nodes : List Node) (posts : List Post) → AreLives nodes posts
      → sum_of (left_of_node blocks cuts (changed_at (ended_by at) posts (live_of (slice_get nodes n)))) (changed (closed_by h at (length nodes)) nodes n ++ sides_opened d opened h (slice_get nodes n))
      ≤ sum_of (left_of_node blocks cuts posts) nodes + 2 * left_unposted blocks cuts 0
  close_rises at opened n d h nodes posts lives =
      let later : List Post = changed_at (ended_by at) posts (live_of (slice_get nodes n)) in
      let others : sum_of (left_of_node blocks cuts later) nodes ≤ sum_of (left_of_node blocks cuts posts) nodes = all_no_more nodes posts later lives (ended_at_no_more at posts (live_of (slice_get nodes n))) in
      let closed : sum_of (left_of_node blocks cuts later) (changed (closed_by h at (length nodes)) nodes n) ≤ sum_of (left_of_node blocks cuts later) nodes + 0 =
      sum_rises (left_of_node blocks cuts later) (closed_by h at (length nodes)) 0 nodes n (λ x. omega arith) in
      let sides : sum_of (left_of_node blocks cuts later) (sides_opened d opened h (slice_get nodes n)) ≤ 2 * left_unposted blocks cuts 0 = sides_most later d opened h (slice_get nodes n) in
      let all : sum_of (left_of_node blocks cuts later) (changed (closed_by h at (length nodes)) nodes n ++ sides_opened d opened h (slice_get nodes n)) ≡ sum_of (left_of_node blocks cuts later) (changed (closed_by h at (length nodes)) nodes n) + sum_of (left_of_node blocks cuts later) (sides_opened d opened h (slice_get nodes n)) =
      sum_of-append (left_of_node blocks cuts later) (changed (closed_by h at (length nodes)) nodes n) (sides_opened d opened h (slice_get nodes n)) in
      omega arith
