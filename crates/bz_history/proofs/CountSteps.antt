-- The counts of posts.
use Rattle.std.proofs.Common.{◌≡◌, refl, sym, ◌∙◌, ap, subst, ℕ, zero, suc, ◌+◌, ◌*◌, ◌<◌, ◌≤◌, List, [], ◌∷◌, ◌++◌, length, inl, inr, arith, mul-le-mul, suc-mul}
use Rattle.std.proofs.lemmas.Bool.{cases_eq, eq-eqb, ne_eqb}
use Rattle.std.proofs.lemmas.Option.{slice_get_within}
use Rattle.std.specs.Prelude.{◌⊎◌, ◌==◌, Option, Some, None, Bool, true, false, cond}
use Rattle.std.specs.List.{slice_get}
use Rattle.bz_model.specs.Parting.{blocks_of}
use Rattle.bz_model.specs.Splits.{Decomposition}
use Rattle.bz_event.specs.declared.events.Event.{Event}
use Rattle.bz_event.specs.declared.events.Event.TheVariants as event
use Rattle.bz_event.specs.declared.events.How.{How}
use Rattle.bz_event.specs.declared.events.How.TheVariants as how
use Rattle.bz_history.specs.declared.state.Node.{Node}
use Rattle.bz_history.specs.declared.state.Post.{Post}
use Rattle.bz_history.specs.Fronts.{AreFronts}
use Rattle.bz_history.specs.PostCounts.{PostsAreFew, PostsHaveNumbers, posts_of}
use Rattle.bz_history.specs.Posts.{ArePosts}
use Rattle.bz_history.specs.Sizes.{AreSizes, closed_in}
use Rattle.bz_history.specs.States.{State, changed, changed_at, closed_by, effect, ended_by, filled_by, freed_by, freed_where_live, is_live, live_of, posted_by, posted_point, sides_opened}
use Rattle.bz_history.specs.Steps.{IsAt, MayFollow}
use Rattle.bz_history.proofs.FrontSteps.{fronts_rise}
use Rattle.bz_history.proofs.Growing.{histories_grow}
use Rattle.bz_history.proofs.Lists.{at_changed, at_either, before_changed, changed_there, length-changed}
use Rattle.bz_history.proofs.PostSteps.{posts_are_right}
use Rattle.bz_history.proofs.SizeSteps.{sizes_are_right}

-- ---- one node's posts
own_here : (n : ℕ) (p : Post) (posts : List Post) → p.node ≡ n → posts_of n (p ∷ posts) ≡ suc (posts_of n posts)
own_here n p posts e =
    let counts : posts_of n (p ∷ posts) ≡ 1 + posts_of n posts = ap (λ (b : Bool). cond b 1 0 + posts_of n posts) (eq-eqb p.node n e) in
    omega arith

own_other : (n : ℕ) (p : Post) (posts : List Post) → (p.node ≡ n → ⊥) → posts_of n (p ∷ posts) ≡ posts_of n posts
own_other n p posts other =
    let counts : posts_of n (p ∷ posts) ≡ 0 + posts_of n posts = ap (λ (b : Bool). cond b 1 0 + posts_of n posts) (ne_eqb p.node n other) in
    omega arith

own_within : (n : ℕ) (posts : List Post) → posts_of n posts ≤ length posts
own_within n [] = omega arith
own_within n (p ∷ posts) = elim (cases_eq p.node n) [
  | inl e ↦
      let rest : posts_of n posts ≤ length posts = own_within n posts in
      let here : posts_of n (p ∷ posts) ≡ suc (posts_of n posts) = own_here n p posts e in
      omega arith
  | inr other ↦
      let rest : posts_of n posts ≤ length posts = own_within n posts in
      let here : posts_of n (p ∷ posts) ≡ posts_of n posts = own_other n p posts other in
      omega arith
]

-- the fronts of one node's posts rise
abbrev AreRising : List Post → Type 0
AreRising posts = (i j : ℕ) (a b : Post) → IsAt posts i a → IsAt posts j b → i < j → a.node ≡ b.node → a.front < b.front

-- rising fronts between two numbers are few
few_of_node : (n low most : ℕ) (posts : List Post) → AreRising posts → ((i : ℕ) (p : Post) → IsAt posts i p → p.node ≡ n → low ≤ p.front) → ((i : ℕ) (p : Post) → IsAt posts i p → p.front ≤ most) → low ≤ most + 1 → posts_of n posts + low ≤ most + 1
few_of_node n low most [] rise least greatest h = omega arith
few_of_node n low most (p ∷ posts) rise least greatest h = elim (cases_eq p.node n) [
  | inl e ↦
      let front : low ≤ p.front = least 0 p refl e in
      let last : p.front ≤ most = greatest 0 p refl in
      let rest : posts_of n posts + suc p.front ≤ most + 1 = few_of_node n (suc p.front) most posts later (λ i x is own. rise 0 (suc i) p x refl is (omega arith) (e ∙ sym own)) (λ i x is. greatest (suc i) x is) (omega arith) in
      let here : posts_of n (p ∷ posts) ≡ suc (posts_of n posts) = own_here n p posts e in
      omega arith
  | inr other ↦
      let rest : posts_of n posts + low ≤ most + 1 = few_of_node n low most posts later (λ i x is own. least (suc i) x is own) (λ i x is. greatest (suc i) x is) h in
      let here : posts_of n (p ∷ posts) ≡ posts_of n posts = own_other n p posts other in
      omega arith
]
  where
    later : AreRising posts
    later i j a b at_a at_b below same = rise (suc i) (suc j) a b at_a at_b (omega arith) same

-- ---- all nodes' posts
-- how many posts are of the first n nodes
of_first : ℕ → List Post → ℕ
of_first zero posts = 0
of_first (suc n) posts = of_first n posts + posts_of n posts

first_none : (n : ℕ) → of_first n [] ≡ 0
unfolding of_first
first_none zero = refl
first_none (suc n) =
    let rest : of_first n [] ≡ 0 = first_none n in
    omega arith

first_before : (n : ℕ) (p : Post) (posts : List Post) → n ≤ p.node → of_first n (p ∷ posts) ≡ of_first n posts
unfolding of_first
first_before zero p posts later = refl
first_before (suc n) p posts later =
    let rest : of_first n (p ∷ posts) ≡ of_first n posts = first_before n p posts (omega arith) in
    let own : posts_of n (p ∷ posts) ≡ posts_of n posts = own_other n p posts (λ e. omega arith) in
    omega arith

first_within : (n : ℕ) (p : Post) (posts : List Post) → p.node < n → of_first n (p ∷ posts) ≡ suc (of_first n posts)
unfolding of_first
first_within zero p posts inside = absurd (omega arith)
first_within (suc n) p posts inside = elim (cases_eq p.node n) [
  | inl e ↦
      let rest : of_first n (p ∷ posts) ≡ of_first n posts = first_before n p posts (omega arith) in
      let own : posts_of n (p ∷ posts) ≡ suc (posts_of n posts) = own_here n p posts e in
      omega arith
  | inr other ↦
      let rest : of_first n (p ∷ posts) ≡ suc (of_first n posts) = first_within n p posts (omega arith) in
      let own : posts_of n (p ∷ posts) ≡ posts_of n posts = own_other n p posts other in
      omega arith
]

all_counted : (n : ℕ) (posts : List Post) → ((i : ℕ) (p : Post) → IsAt posts i p → p.node < n) → of_first n posts ≡ length posts
all_counted n [] h = first_none n
all_counted n (p ∷ posts) h = first_within n p posts (h 0 p refl) ∙ ap suc (all_counted n posts (λ i x is. h (suc i) x is))

few_of_first : (n most : ℕ) (posts : List Post) → ((k : ℕ) → posts_of k posts ≤ most) → of_first n posts ≤ n * most
unfolding of_first
few_of_first zero most posts h = omega arith
few_of_first (suc n) most posts h =
    let rest : of_first n posts ≤ n * most = few_of_first n most posts h in
    let own : posts_of n posts ≤ most = h n in
    let next : suc n * most ≡ n * most + most = suc-mul n most in
    omega arith

-- ---- each node's own count
abbrev AreCounted : List Node → List Post → Type 0
AreCounted nodes posts = (n : ℕ) (x : Node) → IsAt nodes n x → x.posted ≡ posts_of n posts

-- the nodes keep their counts
abbrev AreCountsKept : List Node → List Node → Type 0
AreCountsKept nodes later = (n : ℕ) (z : Node) → IsAt later n z → (x : Node) × IsAt nodes n x × (z.posted ≡ x.posted)

counts_same : (nodes : List Node) → AreCountsKept nodes nodes
counts_same nodes n z is = (z, is, refl)

counts_changed : (f : Node → Node) (nodes : List Node) (i : ℕ) → ((x : Node) → (f x).posted ≡ x.posted) → AreCountsKept nodes (changed f nodes i)
counts_changed f nodes i same n z is = by (at_changed f nodes i n z is)
  where
    by : ((x : Node) × (slice_get nodes n ≡ Some x) × ((z ≡ x) ⊎ ((n ≡ i) × (z ≡ f x)))) → (x : Node) × IsAt nodes n x × (z.posted ≡ x.posted)
    by (x, at, inl e) = (x, at, ap (λ (y : Node). y.posted) e)
    by (x, at, inr e) = (x, at, ap (λ (y : Node). y.posted) e.1 ∙ same x)

counts_where : (b : Bool) (nodes later : List Node) → AreCountsKept nodes later → AreCountsKept nodes (cond b later nodes)
counts_where true nodes later h = h
counts_where false nodes later h = counts_same nodes

counts_freed : (o : Option Post) (number : ℕ) (nodes : List Node) → AreCountsKept nodes (freed_where_live o number nodes)
counts_freed None number nodes = counts_same nodes
counts_freed (Some post) number nodes = counts_where (is_live post) nodes (changed (freed_by number) nodes post.node) (counts_changed (freed_by number) nodes post.node (λ x. refl))

posts_of_changed : (f : Post → Post) (posts : List Post) (i n : ℕ) → ((x : Post) → (f x).node ≡ x.node) → posts_of n (changed f posts i) ≡ posts_of n posts
posts_of_changed f [] i n same = refl
posts_of_changed f (p ∷ posts) zero n same = ap (λ (k : ℕ). cond (k == n) 1 0 + posts_of n posts) (same p)
posts_of_changed f (p ∷ posts) (suc i) n same = ap (λ (k : ℕ). cond (p.node == n) 1 0 + k) (posts_of_changed f posts i n same)

posts_of_ended : (at : ℕ) (posts : List Post) (o : Option ℕ) (n : ℕ) → posts_of n (changed_at (ended_by at) posts o) ≡ posts_of n posts
posts_of_ended at posts None n = refl
posts_of_ended at posts (Some i) n = posts_of_changed (ended_by at) posts i n (λ x. refl)

posts_of_more : (n : ℕ) (posts : List Post) (p : Post) → posts_of n (posts ++ p ∷ []) ≡ posts_of n posts + posts_of n (p ∷ [])
posts_of_more n [] p = omega arith
posts_of_more n (x ∷ posts) p =
    let rest : posts_of n (posts ++ p ∷ []) ≡ posts_of n posts + posts_of n (p ∷ []) = posts_of_more n posts p in
    omega arith

counted_kept : (nodes later : List Node) (posts more : List Post) → AreCountsKept nodes later → ((n : ℕ) → posts_of n more ≡ posts_of n posts) → AreCounted nodes posts → AreCounted later more
counted_kept nodes later posts more kept same h n z is =
    let k : (x : Node) × IsAt nodes n x × (z.posted ≡ x.posted) = kept n z is in
    k.2 ∙ h n k.0 k.1 ∙ sym (same n)

-- a new post is counted by its node
counted_posted : (number i : ℕ) (nodes : List Node) (posts : List Post) (p : Post) → p.node ≡ number → AreCounted nodes posts → AreCounted (changed (posted_by i) nodes number) (posts ++ p ∷ [])
counted_posted number i nodes posts p of_node h n z is = elim (cases_eq n number) [
  | inl e ↦
      let b : (x : Node) × (slice_get nodes number ≡ Some x) × (z ≡ posted_by i x) = before_changed (posted_by i) nodes number z (subst (λ (k : ℕ). slice_get (changed (posted_by i) nodes number) k ≡ Some z) e is) in
      let old : b.0.posted ≡ posts_of n posts = h n b.0 (subst (λ (k : ℕ). slice_get nodes k ≡ Some b.0) (sym e) b.1) in
      let new : z.posted ≡ suc b.0.posted = ap (λ (y : Node). y.posted) b.2 in
      let more : posts_of n (posts ++ p ∷ []) ≡ posts_of n posts + posts_of n (p ∷ []) = posts_of_more n posts p in
      let own : posts_of n (p ∷ []) ≡ suc (posts_of n []) = own_here n p [] (of_node ∙ sym e) in
      omega arith
  | inr other ↦
      let old : z.posted ≡ posts_of n posts = h n z (sym (changed_there (posted_by i) nodes number n other) ∙ is) in
      let more : posts_of n (posts ++ p ∷ []) ≡ posts_of n posts + posts_of n (p ∷ []) = posts_of_more n posts p in
      let own : posts_of n (p ∷ []) ≡ posts_of n [] = own_other n p [] (λ e. other (sym e ∙ of_node)) in
      omega arith
]

-- nothing is posted of a node that isn't there
none_of : (n : ℕ) (posts : List Post) → ((i : ℕ) (p : Post) → IsAt posts i p → p.node < n) → (m : ℕ) → n ≤ m → posts_of m posts ≡ 0
none_of n [] h m past = refl
none_of n (p ∷ posts) h m past =
    let inside : p.node < n = h 0 p refl in
    own_other m p posts (λ e. omega arith) ∙ none_of n posts (λ i x is. h (suc i) x is) m past

fresh_unposted : (d : Decomposition) (cuts : ℕ) (h : How) (o : Option Node) (j : ℕ) (z : Node) → slice_get (sides_opened d cuts h o) j ≡ Some z → z.posted ≡ 0
fresh_unposted d cuts (how.Split front basis position value) None j z is = absurd (cc)
fresh_unposted d cuts (how.Split front basis position value) (Some node) zero z is = cc
fresh_unposted d cuts (how.Split front basis position value) (Some node) (suc zero) z is = cc
fresh_unposted d cuts (how.Split front basis position value) (Some node) (suc (suc j)) z is = absurd (cc)
fresh_unposted d cuts (how.Leaf front leaf) o j z is = absurd (cc)

counted_more : (nodes later sides : List Node) (posts : List Post) → length later ≡ length nodes → AreCounted later posts → ((i : ℕ) (p : Post) → IsAt posts i p → p.node < length nodes) → ((j : ℕ) (z : Node) → slice_get sides j ≡ Some z → z.posted ≡ 0) → AreCounted (later ++ sides) posts
counted_more nodes later sides posts count h inside fresh n z is = by (at_either later sides n z is)
  where
    by : (slice_get later n ≡ Some z) ⊎ ((j : ℕ) × (n ≡ length later + j) × (slice_get sides j ≡ Some z)) → z.posted ≡ posts_of n posts
    by (inl at) = h n z at
    by (inr (j, place, at)) = fresh j z at ∙ sym (none_of (length nodes) posts inside n (omega arith))

-- ---- each event
posts_inside : (d : Decomposition) (t : State) → ArePosts d t → (i : ℕ) (p : Post) → IsAt t.posts i p → p.node < length t.nodes
posts_inside d t posts i p is = slice_get_within t.nodes p.node (posts i p is).node (posts i p is).is_node

count_step : (d : Decomposition) (budget : ℕ) (t : State) (e : Event) → MayFollow d budget t e → ArePosts d t → AreCounted t.nodes t.posts → AreCounted (effect d t e).nodes (effect d t e).posts
count_step d budget t (event.Floor block basis cut) may posts h = h
count_step d budget t (event.Ray block direction) may posts h = h
count_step d budget t (event.Post node front point leaf) may posts h = counted_posted node (length t.posts) t.nodes t.posts (posted_point d t.entries node front point leaf) refl h
count_step d budget t (event.Append post basis cut) may posts h =
    counted_kept t.nodes (freed_where_live (slice_get t.posts post) (length t.cuts) t.nodes) t.posts (changed (ended_by t.entries) t.posts post)
    (counts_freed (slice_get t.posts post) (length t.cuts) t.nodes) (λ n. posts_of_changed (ended_by t.entries) t.posts post n (λ x. refl)) h
count_step d budget t (event.Again post basis place) may posts h =
    counted_kept t.nodes (freed_where_live (slice_get t.posts post) place t.nodes) t.posts (changed (ended_by t.entries) t.posts post)
    (counts_freed (slice_get t.posts post) place t.nodes) (λ n. posts_of_changed (ended_by t.entries) t.posts post n (λ x. refl)) h
count_step d budget t (event.Fill post block y) may posts h =
    counted_kept t.nodes t.nodes t.posts (changed (filled_by t.entries block y) t.posts post) (counts_same t.nodes) (λ n. posts_of_changed (filled_by t.entries block y) t.posts post n (λ x. refl)) h
count_step d budget t (event.Incumbent post) may posts h = h
count_step d budget t (event.Close number w) may posts h =
    counted_kept (changed (closed_by w t.entries (length t.nodes)) t.nodes number ++ sides_opened d (length t.cuts) w (slice_get t.nodes number))
    (changed (closed_by w t.entries (length t.nodes)) t.nodes number ++ sides_opened d (length t.cuts) w (slice_get t.nodes number))
    t.posts (changed_at (ended_by t.entries) t.posts (live_of (slice_get t.nodes number))) (counts_same _)
    (λ n. posts_of_ended t.entries t.posts (live_of (slice_get t.nodes number)) n)
    (counted_more t.nodes (changed (closed_by w t.entries (length t.nodes)) t.nodes number) (sides_opened d (length t.cuts) w (slice_get t.nodes number)) t.posts
    (length-changed (closed_by w t.entries (length t.nodes)) t.nodes number)
    (counted_kept t.nodes (changed (closed_by w t.entries (length t.nodes)) t.nodes number) t.posts t.posts (counts_changed (closed_by w t.entries (length t.nodes)) t.nodes number (λ x. refl)) (λ n. refl) h)
    (posts_inside d t posts) (fresh_unposted d (length t.cuts) w (slice_get t.nodes number)))
count_step d budget t (event.Stop reason) may posts h = h

begins : (n : ℕ) (x y : Node) → x.posted ≡ 0 → slice_get (x ∷ []) n ≡ Some y → y.posted ≡ 0
begins zero x y none is =
    let same : x ≡ y = cc in
    subst (λ (z : Node). z.posted ≡ 0) same none
begins (suc n) x y none is = absurd (cc)

-- ---- all histories
pub posts_are_few : PostsAreFew
posts_are_few d budget root es t r = record {
  counted = counted;
  own = λ n x is. subst (λ (k : ℕ). k ≤ length t.posts) (sym (counted n x is)) (own_within n t.posts);
  each = each;
  all = subst (λ (k : ℕ). k ≤ length t.nodes * (length t.cuts + 1)) (all_counted (length t.nodes) t.posts (posts_inside d t posts)) (few_of_first (length t.nodes) (length t.cuts + 1) t.posts each);
}
  where
    posts : ArePosts d t
    posts = posts_are_right d budget root es t r

    fronts : AreFronts t.nodes t.posts
    fronts = fronts_rise d budget root es t r

    counted : AreCounted t.nodes t.posts
    counted = histories_grow d budget root (λ es u. AreCounted u.nodes u.posts) (λ n x is. begins n _ x refl is)
        (λ before u x replayed step old. count_step d budget u x.event step.may (posts_are_right d budget root before u replayed) old) es t r

    each : (n : ℕ) → posts_of n t.posts ≤ length t.cuts + 1
    each n =
        let all : posts_of n t.posts + 0 ≤ length t.cuts + 1 = few_of_node n 0 (length t.cuts) t.posts fronts.rise (λ i p is own. omega arith) (λ i p is. (posts i p is).front) (omega arith) in
        omega arith

pub posts_have_numbers : PostsHaveNumbers
posts_have_numbers d budget root es t dec limit r =
    let sizes : AreSizes d budget es t = sizes_are_right d budget root es t r in
    let units : length t.floors + t.units ≡ length t.cuts + closed_in t.nodes = sizes.units in
    let spent : t.units ≤ budget = sizes.spent in
    let floors : length t.floors ≤ blocks_of d.part = sizes.floors in
    let blocks : blocks_of d.part ≤ 256 = dec.partition.few in
    let count : length t.nodes ≤ 1 + 2 * closed_in t.nodes = sizes.nodes in
    let nodes : length t.nodes ≤ 65535 = omega arith in
    let cuts : length t.cuts + 1 ≤ 65536 = omega arith in
    let most : length t.nodes * (length t.cuts + 1) ≤ 65535 * 65536 = mul-le-mul nodes cuts in
    let all : length t.posts ≤ length t.nodes * (length t.cuts + 1) = (posts_are_few d budget root es t r).all in
    omega arith
