-- While a search isn't done, each live post has a block that isn't completed, also after an answer of a separation.
use Rattle.std.proofs.Common.{◌≡◌, true, false, refl, sym, ◌∙◌, ap, subst, ℕ, suc, ◌-◌, List, [], ◌∷◌, ◌++◌, inl, inr}
use Rattle.std.proofs.lemmas.Bool.{cases_Bool}
use Rattle.std.specs.Prelude.{◌⊎◌, Option, Some, None, Bool, not, ◌||◌, ◌&&◌, cond, is_none, is_some, set}
use Rattle.std.specs.List.{list_any, slice_get}
use Rattle.bz_model.specs.declared.BlockPart.{BlockPart}
use Rattle.bz_model.specs.declared.Master.{Master}
use Rattle.bz_model.specs.Splits.{Decomposition}
use Rattle.bz_cut.specs.declared.Cut.{Cut}
use Rattle.bz_cut.specs.declared.Mode.{Mode}
use Rattle.bz_cut.specs.declared.Mode.TheVariants as mode
use Rattle.bz_tree.specs.declared.Leaf.{Leaf}
use Rattle.bz_event.specs.declared.events.Event.{Event}
use Rattle.bz_event.specs.declared.events.Event.TheVariants as event
use Rattle.bz_event.specs.declared.events.Why.TheVariants as why
use Rattle.bz_history.specs.declared.state.FallingRay.{FallingRay}
use Rattle.bz_history.specs.declared.state.Filled.{Filled}
use Rattle.bz_history.specs.declared.state.Node.{Node}
use Rattle.bz_history.specs.declared.state.Post.{Post}
use Rattle.bz_history.specs.States.{State, changed, changed_at, effect, ended_by, filled_by, is_done, is_live, is_open, live_of, mode_for, mode_of}
use Rattle.bz_history.specs.Steps.{IsAt}
use Rattle.bz_history.proofs.Lists.{at_changed, at_one, changed_here}
use Rattle.bz_rules.proofs.GoingOn.{after_more}
use Rattle.bz_rules.specs.Entries.{after, and_stop, complete_events, cut_events, fill_events, is_better, is_last, is_spent, leaf_events}
use Rattle.bz_core.specs.Searches.{HasGap}

-- each live post has a gap
abbrev pub HaveGaps : List Post → Type 0
HaveGaps posts = (i : ℕ) (post : Post) → IsAt posts i post → is_live post ≡ true → HasGap post

-- the same of all but one
abbrev pub OthersHaveGaps : ℕ → List Post → Type 0
OthersHaveGaps number posts = (i : ℕ) (post : Post) → IsAt posts i post → is_live post ≡ true → (i ≡ number → ⊥) → HasGap post

ended_dead : (at : ℕ) (x : Post) (e : Option ℕ) → x.ended ≡ e → is_live (ended_by at x) ≡ true → ⊥
ended_dead at x None is live = absurd (subst (λ (o : Option ℕ). is_none (Rattle.bz_history.specs.States.end_of at o) ≡ true → ⊥) (sym is) (λ h. absurd (cc)) live)
ended_dead at x (Some before) is live = absurd (subst (λ (o : Option ℕ). is_none (Rattle.bz_history.specs.States.end_of at o) ≡ true → ⊥) (sym is) (λ h. absurd (cc)) live)

-- ---- a post that is ended
-- where the others have gaps, all have one once this one is ended
pub gaps_ended : (at number : ℕ) (posts : List Post) → OthersHaveGaps number posts → HaveGaps (changed (ended_by at) posts number)
gaps_ended at number posts h i post is live = by (at_changed (ended_by at) posts number i post is)
  where
    by : ((x : Post) × (slice_get posts i ≡ Some x) × ((post ≡ x) ⊎ ((i ≡ number) × (post ≡ ended_by at x)))) → HasGap post
    by (x, place, inr e) = absurd (ended_dead at x x.ended refl (subst (λ (p : Post). is_live p ≡ true) e.1 live))
    by (x, place, inl e) = elim (Rattle.std.proofs.lemmas.Bool.cases_eq i number) [
      | inl same ↦ absurd (gone same)
      | inr other ↦ subst HasGap (sym e) (h i x place (subst (λ (p : Post). is_live p ≡ true) e live) other)
    ]
      where
        gone : i ≡ number → ⊥
        gone same =
            let here : IsAt posts number x = subst (λ (k : ℕ). IsAt posts k x) same place in
            let later : IsAt (changed (ended_by at) posts number) number post = subst (λ (k : ℕ). IsAt (changed (ended_by at) posts number) k post) same is in
            let ended : post ≡ ended_by at x = at_one (changed (ended_by at) posts number) number post (ended_by at x) later (changed_here (ended_by at) posts number x here) in
            ended_dead at x x.ended refl (subst (λ (p : Post). is_live p ≡ true) ended live)

-- ---- a block that is filled
gap_of : (fills : List (Option Filled)) → list_any (λ fill. is_none fill) fills ≡ true → (k : ℕ) × (slice_get fills k ≡ Some None)
gap_of [] h = absurd (cc)
gap_of (None ∷ fills) h = (0, refl)
gap_of (Some f ∷ fills) h = later (gap_of fills h)
  where
    later : ((k : ℕ) × (slice_get fills k ≡ Some None)) → (k : ℕ) × (slice_get (Some f ∷ fills) k ≡ Some None)
    later (k, is) = (suc k, is)

not_false : (b : Bool) → not b ≡ false → b ≡ true
not_false true h = refl
not_false false h = absurd (cc)

-- unless the block was the last, each still has one
pub gaps_filled : (at number block : ℕ) (y : BlockPart) (posts : List Post) (post : Post) → IsAt posts number post → is_last block y at post ≡ false → HaveGaps posts → HaveGaps (changed (filled_by at block y) posts number)
gaps_filled at number block y posts post is_post more h i x is live = by (at_changed (filled_by at block y) posts number i x is)
  where
    own : HasGap (filled_by at block y post)
    own =
        let gap : (k : ℕ) × (slice_get (set post.fills (block - 1) (Some (record { y = y; at = at }))) k ≡ Some None) = gap_of (set post.fills (block - 1) (Some (record { y = y; at = at }))) (not_false _ more) in
        record { place = gap.0; empty = gap.1 }

    by : ((z : Post) × (slice_get posts i ≡ Some z) × ((x ≡ z) ⊎ ((i ≡ number) × (x ≡ filled_by at block y z)))) → HasGap x
    by (z, place, inl e) = subst HasGap (sym e) (h i z place (subst (λ (p : Post). is_live p ≡ true) e live))
    by (z, place, inr e) =
        let same : z ≡ post = at_one posts number z post (subst (λ (k : ℕ). IsAt posts k z) e.0 place) is_post in
        subst HasGap (sym (e.1 ∙ ap (filled_by at block y) same)) own

-- in any case the others have
pub others_filled : (at number block : ℕ) (y : BlockPart) (posts : List Post) → HaveGaps posts → OthersHaveGaps number (changed (filled_by at block y) posts number)
others_filled at number block y posts h i x is live other = by (at_changed (filled_by at block y) posts number i x is)
  where
    by : ((z : Post) × (slice_get posts i ≡ Some z) × ((x ≡ z) ⊎ ((i ≡ number) × (x ≡ filled_by at block y z)))) → HasGap x
    by (z, place, inl e) = subst HasGap (sym e) (h i z place (subst (λ (p : Post). is_live p ≡ true) e live))
    by (z, place, inr e) = absurd (other e.0)

-- ---- the events of an answer
-- while the search isn't done, each live post has a gap
abbrev pub HasGaps : State → Type 0
HasGaps u = is_done u ≡ false → HaveGaps u.posts

pub gaps_and_stop : (d : Decomposition) (budget : ℕ) (t : State) (events : List Event) → HasGaps (after d t events) → HasGaps (after d t (and_stop d budget t events))
gaps_and_stop d budget t events h = subst HasGaps (sym (after_more d t events _)) (by (is_spent budget (after d t events)))
  where
    by : (b : Bool) → HasGaps (after d (after d t events) (cond b (event.Stop why.Budget ∷ []) []))
    by true running = absurd (cc)
    by false running = h running

pub gaps_cut : (d : Decomposition) (t : State) (number : ℕ) (basis : List ℕ) (cut : Cut) (known : Option ℕ) → HaveGaps t.posts → HasGaps (after d t (cut_events number basis cut known))
gaps_cut d t number basis cut None h running = gaps_ended t.entries number t.posts (λ i post is live other. h i post is live)
gaps_cut d t number basis cut (Some place) h running = gaps_ended t.entries number t.posts (λ i post is live other. h i post is live)

-- in mode Point a best post ends the search
done_in_point : (stopped closed : Bool) (ray : Option FallingRay) (number : ℕ) → mode_for ray ≡ mode.Point → (stopped || closed || (is_some ray && is_some (Some number))) ≡ true
done_in_point true closed ray number h = refl
done_in_point false true ray number h = refl
done_in_point false false (Some ray) number h = refl
done_in_point false false None number h = absurd (cc)

-- a post that is complete is ended, or ends the search
pub gaps_complete : (d : Decomposition) (t u : State) (number node front : ℕ) (point : Master) (leaf : Option Leaf) → mode_of u ≡ mode_of t
    → live_of (slice_get u.nodes node) ≡ Some number → OthersHaveGaps number u.posts → (mode_of t ≡ mode.Cost → (l : Leaf) × (leaf ≡ Some l))
    → HasGaps (after d u (complete_events d t number node front point leaf))
gaps_complete d t u number node front point leaf same live others leaf_is = by (mode_of t) (is_better d t (mode_of t) point) leaf refl refl refl
  where
    closed : (at : ℕ) → HaveGaps (changed_at (ended_by at) u.posts (live_of (slice_get u.nodes node)))
    closed at = subst (λ (o : Option ℕ). HaveGaps (changed_at (ended_by at) u.posts o)) (sym live) (gaps_ended at number u.posts others)

    by : (way : Mode) (b : Bool) (o : Option Leaf) → mode_of t ≡ way → is_better d t way point ≡ b → leaf ≡ o
        → HasGaps (after d u (cond b (event.Incumbent number ∷ []) [] ++ leaf_events way node front o))
    by mode.Point true o way better is running =
        let over : is_done (effect d u (event.Incumbent number)) ≡ true = done_in_point (is_some u.stop) (not (list_any is_open u.nodes)) u.ray number (same ∙ way) in
        absurd (cc)
    by mode.Point false o way better is running = absurd (cc)
    by mode.Cost b None way better is running =
        let l : (x : Leaf) × (leaf ≡ Some x) = leaf_is way in
        let none : None ≡ Some l.0 = sym is ∙ l.1 in
        absurd (cc)
    by mode.Cost true (Some leaf) way better is running = closed _
    by mode.Cost false (Some leaf) way better is running = closed _

-- a post with its place, its node and its leaf, as a legal history has it
pub record IsHome (t : State) (number : ℕ) (post : Post) : Type 0 where
  pub is_post : IsAt t.posts number post
  pub x : Node
  pub is_node : IsAt t.nodes post.node x
  pub live : x.live ≡ Some number
  pub leaf : mode_of t ≡ mode.Cost → (l : Leaf) × (post.leaf ≡ Some l)

pub gaps_fill : (d : Decomposition) (t : State) (number block : ℕ) (y : BlockPart) (post : Post) → IsHome t number post → HaveGaps t.posts → HasGaps (after d t (fill_events d t number block y (Some post)))
gaps_fill d t number block y post home h = by (is_last block y t.entries post) refl
  where
    live : live_of (slice_get t.nodes post.node) ≡ Some number
    live = ap live_of home.is_node ∙ home.live

    by : (b : Bool) → is_last block y t.entries post ≡ b → HasGaps (after d (effect d t (event.Fill number block y)) (cond b (complete_events d t number post.node post.front post.point post.leaf) []))
    by false more = λ running. gaps_filled t.entries number block y t.posts post home.is_post more h
    by true last = gaps_complete d t (effect d t (event.Fill number block y)) number post.node post.front post.point post.leaf refl live (others_filled t.entries number block y t.posts h) home.leaf
