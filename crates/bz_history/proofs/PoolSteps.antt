-- The pool is kept right by each event.
use Rattle.std.proofs.Common.{◌≡◌, refl, sym, ◌∙◌, ap, subst, ℕ, suc, ◌<◌, ◌≤◌, List, [], ◌∷◌, ◌++◌, length, inl, inr, arith, append-nil}
use Rattle.std.proofs.lemmas.Bool.{cases_lt}
use Rattle.std.specs.Prelude.{◌⊎◌, Option, Some, None, pos, ◌<ℤ◌, ℤ, IsSome, max}
use Rattle.std.proofs.Math.Nat.{le-max_right, le_trans}
use Rattle.std.specs.List.{AllByRecursion, slice_get}
use Rattle.std.proofs.lemmas.List.{length-append}
use Rattle.std.proofs.lemmas.Grind.{flat_map-append}
use Rattle.std.proofs.lemmas.Option.{slice_get_within}
use Rattle.bz_model.proofs.MeetingParts.{all_append}
use Rattle.bz_model.specs.Parting.{blocks_of}
use Rattle.bz_model.specs.Splits.{Decomposition}
use Rattle.bz_cut.specs.declared.Cut.{Cut}
use Rattle.bz_cut.specs.Cuts.{IsValid}
use Rattle.bz_cut.specs.Fits.{FitsCut}
use Rattle.bz_cut.specs.Points.{AreSame}
use Rattle.bz_pool.specs.Pools.{AreApart, IsNew}
use Rattle.bz_event.specs.declared.events.Entry.{Entry}
use Rattle.bz_event.specs.declared.events.Event.{Event}
use Rattle.bz_event.specs.declared.events.Event.TheVariants as event
use Rattle.bz_history.specs.declared.state.FallingRay.{FallingRay}
use Rattle.bz_history.specs.declared.state.Node.{Node}
use Rattle.bz_history.specs.declared.state.Region.{Region}
use Rattle.bz_history.specs.Histories.{IsReplay}
use Rattle.bz_history.specs.Pools.{PoolsAreRight, cuts_in, cuts_of}
use Rattle.bz_history.specs.States.{State, effect, least_front, live_of, ended_by, filled_by, mode_for, opening, changed_at}
use Rattle.bz_history.specs.Steps.{AreFloorsReady, IsAppendStep, IsFloorStep, IsFrontOf, IsNextFloor, MayFollow}
use Rattle.bz_history.proofs.Growing.{histories_grow}
use Rattle.bz_history.proofs.Lists.{all_at, at_end, at_kept, at_more, length-changed}

-- cut number k is the floor of the block after k others
pub record IsFloorAt (cuts : List Cut) (k : ℕ) : Type 0 where
  pub cut : Cut
  pub is_cut : slice_get cuts k ≡ Some cut
  pub block : cut.block ≡ suc k
  pub eta : (pos 0) <ℤ cut.p0

-- while the floors are made, there are no other cuts, and no posts
pub record IsEarly (t : State) : Type 0 where
  pub floors_alone : length t.cuts ≡ length t.floors
  pub no_posts : length t.posts ≡ 0

-- the pool has these cuts: the floors first, each valid and fitting, no two the same
pub record IsPooled (d : Decomposition) (cs : List Cut) (t : State) : Type 0 where
  pub cuts_are : t.cuts ≡ cs
  pub valid : AllByRecursion (IsValid d.model d.part) t.cuts
  pub fit : AllByRecursion (FitsCut d.model d.part) t.cuts
  pub apart : AreApart t.cuts
  pub floors : (k : ℕ) → k < length t.floors → IsFloorAt t.cuts k
  pub few : length t.floors ≤ blocks_of d.part
  pub ready : AreFloorsReady d t ⊎ IsEarly t

-- ---- one more cut
same_turned : (a b : Cut) → AreSame a b → AreSame b a
same_turned a b h = record { block = sym h.block; alpha = sym h.alpha; p0 = sym h.p0; beta = sym h.beta }

apart_more : (cuts : List Cut) (cut : Cut) → AreApart cuts → IsNew cuts cut → AreApart (cuts ++ cut ∷ [])
apart_more cuts cut apart new i j a b at_i at_j same = by (at_more cuts cut i a at_i) (at_more cuts cut j b at_j)
  where
    by : (slice_get cuts i ≡ Some a) ⊎ ((cut ≡ a) × (i ≡ length cuts)) → (slice_get cuts j ≡ Some b) ⊎ ((cut ≡ b) × (j ≡ length cuts)) → i ≡ j
    by (inl g) (inl h) = apart i j a b g h same
    by (inl g) (inr h) = absurd (all_at (λ known. ¬ AreSame known cut) cuts i a new g (subst (λ (c : Cut). AreSame a c) (sym h.0) same))
    by (inr g) (inl h) = absurd (all_at (λ known. ¬ AreSame known cut) cuts j b new h (subst (λ (c : Cut). AreSame b c) (sym g.0) (same_turned a b same)))
    by (inr g) (inr h) = g.1 ∙ sym h.1

floor_kept : (cuts more : List Cut) (k : ℕ) → IsFloorAt cuts k → IsFloorAt (cuts ++ more) k
floor_kept cuts more k f = record { cut = f.cut; is_cut = at_kept cuts more k f.cut f.is_cut; block = f.block; eta = f.eta }

-- a cut of a block above those of all cuts is new
new_above : (cuts : List Cut) (cut : Cut) → AllByRecursion (λ known. known.block < cut.block) cuts → IsNew cuts cut
new_above [] cut h = tt
new_above (c ∷ cuts) cut h = (differs, new_above cuts cut h.1)
  where
    differs : AreSame c cut → ⊥
    differs same =
        let below : c.block < cut.block = h.0 in
        let equal : c.block ≡ cut.block = same.block in
        absurd (omega arith)

-- what stands at each place stands in the list
all_of_places : (P : Cut → Type 0) (cuts : List Cut) → ((k : ℕ) → k < length cuts → (c : Cut) × (slice_get cuts k ≡ Some c) × P c) → AllByRecursion P cuts
all_of_places P [] h = tt
all_of_places P (c ∷ cuts) h =
    let first : (x : Cut) × (Some c ≡ Some x) × P x = h 0 (omega arith) in
    let same : c ≡ first.0 = cc in
    (subst P (sym same) first.2, all_of_places P cuts (λ k below. h (suc k) (omega arith)))

-- ---- events that leave the pool
left_alone : (d : Decomposition) (cs : List Cut) (t u : State) → u.cuts ≡ t.cuts → u.floors ≡ t.floors → u.ray ≡ t.ray → length u.posts ≡ length t.posts → IsPooled d cs t → IsPooled d (cs ++ []) u
left_alone d cs t u cuts floors ray posts h = record {
  cuts_are = cuts ∙ h.cuts_are ∙ sym (append-nil cs);
  valid = subst (AllByRecursion (IsValid d.model d.part)) (sym cuts) h.valid;
  fit = subst (AllByRecursion (FitsCut d.model d.part)) (sym cuts) h.fit;
  apart = subst AreApart (sym cuts) h.apart;
  floors = λ k below. subst (λ (xs : List Cut). IsFloorAt xs k) (sym cuts) (h.floors k (subst (λ (xs : List ℕ). k < length xs) floors below));
  few = subst (λ (xs : List ℕ). length xs ≤ blocks_of d.part) (sym floors) h.few;
  ready = by h.ready;
}
  where
    by : AreFloorsReady d t ⊎ IsEarly t → AreFloorsReady d u ⊎ IsEarly u
    by (inl (inl e)) = inl (inl (ap length floors ∙ e))
    by (inl (inr r)) = inl (inr (subst (λ (o : Option FallingRay). IsSome o) (sym ray) r))
    by (inr e) = inr (record { floors_alone = ap length cuts ∙ e.floors_alone ∙ sym (ap length floors); no_posts = posts ∙ e.no_posts })

pub length-changed_at : {X : Type 0} (f : X → X) (xs : List X) (i : Option ℕ) → length (changed_at f xs i) ≡ length xs
length-changed_at f xs None = refl
length-changed_at f xs (Some i) = length-changed f xs i

-- ---- floors
-- where a floor is next, there are floors alone
pub early_of_next : (d : Decomposition) (cs : List Cut) (t : State) (block : ℕ) → IsNextFloor d t block → IsPooled d cs t → IsEarly t
early_of_next d cs t block next h = by h.ready
  where
    by : AreFloorsReady d t ⊎ IsEarly t → IsEarly t
    by (inl (inl e)) =
        let is : block ≡ suc (length t.floors) = next.next in
        let last : block ≤ blocks_of d.part = next.last in
        absurd (omega arith)
    by (inl (inr r)) =
        let none : IsSome {T = FallingRay} None = subst (λ (o : Option FallingRay). IsSome o) next.no_ray r in
        absurd (cc)
    by (inr e) = e

-- the cuts that are there are of lower blocks
lower_blocks : (t : State) (cut : Cut) → IsEarly t → cut.block ≡ suc (length t.floors) → ((k : ℕ) → k < length t.floors → IsFloorAt t.cuts k) → AllByRecursion (λ known. known.block < cut.block) t.cuts
lower_blocks t cut early block floors = all_of_places (λ known. known.block < cut.block) t.cuts at
  where
    at : (k : ℕ) → k < length t.cuts → (c : Cut) × (slice_get t.cuts k ≡ Some c) × (c.block < cut.block)
    at k below =
        let alone : length t.cuts ≡ length t.floors = early.floors_alone in
        let inside : k < length t.floors = omega arith in
        let f : IsFloorAt t.cuts k = floors k inside in
        let own : f.cut.block ≡ suc k = f.block in
        let lower : f.cut.block < cut.block = omega arith in
        (f.cut, f.is_cut, lower)

floors_more : (t : State) (cut : Cut) (block : ℕ) → length t.cuts ≡ length t.floors → cut.block ≡ block → block ≡ suc (length t.floors) → (pos 0) <ℤ cut.p0 → ((k : ℕ) → k < length t.floors → IsFloorAt t.cuts k)
    → (k : ℕ) → k < length (t.floors ++ t.entries ∷ []) → IsFloorAt (t.cuts ++ cut ∷ []) k
floors_more t cut block alone is next eta floors k below = elim (cases_lt k (length t.floors)) [
  | inl inside ↦ floor_kept t.cuts (cut ∷ []) k (floors k inside)
  | inr past ↦
      let longer : length (t.floors ++ t.entries ∷ []) ≡ suc (length t.floors) = length-append t.floors (t.entries ∷ []) ∙ omega arith in
      let last : k ≡ length t.cuts = omega arith in
      record {
        cut = cut;
        is_cut = subst (λ (i : ℕ). slice_get (t.cuts ++ cut ∷ []) i ≡ Some cut) (sym last) (at_end t.cuts cut);
        block = is ∙ next ∙ ap suc (sym alone) ∙ ap suc (sym last);
        eta = eta;
      }
]

floor_pooled : (d : Decomposition) (cs : List Cut) (t : State) (block : ℕ) (basis : List ℕ) (cut : Cut) → IsFloorStep d t block basis cut → IsPooled d cs t → IsPooled d (cs ++ cut ∷ []) (effect d t (event.Floor block basis cut))
floor_pooled d cs t block basis cut may h =
    let early : IsEarly t = early_of_next d cs t block may.next h in
    let own : cut.block ≡ suc (length t.floors) = may.of_basis.made.block ∙ may.next.next in
    let new : IsNew t.cuts cut = new_above t.cuts cut (lower_blocks t cut early own h.floors) in
    let longer : length (t.floors ++ t.entries ∷ []) ≡ suc (length t.floors) = length-append t.floors (t.entries ∷ []) ∙ omega arith in
    let more : length (t.cuts ++ cut ∷ []) ≡ suc (length t.cuts) = length-append t.cuts (cut ∷ []) ∙ omega arith in
    record {
      cuts_are = ap (λ (xs : List Cut). xs ++ cut ∷ []) h.cuts_are;
      valid = all_append (IsValid d.model d.part) t.cuts (cut ∷ []) h.valid (may.of_basis.valid, tt);
      fit = all_append (FitsCut d.model d.part) t.cuts (cut ∷ []) h.fit (may.of_basis.fits, tt);
      apart = apart_more t.cuts cut h.apart new;
      floors = floors_more t cut block early.floors_alone (may.of_basis.made.block) may.next.next may.of_basis.eta h.floors;
      few = subst (λ (n : ℕ). n ≤ blocks_of d.part) (sym longer) (subst (λ (n : ℕ). n ≤ blocks_of d.part) may.next.next may.next.last);
      ready = inr (record { floors_alone = more ∙ ap suc early.floors_alone ∙ sym longer; no_posts = early.no_posts });
    }

-- ---- posts and appended cuts
-- a front as long as a node's least one shows that the floors are there, or a ray
ready_of_front : (d : Decomposition) (ray : Option FallingRay) (node : Node) (front cuts floors : ℕ) → least_front d (mode_for ray) node ≤ front → front ≤ cuts → cuts ≡ floors → floors ≤ blocks_of d.part → (floors ≡ blocks_of d.part) ⊎ IsSome ray
ready_of_front d None node front cuts floors least most alone few =
    let all : blocks_of d.part ≤ front = le_trans (le-max_right (max node.opened node.after) (blocks_of d.part)) least in
    inl (omega arith)
ready_of_front d (Some ray) node front cuts floors least most alone few = inr refl

posted_ready : (d : Decomposition) (cs : List Cut) (t : State) (node : Node) (front : ℕ) → IsFrontOf d t node front → IsPooled d cs t → AreFloorsReady d t
posted_ready d cs t node front f h = by h.ready
  where
    by : AreFloorsReady d t ⊎ IsEarly t → AreFloorsReady d t
    by (inl r) = r
    by (inr e) = ready_of_front d t.ray node front (length t.cuts) (length t.floors) f.at_least f.at_most e.floors_alone h.few

post_pooled : (d : Decomposition) (cs : List Cut) (t u : State) → AreFloorsReady d t → u.cuts ≡ t.cuts → u.floors ≡ t.floors → u.ray ≡ t.ray → IsPooled d cs t → IsPooled d (cs ++ []) u
post_pooled d cs t u r cuts floors ray h = record {
  cuts_are = cuts ∙ h.cuts_are ∙ sym (append-nil cs);
  valid = subst (AllByRecursion (IsValid d.model d.part)) (sym cuts) h.valid;
  fit = subst (AllByRecursion (FitsCut d.model d.part)) (sym cuts) h.fit;
  apart = subst AreApart (sym cuts) h.apart;
  floors = λ k below. subst (λ (xs : List Cut). IsFloorAt xs k) (sym cuts) (h.floors k (subst (λ (xs : List ℕ). k < length xs) floors below));
  few = subst (λ (xs : List ℕ). length xs ≤ blocks_of d.part) (sym floors) h.few;
  ready = inl (by r);
}
  where
    by : AreFloorsReady d t → AreFloorsReady d u
    by (inl e) = inl (ap length floors ∙ e)
    by (inr s) = inr (subst (λ (o : Option FallingRay). IsSome o) (sym ray) s)

append_pooled : (d : Decomposition) (budget : ℕ) (cs : List Cut) (t : State) (post : ℕ) (basis : List ℕ) (cut : Cut) → IsAppendStep d budget t post basis cut → IsPooled d cs t → IsPooled d (cs ++ cut ∷ []) (effect d t (event.Append post basis cut))
append_pooled d budget cs t post basis cut may h = record {
  cuts_are = ap (λ (xs : List Cut). xs ++ cut ∷ []) h.cuts_are;
  valid = all_append (IsValid d.model d.part) t.cuts (cut ∷ []) h.valid (may.of_point.valid, tt);
  fit = all_append (FitsCut d.model d.part) t.cuts (cut ∷ []) h.fit (may.fits, tt);
  apart = apart_more t.cuts cut h.apart may.new;
  floors = λ k below. floor_kept t.cuts (cut ∷ []) k (h.floors k below);
  few = h.few;
  ready = by h.ready;
}
  where
    by : AreFloorsReady d t ⊎ IsEarly t → AreFloorsReady d (effect d t (event.Append post basis cut)) ⊎ IsEarly (effect d t (event.Append post basis cut))
    by (inl r) = inl r
    by (inr e) =
        let inside : post < length t.posts = slice_get_within t.posts post may.post may.is_post in
        let none : length t.posts ≡ 0 = e.no_posts in
        absurd (omega arith)

-- ---- each event
ray_pooled : (d : Decomposition) (cs : List Cut) (t : State) (block : ℕ) (direction : List ℤ) → IsPooled d cs t → IsPooled d (cs ++ []) (effect d t (event.Ray block direction))
ray_pooled d cs t block direction h = record {
  cuts_are = h.cuts_are ∙ sym (append-nil cs);
  valid = h.valid;
  fit = h.fit;
  apart = h.apart;
  floors = h.floors;
  few = h.few;
  ready = inl (inr refl);
}

pool_step : (d : Decomposition) (budget : ℕ) (cs : List Cut) (t : State) (e : Event) → MayFollow d budget t e → IsPooled d cs t → IsPooled d (cs ++ cuts_of e) (effect d t e)
pool_step d budget cs t (event.Floor block basis cut) may h = floor_pooled d cs t block basis cut may h
pool_step d budget cs t (event.Ray block direction) may h = ray_pooled d cs t block direction h
pool_step d budget cs t (event.Post node front point leaf) may h = post_pooled d cs t (effect d t (event.Post node front point leaf)) (posted_ready d cs t may.node front may.front_is h) refl refl refl h
pool_step d budget cs t (event.Append post basis cut) may h = append_pooled d budget cs t post basis cut may h
pool_step d budget cs t (event.Again post basis place) may h = left_alone d cs t (effect d t (event.Again post basis place)) refl refl refl (length-changed (ended_by t.entries) t.posts post) h
pool_step d budget cs t (event.Fill post block y) may h = left_alone d cs t (effect d t (event.Fill post block y)) refl refl refl (length-changed (filled_by t.entries block y) t.posts post) h
pool_step d budget cs t (event.Incumbent post) may h = left_alone d cs t (effect d t (event.Incumbent post)) refl refl refl refl h
pool_step d budget cs t (event.Close node how) may h = left_alone d cs t (effect d t (event.Close node how)) refl refl refl (length-changed_at (ended_by t.entries) t.posts (live_of (slice_get t.nodes node))) h
pool_step d budget cs t (event.Stop reason) may h = left_alone d cs t (effect d t (event.Stop reason)) refl refl refl refl h

-- ---- all histories
begins : (d : Decomposition) (root : Region) → IsPooled d [] (opening root)
begins d root = record {
  cuts_are = refl;
  valid = tt;
  fit = tt;
  apart = λ i j a b at_i at_j same. absurd (cc);
  floors = λ k below. absurd (omega arith);
  few = omega arith;
  ready = inr (record { floors_alone = refl; no_posts = refl });
}

cuts_more : (es : List Entry) (x : Entry) → cuts_in es ++ cuts_of x.event ≡ cuts_in (es ++ x ∷ [])
cuts_more es x = ap (λ (cs : List Cut). cuts_in es ++ cs) (sym (append-nil (cuts_of x.event))) ∙ sym (flat_map-append (λ (e : Entry). cuts_of e.event) es (x ∷ []))

pub pooled : (d : Decomposition) (budget : ℕ) (root : Region) (es : List Entry) (t : State) → IsReplay d budget root es t → IsPooled d (cuts_in es) t
pooled d budget root es t r = histories_grow d budget root (λ es t. IsPooled d (cuts_in es) t) (begins d root)
    (λ before u x replayed step old. subst (λ (cs : List Cut). IsPooled d cs (effect d u x.event)) (cuts_more before x) (pool_step d budget (cuts_in before) u x.event step.may old)) es t r

pub pools_are_right : PoolsAreRight
pools_are_right d budget root es t r =
    let p : IsPooled d (cuts_in es) t = pooled d budget root es t r in
    record { cuts_are = p.cuts_are; valid = p.valid; fit = p.fit; apart = p.apart }
