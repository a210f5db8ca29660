-- The places of names, once one more stands after them.
use Rattle.std.proofs.Common.{is_some, subst, ℕ, Bool, true, false, List, [], ◌∷◌, ◌++◌, ◌≡◌, refl, ap, sym, ◌∙◌, cond, not, Option, Some, None, ◌||◌, ◌+◌, if◌then◌else◌, Bor, suc, arith}
use Rattle.std.proofs.lemmas.Bool.{false≢true}
use Rattle.std.specs.Prelude.{bytes_eq, length, option_map}
use Rattle.std.specs.BTreeMap.{BTreeMap, get_by, UpdatesBy}
use Rattle.std.specs.Cmp.Lexicographic.{slice_cmp, bytes_decides, nat_list_eq_equiv}
use Rattle.std.specs.Ordering.{nat_cmp}
use Rattle.std.proofs.lemmas.Map.Text.{btree_map_updates_str}
use Rattle.bz_lines.specs.NameLists.{HasPlaces, Notes, is_among, place, place_among}

one_more : (n : ℕ) → 1 + n ≡ suc n
one_more n = omega arith

-- the first of some names is found at 0, and the others are one place later than without it
place_among-cons : (n : List ℕ) (ns : List (List ℕ)) (q : List ℕ)
    → place_among (n ∷ ns) q ≡ cond (bytes_eq q n) (Some 0) (option_map (λ i. 1 + i) (place_among ns q))
place_among-cons n ns q = by (bytes_eq q n) (is_among ns q) (place ns q)
  where
    by : (b c : Bool) (p : ℕ)
        → (if b || c then Some (cond (not b) (1 + p) 0) else None) ≡ cond b (Some 0) (option_map (λ i. 1 + i) (if c then Some p else None))
    by true c p = refl
    by false true p = refl
    by false false p = refl

place_among-push : (names : List (List ℕ)) (name q : List ℕ)
    → place_among (names ++ name ∷ []) q ≡ cond (is_among names q) (place_among names q) (cond (bytes_eq q name) (Some (length names)) None)
place_among-push [] name q = by (bytes_eq q name)
  where
    by : (b : Bool) → (if b || false then Some (cond (not b) (1 + 0) 0) else None) ≡ cond b (Some 0) None
    by true = refl
    by false = refl
place_among-push (n ∷ ns) name q =
    place_among-cons n (ns ++ name ∷ []) q
    ∙ ap (λ o. cond (bytes_eq q n) (Some 0) (option_map (λ i. 1 + i) o)) (place_among-push ns name q)
    ∙ by (bytes_eq q n) (is_among ns q) (bytes_eq q name) (place ns q)
  where
    by : (b c e : Bool) (p : ℕ)
        → cond b (Some 0) (option_map (λ i. 1 + i) (cond c (if c then Some p else None) (cond e (Some (length ns)) None)))
        ≡ cond (b || c) (if b || c then Some (cond (not b) (1 + p) 0) else None) (cond e (Some (length (n ∷ ns))) None)
    by true c e p = refl
    by false true e p = refl
    by false false true p = ap Some (one_more (length ns))
    by false false false p = refl

-- a name that is none of some names has their number as its place
pub place_of_new : (names : List (List ℕ)) (q : List ℕ) → place_among names q ≡ None → place names q ≡ length names
place_of_new [] q h = refl
place_of_new (n ∷ ns) q h = by (bytes_eq q n) (is_among ns q) (place ns q) h (place_of_new ns q)
  where
    by : (b c : Bool) (p : ℕ) → (if b || c then Some (cond (not b) (1 + p) 0) else None) ≡ None
        → ((if c then Some p else None) ≡ None → p ≡ length ns) → cond (not b) (1 + p) 0 ≡ length (n ∷ ns)
    by true c p h ih = absurd (false≢true (sym (ap is_some h)))
    by false true p h ih = absurd (false≢true (sym (ap is_some h)))
    by false false p h ih = ap (λ k. 1 + k) (ih refl) ∙ one_more (length ns)

-- a map with the places of some names has them, too, once a name that is one of them stands after them
places-known : (names : List (List ℕ)) (name : List ℕ) (places : BTreeMap (Bor (List ℕ)) ℕ)
    → HasPlaces names places → is_among names name ≡ true → HasPlaces (names ++ name ∷ []) places
places-known names name places h known q = h q ∙ sym (place_among-push names name q ∙ by (is_among names q) (bytes_eq q name) refl refl)
  where
    by : (b e : Bool) → is_among names q ≡ b → bytes_eq q name ≡ e
        → cond b (if b then Some (place names q) else None) (cond e (Some (length names)) None) ≡ (if b then Some (place names q) else None)
    by true e is eq = refl
    by false false is eq = refl
    by false true is eq = absurd (false≢true (sym is ∙ ap (is_among names) ((bytes_decides q name).0 eq) ∙ known))

-- and so once a new name stands after them and its place is noted
places-noted : (names : List (List ℕ)) (name : List ℕ) (old new : BTreeMap (Bor (List ℕ)) ℕ)
    → HasPlaces names old → is_among names name ≡ false
    → UpdatesBy (λ x y. slice_cmp nat_cmp x.now y.now) (λ k. slice_cmp nat_cmp name k.now) old new (Some (length names))
    → HasPlaces (names ++ name ∷ []) new
places-noted names name old new h fresh updates q =
    btree_map_updates_str name old new (Some (length names)) updates q
    ∙ ap (λ o. cond (bytes_eq name q) (Some (length names)) o) (h q)
    ∙ by (bytes_eq name q) (bytes_eq q name) (is_among names q) refl refl refl
    ∙ sym (place_among-push names name q)
  where
    by : (d e b : Bool) → bytes_eq name q ≡ d → bytes_eq q name ≡ e → is_among names q ≡ b
        → cond d (Some (length names)) (if b then Some (place names q) else None)
        ≡ cond b (if b then Some (place names q) else None) (cond e (Some (length names)) None)
    by true true false here back is = refl
    by true true true here back is = absurd (false≢true (sym fresh ∙ ap (is_among names) ((bytes_decides name q).0 here) ∙ is))
    by true false b here back is = absurd (false≢true (sym back ∙ nat_list_eq_equiv.symm q name ∙ here))
    by false true b here back is = absurd (false≢true (sym here ∙ nat_list_eq_equiv.symm name q ∙ back))
    by false false true here back is = refl
    by false false false here back is = refl

is_some-place_among : (names : List (List ℕ)) (q : List ℕ) → is_some (place_among names q) ≡ is_among names q
is_some-place_among names q = by (is_among names q)
  where
    by : (b : Bool) → is_some (if b then Some (place names q) else None) ≡ b
    by true = refl
    by false = refl

-- a map that has a name already has its place
pub notes_known : (name : List ℕ) (at : ℕ) (places : BTreeMap (Bor (List ℕ)) ℕ)
    → is_some (get_by (λ k. slice_cmp nat_cmp name k.now) places) ≡ true → Notes name at places places
notes_known name at places known names many h =
    places-known names name places h (sym (is_some-place_among names name) ∙ ap is_some (sym (h name)) ∙ known)

-- and one that hasn't gets it
pub notes_new : (name : List ℕ) (at : ℕ) (old new : BTreeMap (Bor (List ℕ)) ℕ)
    → is_some (get_by (λ k. slice_cmp nat_cmp name k.now) old) ≡ false
    → UpdatesBy (λ x y. slice_cmp nat_cmp x.now y.now) (λ k. slice_cmp nat_cmp name k.now) old new (Some at)
    → Notes name at old new
notes_new name at old new fresh updates names many h =
    places-noted names name old new h (sym (is_some-place_among names name) ∙ ap is_some (sym (h name)) ∙ fresh)
    (subst (λ (n : ℕ). UpdatesBy (λ x y. slice_cmp nat_cmp x.now y.now) (λ k. slice_cmp nat_cmp name k.now) old new (Some n)) (sym many) updates)
