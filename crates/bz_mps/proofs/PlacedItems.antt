-- Items by their place.
use Rattle.std.proofs.Common.{ℕ, zero, suc, Bool, true, false, List, [], ◌∷◌, ◌++◌, ◌≡◌, ◌⊎◌, inl, inr, ◌<◌, ◌≤◌, ◌+◌, map, filter, take, get_or, set, if◌then◌else◌, refl, ap, sym, ◌∙◌, subst, arith, eqb-true, eq-eqb}
use Rattle.std.specs.Prelude.{length, ◌==◌}
use Rattle.std.proofs.lemmas.List.{append-nil, get_or-map, get_or-set_same, get_or-set_other, length-map, length-set, length-append, map-append, map-set, take_more}
use Rattle.std.proofs.lemmas.List.Elements.{filter-append}
use Rattle.std.proofs.lemmas.Bool.{cases_lt, eqb-false}
use Rattle.bz_mps.specs.ByPlace.{AddsItem, AreByPlace}

no_lists : {X : Type 0} (place : X → ℕ) → AreByPlace place 0 [] []
no_lists place = record { many = refl; each = λ r h. absurd (omega arith) }

get_or_past : {X : Type 0} (ls : List (List X)) (l : List X) (r : ℕ) → r < length ls → get_or (ls ++ l ∷ []) r [] ≡ get_or ls r []
get_or_past [] l r h = absurd (omega arith)
get_or_past (x ∷ ls) l zero h = refl
get_or_past (x ∷ ls) l (suc r) h = get_or_past ls l r (omega arith)

get_or_last : {X : Type 0} (ls : List (List X)) (l : List X) (r : ℕ) → r ≡ length ls → get_or (ls ++ l ∷ []) r [] ≡ l
get_or_last [] l zero h = refl
get_or_last [] l (suc r) h = absurd (omega arith)
get_or_last (x ∷ ls) l zero h = absurd (omega arith)
get_or_last (x ∷ ls) l (suc r) h = get_or_last ls l r (omega arith)

lists_more : {X : Type 0} (place : X → ℕ) (count : ℕ) (old new : List (List X)) → AreByPlace place count [] old → new ≡ old ++ [] ∷ [] → AreByPlace place (count + 1) [] new
lists_more {X} place count old new r e = record {
  many = ap length e ∙ length-append old ([] ∷ []) ∙ ap (λ n. n + 1) r.many;
  each = λ j h. ap (λ ls. get_or ls j []) e ∙ by j (cases_below j h);
}
  where
    cases_below : (j : ℕ) → j < count + 1 → (j < count) ⊎ (j ≡ count)
    cases_below j h = which (cases_lt j count)
      where
        which : (j < count) ⊎ (count ≤ j) → (j < count) ⊎ (j ≡ count)
        which (inl k) = inl k
        which (inr k) = inr (omega arith)

    by : (j : ℕ) → (j < count) ⊎ (j ≡ count) → get_or (old ++ [] ∷ []) j [] ≡ []
    by j (inl k) = get_or_past old [] j (subst (λ n. j < n) (sym r.many) k) ∙ r.each j k
    by j (inr k) = get_or_last old [] j (k ∙ sym r.many)

-- the same of lists that are seen as lists
pub none_yet : {X V : Type 0} (place : X → ℕ) (items : V → List X) (vs : List V) → vs ≡ [] → AreByPlace place 0 [] (map items vs)
none_yet place items vs e = subst (λ vs. AreByPlace place 0 [] (map items vs)) (sym e) (no_lists place)

pub one_more : {X V : Type 0} (place : X → ℕ) (items : V → List X) (count : ℕ) (vs ws : List V) (v : V) → AreByPlace place count [] (map items vs) → ws ≡ vs ++ v ∷ [] → items v ≡ []
    → AreByPlace place (count + 1) [] (map items ws)
one_more place items count vs ws v r e n =
    lists_more place count (map items vs) (map items ws) r (ap (map items) e ∙ map-append items vs (v ∷ []) ∙ ap (λ l. map items vs ++ l ∷ []) n)

-- one item more

pub items_step : {X : Type 0} (place : X → ℕ) (count : ℕ) (xs : List X) (i : ℕ) (x : X) (old new : List (List X)) → i < length xs → x ≡ get_or xs i x → AreByPlace place count (take i xs) old → AddsItem place old x new
    → AreByPlace place count (take (i + 1) xs) new
items_step place count xs i x old new h is r a = record {
  many = a.many ∙ r.many;
  each = λ j k.
      a.each j (subst (λ n. j < n) (sym r.many) k)
      ∙ ap (λ ys. ys ++ (if place x == j then x ∷ [] else [])) (r.each j k)
      ∙ sym (ap (filter (λ y. place y == j)) (take_more xs i x h ∙ ap (λ y. take i xs ++ y ∷ []) (sym is)) ∙ filter-append (λ y. place y == j) (take i xs) (x ∷ []));
}

-- an item behind those of its place
pub item_added : {X V : Type 0} (place : X → ℕ) (items : V → List X) (old : List V) (x : X) (p : ℕ) (d v : V) → p ≡ place x → p < length old
    → items v ≡ items (get_or old p d) ++ x ∷ [] → AddsItem place (map items old) x (map items (set old p v))
item_added {X} {V} place items old x p d v at h is = record {
  many = ap length (map-set items old p v) ∙ length-set (map items old) p (items v);
  each = λ r k. ap (λ ls. get_or ls r []) (map-set items old p v) ∙ by r (p == r) refl ∙ ap (λ n. get_or (map items old) r [] ++ (if n == r then x ∷ [] else [])) at;
}
  where
    within : p < length (map items old)
    within = subst (λ n. p < n) (sym (length-map old items)) h

    by : (r : ℕ) (b : Bool) → (p == r) ≡ b → get_or (set (map items old) p (items v)) r [] ≡ get_or (map items old) r [] ++ (if p == r then x ∷ [] else [])
    by r true s =
        subst (λ q. get_or (set (map items old) p (items v)) q [] ≡ get_or (map items old) q [] ++ (if p == q then x ∷ [] else [])) (eqb-true _ _ s)
        (get_or-set_same (map items old) p (items v) [] within ∙ is ∙ ap (λ ts. ts ++ x ∷ []) (sym (get_or-map items old p d [] h))
        ∙ ap (λ (b : Bool). get_or (map items old) p [] ++ (if b then x ∷ [] else [])) (sym (eq-eqb p p refl)))
    by r false s =
        get_or-set_other (map items old) p r (items v) [] (λ k. eqb-false _ _ s (sym k)) ∙ sym (append-nil _)
        ∙ ap (λ (b : Bool). get_or (map items old) r [] ++ (if b then x ∷ [] else [])) (sym s)

-- what stands at a place
pub items_there : {X V : Type 0} (place : X → ℕ) (items : V → List X) (count : ℕ) (xs : List X) (vs : List V) (r : ℕ) (v : V) → AreByPlace place count xs (map items vs) → r < count → v ≡ get_or vs r v
    → items v ≡ filter (λ x. place x == r) xs
items_there place items count xs vs r v t h e =
    ap items e ∙ sym (get_or-map items vs r v [] (subst (λ n. r < n) (sym (sym (length-map vs items) ∙ t.many)) h)) ∙ t.each r h
