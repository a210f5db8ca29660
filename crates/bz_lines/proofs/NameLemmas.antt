-- Names as a table holds them, and as lists of bytes.
use Rattle.std.proofs.Common.{is_some, position, subst, IfSome, IfNone, nat_lt, if◌then◌else◌, Bor, ℕ, Bool, true, false, List, [], ◌∷◌, ◌++◌, ◌≡◌, map, refl, ap, sym, ◌∙◌, cond, not, Option, Some, None, ◌||◌, ◌+◌}
use Rattle.std.specs.Prelude.{bytes_eq, length}
use Rattle.std.specs.List.{list_any, position_or_len}
use Rattle.std.proofs.lemmas.List.{map-append}
use Rattle.indexmap.specs.IndexSet.{insert_key}
use Rattle.bz_lines.specs.NameLists.{is_among, place, with_name}

pub among-now : (name : List ℕ) (keys : List (Bor (List ℕ))) → list_any (λ k. bytes_eq name k.now) keys ≡ is_among (map (λ k. k.now) keys) name
among-now name [] = refl
among-now name (k ∷ ks) = ap (λ b. bytes_eq name k.now || b) (among-now name ks)

pub place-now : (name : List ℕ) (keys : List (Bor (List ℕ))) → position_or_len (λ k. bytes_eq name k.now) keys ≡ place (map (λ k. k.now) keys) name
place-now name [] = refl
place-now name (k ∷ ks) = ap (λ n. cond (not (bytes_eq name k.now)) (1 + n) 0) (place-now name ks)

-- the names behind those of a table once one more is in it
pub with_name-now : (name : Bor (List ℕ)) (keys : List (Bor (List ℕ)))
    → map (λ k. k.now) (insert_key (λ a b. bytes_eq a.now b.now) keys name) ≡ with_name (map (λ k. k.now) keys) name.now
with_name-now name keys = by (list_any (λ k. bytes_eq name.now k.now) keys) refl
  where
    by : (b : Bool) → list_any (λ k. bytes_eq name.now k.now) keys ≡ b
        → map (λ k. k.now) (if list_any (λ k. bytes_eq name.now k.now) keys then keys else keys ++ name ∷ []) ≡ with_name (map (λ k. k.now) keys) name.now
    by true e = ap (λ b. map (λ k. k.now) (if b then keys else keys ++ name ∷ [])) e
        ∙ ap (λ b. if b then map (λ k. k.now) keys else map (λ k. k.now) keys ++ name.now ∷ []) (sym e ∙ among-now name.now keys)
    by false e = ap (λ b. map (λ k. k.now) (if b then keys else keys ++ name ∷ [])) e
        ∙ map-append (λ k. k.now) keys (name ∷ [])
        ∙ ap (λ b. if b then map (λ k. k.now) keys else map (λ k. k.now) keys ++ name.now ∷ []) (sym e ∙ among-now name.now keys)

-- what a look-up in the table says of the names
some_place : (b : Bool) (n m : ℕ) → n ≡ m → IfSome (cond b (Some n) None) (λ i. i ≡ m)
some_place true n m e = e
some_place false n m e = tt

pub found_place : (r : Option ℕ) (name : List ℕ) (keys : List (Bor (List ℕ))) (names : List (List ℕ))
    → r ≡ position (λ k. bytes_eq name k.now) keys → map (λ k. k.now) keys ≡ names → IfSome r (λ i. i ≡ place names name)
found_place r name keys names h v =
    subst (λ (o : Option ℕ). IfSome o (λ i. i ≡ place names name)) (sym h)
    (some_place (nat_lt (position_or_len (λ k. bytes_eq name k.now) keys) (length keys)) _ _ (place-now name keys ∙ ap (λ ns. place ns name) v))

pub found_there : (r : Option ℕ) (name : List ℕ) (keys : List (Bor (List ℕ))) (names : List (List ℕ))
    → is_some r ≡ list_any (λ k. bytes_eq name k.now) keys → map (λ k. k.now) keys ≡ names → IfSome r (λ i. is_among names name ≡ true)
found_there (Some i) name keys names h v = ap (λ ns. is_among ns name) (sym v) ∙ sym (among-now name keys) ∙ sym h
found_there None name keys names h v = tt

pub found_nothing : (r : Option ℕ) (name : List ℕ) (keys : List (Bor (List ℕ))) (names : List (List ℕ))
    → is_some r ≡ list_any (λ k. bytes_eq name k.now) keys → map (λ k. k.now) keys ≡ names → IfNone r (is_among names name ≡ false)
found_nothing (Some i) name keys names h v = tt
found_nothing None name keys names h v = ap (λ ns. is_among ns name) (sym v) ∙ sym (among-now name keys) ∙ sym h
