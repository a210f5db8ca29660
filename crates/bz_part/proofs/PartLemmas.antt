-- The names of a model's columns, one more at a time.
use Rattle.std.proofs.Common.{◌≡◌, ◌∙◌, ◌∷◌, ◌++◌, [], ℕ, ◌+◌, ◌<◌, ◌||◌, Bool, true, false, if◌then◌else◌, List, length, map, take, get_or, ap, sym, refl}
use Rattle.std.specs.Prelude.{bytes_eq}
use Rattle.std.specs.List.{list_any}
use Rattle.std.proofs.lemmas.List.{map-append}
use Rattle.std.proofs.lemmas.List.Folds.{list_any-append}
use Rattle.std.specs.Cmp.Lexicographic.{same_text}
use Rattle.bz_model.specs.declared.records.Column.{Column}
use Rattle.bz_model.proofs.Joins.{take_next}
use Rattle.bz_lines.specs.NameLists.{is_among, with_name}

same_bytes : (x y : List ℕ) → bytes_eq x y ≡ true → x ≡ y
same_bytes x y e = same_text x y (sym e)

-- what is among names with one more
among_by : (names : List (List ℕ)) (name q : List ℕ) (b : Bool) → is_among names name ≡ b →
    is_among (if b then names else names ++ name ∷ []) q ≡ is_among (names ++ name ∷ []) q
among_by names name q false e = refl
among_by names name q true e = among_again names name q (bytes_eq q name) refl e
  where
    among_again : (ns : List (List ℕ)) (n p : List ℕ) (b : Bool) → bytes_eq p n ≡ b → is_among ns n ≡ true →
        is_among ns p ≡ is_among (ns ++ n ∷ []) p
    among_again ns n p true s m =
        ap (is_among ns) (same_bytes p n s) ∙ m ∙ sym (list_any-append (bytes_eq p) ns (n ∷ []) ∙ ap (λ b. is_among ns p || (b || false)) s ∙ ap (λ b. b || true) (ap (is_among ns) (same_bytes p n s) ∙ m))
    among_again ns n p false s m = sym (list_any-append (bytes_eq p) ns (n ∷ []) ∙ ap (λ b. is_among ns p || (b || false)) s ∙ or_false (is_among ns p))
      where
        or_false : (b : Bool) → (b || false) ≡ b
        or_false true = refl
        or_false false = refl

pub among_pushed : (names more : List (List ℕ)) (name : List ℕ) → ((q : List ℕ) → is_among names q ≡ is_among more q) →
    (q : List ℕ) → is_among (with_name names name) q ≡ is_among (more ++ name ∷ []) q
among_pushed names more name h q =
    among_by names name q (is_among names name) refl ∙ list_any-append (bytes_eq q) names (name ∷ [])
    ∙ ap (λ b. b || list_any (bytes_eq q) (name ∷ [])) (h q) ∙ sym (list_any-append (bytes_eq q) more (name ∷ []))

-- the names of the columns up to one more
pub names_taken : (columns : List Column) (i : ℕ) (column : Column) → i < length columns → column ≡ get_or columns i column →
    map (λ c. c.name) (take i columns) ++ column.name ∷ [] ≡ map (λ c. c.name) (take (i + 1) columns)
names_taken columns i column h is =
    sym (ap (map (λ c. c.name)) (take_next columns i column h is) ∙ map-append (λ c. c.name) (take i columns) (column ∷ []))
