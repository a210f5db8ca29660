-- The first two blocks of a row's columns.
use Rattle.std.proofs.Common.{◌≡◌, ◌∙◌, ℕ, ℤ, zero, suc, ◌<◌, ◌≤◌, ◌⊎◌, inl, inr, List, [], ◌∷◌, ◌++◌, length, take, get_or, Some, arith, ap, refl, subst, sym}
use Rattle.std.specs.Prelude.{find, nat_lt, unwrap_or}
use Rattle.std.specs.List.{AllByRecursion}
use Rattle.std.proofs.lemmas.Bool.{cases_eq, lt-ltb}
use Rattle.bz_model.specs.Parting.{home_of, part_of}
use Rattle.bz_model.specs.Strict.{IsInOneBlock}
use Rattle.bz_split.specs.SplitFaults.{AreTwoBlocks, IsFirstNot, parts_of}
use Rattle.bz_split.proofs.FirstItems.{all_before_map, all_mapped, all_or_first, all_taken, first_found, first_mapped, not_all}

-- a column of the master, or of block a
abbrev pub IsIn : ℕ → ℕ → Type 0
IsIn a c = (c ≡ 0) ⊎ (c ≡ a)

-- ---- the row's part is its first block
find_seam : (before after : List ℕ) (a : ℕ) → AllByRecursion (λ c. c ≡ 0) before → (a ≡ 0 → ⊥) →
    find (λ b. nat_lt 0 b) (before ++ a ∷ after) ≡ Some a
find_seam [] after zero h n = absurd (n refl)
find_seam [] after (suc a) h n = rw (lt-ltb 0 (suc a) (omega arith)) refl
find_seam (c ∷ cs) after a h n = rw h.0 (find_seam cs after a h.1 n)

home_is_first : (part : List ℕ) (terms : List (ℕ × ℤ)) (i a : ℕ) → IsFirstNot (λ c. c ≡ 0) (parts_of part terms) i a → home_of part terms ≡ a
home_is_first part terms i a h =
    ap (λ cs. unwrap_or (find (λ b. nat_lt 0 b) cs) 0) h.whole ∙ ap (λ o. unwrap_or o 0) (find_seam h.before h.after a h.others h.fails)

is_zero : (c : ℕ) → (c ≡ 0) ⊎ (c ≡ 0 → ⊥)
is_zero c = cases_eq c 0

pub is_in : (a c : ℕ) → IsIn a c ⊎ (IsIn a c → ⊥)
is_in a c =
    elim (cases_eq c 0) [
      | inl z ↦ inl (inl z)
      | inr n ↦
          elim (cases_eq c a) [
            | inl e ↦ inl (inr e)
            | inr d ↦ inr (λ h. elim h [ inl z ↦ n z | inr e ↦ d e ])
          ]
    ]

all_in : (part : List ℕ) (h : ℕ) (terms : List (ℕ × ℤ)) → AllByRecursion (λ c. c ≡ 0) (parts_of part terms) → AllByRecursion (λ e. IsIn h (part_of part e.0)) terms
all_in part h [] z = tt
all_in part h (e ∷ es) z = (inl z.0, all_in part h es z.1)

-- the row's part, and the first number behind it of another block
pub two_blocks : (part : List ℕ) (terms : List (ℕ × ℤ)) (a : ℕ) (j b : ℕ) → home_of part terms ≡ a →
    IsFirstNot (IsIn a) (parts_of part terms) j b → AreTwoBlocks part terms a b
two_blocks part terms a j b e other =
    elim (all_or_first (λ c. c ≡ 0) is_zero (parts_of part terms)) [
      | inl z ↦ absurd (other.fails (seam_zero part terms j b a other z))
      | inr h ↦
          let same : h.1 ≡ a = sym (home_is_first part terms h.0 h.1 h.2) ∙ e in
          record { i = h.0; first = subst (λ (c : ℕ). IsFirstNot (λ d. d ≡ 0) (parts_of part terms) h.0 c) same h.2; j = j; other = other }
    ]
  where
    seam : (xs us : List ℕ) (x : ℕ) → AllByRecursion (λ c. c ≡ 0) (xs ++ x ∷ us) → x ≡ 0
    seam [] us x h = h.0
    seam (z ∷ zs) us x h = seam zs us x h.1

    seam_zero : (q : List ℕ) (ts : List (ℕ × ℤ)) (k c d : ℕ) → IsFirstNot (IsIn d) (parts_of q ts) k c → AllByRecursion (λ n. n ≡ 0) (parts_of q ts) → IsIn d c
    seam_zero q ts k c d f z = inl (seam f.before f.after c (subst (AllByRecursion (λ n. n ≡ 0)) f.whole z))

-- what the loop over a row's terms has found
pub two_found : (part : List ℕ) (terms items : List (ℕ × ℤ)) (a i : ℕ) (d : ℕ × ℤ) → a ≡ home_of part terms → items ≡ terms → i < length items →
    AllByRecursion (λ e. IsIn a (part_of part e.0)) (take i items) → (IsIn a (part_of part (get_or items i d).0) → ⊥) →
    AreTwoBlocks part terms a (part_of part (get_or items i d).0)
two_found part terms items a i d e s l h n =
    let found : IsFirstNot (IsIn a) (parts_of part items) i (part_of part (get_or items i d).0) =
    first_mapped (λ (t : ℕ × ℤ). part_of part t.0) (IsIn a) items i (get_or items i d) (first_found (λ (t : ℕ × ℤ). IsIn a (part_of part t.0)) items i d l h n) in
    two_blocks part terms a i (part_of part (get_or items i d).0) (sym e)
    (subst (λ (es : List (ℕ × ℤ)). IsFirstNot (IsIn a) (parts_of part es) i (part_of part (get_or items i d).0)) s found)

-- what it has where it finds none
pub none_found : (part : List ℕ) (terms items : List (ℕ × ℤ)) (a i : ℕ) → a ≡ home_of part terms → items ≡ terms → length items ≤ i →
    AllByRecursion (λ e. IsIn a (part_of part e.0)) (take i items) → IsInOneBlock part terms
none_found part terms items a i e s l h =
    let all : AllByRecursion (λ (t : ℕ × ℤ). IsIn a (part_of part t.0)) terms =
    subst (AllByRecursion (λ (t : ℕ × ℤ). IsIn a (part_of part t.0))) s (all_taken (λ (t : ℕ × ℤ). IsIn a (part_of part t.0)) items i l h) in
    subst (λ (b : ℕ). AllByRecursion (λ (t : ℕ × ℤ). IsIn b (part_of part t.0)) terms) e all

-- a row with two blocks is not in one
pub two_not_one : (part : List ℕ) (terms : List (ℕ × ℤ)) (a b : ℕ) → AreTwoBlocks part terms a b → IsInOneBlock part terms → ⊥
two_not_one part terms a b h o =
    let all : AllByRecursion (λ (t : ℕ × ℤ). IsIn a (part_of part t.0)) terms =
    subst (λ (c : ℕ). AllByRecursion (λ (t : ℕ × ℤ). IsIn c (part_of part t.0)) terms) (home_is_first part terms h.i a h.first) o in
    not_all (IsIn a) (parts_of part terms) h.j b h.other (all_mapped (λ (t : ℕ × ℤ). part_of part t.0) (IsIn a) terms all)

-- a row that is not in one block has two
pub some_two_blocks : (part : List ℕ) (terms : List (ℕ × ℤ)) → (IsInOneBlock part terms → ⊥) → (a : ℕ) × (b : ℕ) × AreTwoBlocks part terms a b
some_two_blocks part terms n =
    elim (all_or_first (IsIn (home_of part terms)) (is_in (home_of part terms)) (parts_of part terms)) [
      | inl h ↦ absurd (n (all_before_map (λ (e : ℕ × ℤ). part_of part e.0) (IsIn (home_of part terms)) terms h))
      | inr h ↦ (home_of part terms, h.1, two_blocks part terms (home_of part terms) h.0 h.1 refl h.2)
    ]
