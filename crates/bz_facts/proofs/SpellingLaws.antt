-- What a field is as a number, is so exactly.
use Rattle.std.proofs.Common.{ℕ, ◌^◌, ◌<◌, ◌≡◌, refl, sym, ap, ◌∙◌, subst, List, [], ◌∷◌, ◌++◌, length, Option, Some, None, Result, Ok, Err, fold, option_and_then, append_assoc, append-nil}
use Rattle.std.proofs.lemmas.Grind.{fold-append}
use Rattle.std.specs.Option.{option_map_or}
use Rattle.bz_num.specs.declared.decimal.Dec.{Dec}
use Rattle.bz_num.specs.declared.decimal.NumFault.{NumFault}
use Rattle.bz_num.specs.declared.decimal.NumFault.TheVariants.{Form, TooWide}
use Rattle.bz_num.specs.Decimals.{IsDecimalText, IsWithinLimits}
use Rattle.bz_num.specs.DecimalSteps.{end_of, kind_of, read_on, start}
use Rattle.bz_num.proofs.DecimalEnds.{EndTells, end-tells}
use Rattle.bz_num.proofs.DecimalFronts.{Front, at_start, run, run-append, run-spells}
use Rattle.bz_num.proofs.DecimalReadings.{ReadTells, read-more, read-start}
use Rattle.bz_num.proofs.DecimalValues.{same_decimal}
use Rattle.bz_facts.specs.Spellings.{IsSpelled, Spelled, as_spelled, no_number, number, spelled, too_wide}

-- one more byte of a field
next_byte : (front : List ℕ) (b : ℕ) → ReadTells front (fold (λ o b. option_and_then (λ r. read_on r (kind_of b)) o) (Some start) front) → ReadTells (front ++ b ∷ []) (option_and_then (λ r. read_on r (kind_of b)) (fold (λ o b. option_and_then (λ r. read_on r (kind_of b)) o) (Some start) front))
next_byte front b =
    elim (fold (λ o b. option_and_then (λ r. read_on r (kind_of b)) o) (Some start) front) as (λ o. ReadTells front o → ReadTells (front ++ b ∷ []) (option_and_then (λ r. read_on r (kind_of b)) o)) [
      | None ↦ λ e. run-append (Some at_start) front (b ∷ []) ∙ ap (λ (o : Option Front). run o (b ∷ [])) e
      | Some r ↦ λ h. read-more front b r h
    ]

-- all bytes of a field, of which the first were read
all_bytes : (front bytes : List ℕ) → ReadTells front (fold (λ o b. option_and_then (λ r. read_on r (kind_of b)) o) (Some start) front) → ReadTells (front ++ bytes) (fold (λ o b. option_and_then (λ r. read_on r (kind_of b)) o) (Some start) (front ++ bytes))
all_bytes front [] h =
    subst (λ (l : List ℕ). ReadTells l (fold (λ o b. option_and_then (λ r. read_on r (kind_of b)) o) (Some start) l)) (sym (append-nil front)) h
all_bytes front (b ∷ bytes) h =
    let one_more : ReadTells (front ++ b ∷ []) (fold (λ o b. option_and_then (λ r. read_on r (kind_of b)) o) (Some start) (front ++ b ∷ [])) =
    subst (ReadTells (front ++ b ∷ [])) (sym (fold-append (λ o b. option_and_then (λ r. read_on r (kind_of b)) o) (Some start) front (b ∷ []))) (next_byte front b h) in
    subst (λ (l : List ℕ). ReadTells l (fold (λ o b. option_and_then (λ r. read_on r (kind_of b)) o) (Some start) l)) (append_assoc front (b ∷ []) bytes)
    (all_bytes (front ++ b ∷ []) bytes one_more)

no_decimal : (word : List ℕ) → run (Some at_start) word ≡ None → IsDecimalText word → ⊥
no_decimal word e d = let some = run-spells d.spelling word d.spells in absurd cc

answered : (word : List ℕ) (r : Result Dec NumFault) → EndTells word r → IsSpelled word (as_spelled r)
answered word (Ok d) h = h
answered word (Err (Form at)) h = h.none
answered word (Err TooWide) h = h

-- a field is what it is said to be
pub spelled_is_exact : (word : List ℕ) → length word < 2 ^ 64 → IsSpelled word (spelled word)
unfolding spelled
spelled_is_exact word l =
    elim (fold (λ o b. option_and_then (λ r. read_on r (kind_of b)) o) (Some start) word) as (λ o. ReadTells word o → IsSpelled word (option_map_or (λ r. as_spelled (end_of r (length word))) o no_number)) [
      | None ↦ λ e. no_decimal word e
      | Some r ↦ λ h. answered word (end_of r (length word)) (end-tells word r h l)
    ] (all_bytes [] word read-start)

-- a field is one thing alone
pub same_spelled : (word : List ℕ) (s t : Spelled) → IsSpelled word s → IsSpelled word t → s ≡ t
same_spelled word (number d) (number e) h k = ap number (same_decimal word d e h.0 k.0)
same_spelled word (number d) too_wide h k =
    absurd (k.outside (subst IsWithinLimits (same_decimal word d k.decimal h.0 k.spelled) h.1))
same_spelled word (number d) no_number h k = absurd (k (record { spelling = h.0.spelling; spells = h.0.spells }))
same_spelled word too_wide (number e) h k =
    absurd (h.outside (subst IsWithinLimits (same_decimal word e h.decimal k.0 h.spelled) k.1))
same_spelled word too_wide too_wide h k = refl
same_spelled word too_wide no_number h k = absurd (k (record { spelling = h.spelled.spelling; spells = h.spelled.spells }))
same_spelled word no_number (number e) h k = absurd (h (record { spelling = k.0.spelling; spells = k.0.spells }))
same_spelled word no_number too_wide h k = absurd (h (record { spelling = k.spelled.spelling; spells = k.spelled.spells }))
same_spelled word no_number no_number h k = refl

-- whatever a field is, is what it is said to be
pub spelled_is : (word : List ℕ) (s : Spelled) → length word < 2 ^ 64 → IsSpelled word s → spelled word ≡ s
spelled_is word s l h = same_spelled word (spelled word) s (spelled_is_exact word l) h
