-- What a field spells, by its tests.
use Rattle.std.proofs.Common.{ℕ, ◌^◌, ◌<◌, ◌≡◌, sym, ap, List, [], ◌∷◌, length, Option, Some, None}
use Rattle.bz_lines.specs.FirstFault.{first_failing}
use Rattle.bz_num.specs.declared.decimal.Dec.{Dec}
use Rattle.bz_num.specs.Decimals.{IsDecimal, IsDecimalText, IsTooWide, IsWithinLimits}
use Rattle.bz_facts.specs.declared.faults.MpsKind.{MpsKind}
use Rattle.bz_facts.specs.declared.faults.MpsKind.TheVariants.{Number, TooWide}
use Rattle.bz_facts.specs.LineFacts.{number_of}
use Rattle.bz_facts.specs.LineTests.{number_tests}
use Rattle.bz_facts.specs.Spellings.{Spelled, is_no_number, is_too_wide, no_number, number, spelled, too_wide, value}
use Rattle.bz_facts.proofs.SpellingLaws.{spelled_is}

-- the tests of a field that spells this
tests_of : Spelled → Option MpsKind
tests_of s = first_failing ((is_no_number s, Number) ∷ (is_too_wide s, TooWide) ∷ [])

pub number-spelled : (word : List ℕ) (d : Dec) → length word < 2 ^ 64 → IsDecimal word d → IsWithinLimits d → (first_failing (number_tests word) ≡ None) × (d ≡ number_of word)
unfolding tests_of
number-spelled word d l h k =
    let same : spelled word ≡ number d = spelled_is word (number d) l (h, k) in
    (ap tests_of same, sym (ap value same))

pub number-none : (word : List ℕ) → length word < 2 ^ 64 → (IsDecimalText word → ⊥) → first_failing (number_tests word) ≡ Some Number
unfolding tests_of
number-none word l h = ap tests_of (spelled_is word no_number l h)

pub number-wide : (word : List ℕ) → length word < 2 ^ 64 → IsTooWide word → first_failing (number_tests word) ≡ Some TooWide
unfolding tests_of
number-wide word l h = ap tests_of (spelled_is word too_wide l h)
