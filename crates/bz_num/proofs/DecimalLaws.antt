-- What is told of the reader's answer, and the laws of decimals.
use Rattle.std.proofs.Common.{ℕ, ◌+◌, ◌<◌, ◌≤◌, ◌≡◌, refl, sym, ap, subst, Result, Ok, Err, IfOk, IfErr, List, ◌++◌, take, drop, append_assoc, arith}
use Rattle.std.proofs.lemmas.List.{take-append-drop, take-take}
use Rattle.std.specs.Str.Parse.{digits_value}
use Rattle.bz_num.specs.declared.decimal.Dec.{Dec}
use Rattle.bz_num.specs.declared.decimal.NumFault.{NumFault}
use Rattle.bz_num.specs.declared.decimal.NumFault.TheVariants.{Form, TooWide}
use Rattle.bz_num.specs.Decimals.{part_digits, exponent, IsDecimalText, IsDecimal, IsWithinLimits, BeginsDecimal, IsStop, IsNumFault}
use Rattle.bz_num.proofs.DecimalEnds.{EndTells}
use Rattle.bz_num.proofs.DecimalValues.{reduced_of, same_decimal}

-- a decimal text has a value
pub value_of_text : (text : List ℕ) → IsDecimalText text → (d : Dec) × IsDecimal text d
value_of_text text h =
    let s = h.spelling in
    let reduced = reduced_of s.sign (digits_value 10 (s.whole ++ part_digits s.part)) (exponent s) in
    (reduced.0, record { spelling = s; spells = h.spells; value = reduced.1 })

-- and a text with a value is a decimal
text-from_value : (text : List ℕ) (d : Dec) → IsDecimal text d → IsDecimalText text
text-from_value text d h = record { spelling = h.spelling; spells = h.spells }

begins-front : (xs ys : List ℕ) → BeginsDecimal (xs ++ ys) → BeginsDecimal xs
begins-front xs ys h = record {
  behind = ys ++ h.behind;
  whole = subst IsDecimalText (append_assoc xs ys h.behind) h.whole;
}

-- what stands before the beginning of a decimal is one too
begins-before : (text : List ℕ) (i j : ℕ) → i ≤ j → BeginsDecimal (take j text) → BeginsDecimal (take i text)
begins-before text i j l h =
    let front : take i (take j text) ≡ take i text = take-take i j text l in
    subst BeginsDecimal front (begins-front (take i (take j text)) (drop i (take j text)) (subst BeginsDecimal (sym (take-append-drop i (take j text))) h))

stop-not_before : (text : List ℕ) (i j : ℕ) → IsStop text i → IsStop text j → i < j → ⊥
stop-not_before text i j h k l =
    h.stops (omega (arith, k.inside)) (begins-before text (i + 1) j (omega arith) k.begins)

pub same_stop : (text : List ℕ) (i j : ℕ) → IsStop text i → IsStop text j → i ≡ j
same_stop text i j h k =
    let not_before : i < j → ⊥ = stop-not_before text i j h k in
    let not_after : j < i → ⊥ = stop-not_before text j i k h in
    omega arith

pub spelled-from_result : (text : List ℕ) (result : Result Dec NumFault) → EndTells text result → IfOk result (IsDecimal text)
spelled-from_result text (Ok d) h = h.0
spelled-from_result text (Err fault) h = tt

pub within-from_result : (text : List ℕ) (result : Result Dec NumFault) → EndTells text result → IfOk result IsWithinLimits
within-from_result text (Ok d) h = h.1
within-from_result text (Err fault) h = tt

pub fault-from_result : (text : List ℕ) (result : Result Dec NumFault) → EndTells text result → IfErr result (IsNumFault text)
fault-from_result text (Ok d) h = tt
fault-from_result text (Err fault) h = h

-- a decimal within the limits is what is answered
pub read-from_result : (text : List ℕ) (result : Result Dec NumFault) → EndTells text result → (d : Dec) → IsDecimal text d → IsWithinLimits d → result ≡ Ok d
read-from_result text (Ok e) h d is within = ap Ok (same_decimal text e d h.0 is)
read-from_result text (Err (Form at)) h d is within = absurd (h.none (text-from_value text d is))
read-from_result text (Err TooWide) h d is within =
    absurd (h.outside (subst IsWithinLimits (same_decimal text d h.decimal is h.spelled) within))

-- and so is a fault
pub refused-from_result : (text : List ℕ) (result : Result Dec NumFault) → EndTells text result → (fault : NumFault) → IsNumFault text fault → result ≡ Err fault
refused-from_result text (Ok d) h (Form at) k = absurd (k.none (text-from_value text d h.0))
refused-from_result text (Ok d) h TooWide k =
    absurd (k.outside (subst IsWithinLimits (same_decimal text d k.decimal h.0 k.spelled) h.1))
refused-from_result text (Err (Form i)) h (Form j) k = ap (λ (n : ℕ). Err (Form n)) (same_stop text i j h k)
refused-from_result text (Err (Form i)) h TooWide k = absurd (h.none (text-from_value text k.decimal k.spelled))
refused-from_result text (Err TooWide) h (Form j) k = absurd (k.none (text-from_value text h.decimal h.spelled))
refused-from_result text (Err TooWide) h TooWide k = refl
