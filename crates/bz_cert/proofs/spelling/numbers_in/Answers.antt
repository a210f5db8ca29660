use Rattle.std.proofs.Common.{◌≡◌, ◌∷◌, ◌++◌, ◌∙◌, [], ℕ, ℤ, List, ap, refl, sym, append_assoc, append-nil, FitsSigned, to_z-of_z, rules}
use Rattle.std.specs.Fmt.{signed_decimal}
use Rattle.std.specs.Int.{w128}
use Rattle.std.specs.List.{flat_map}
use Rattle.std.proofs.lemmas.Grind.{flat_map-append}
use Rattle.bz_algebra.specs.Numbers.{IsNarrow}
use Rattle.bz_cert.specs.CertReading.{IsSpelled}
use Rattle.bz_model.proofs.MeetingParts.{all_append}
use Rattle.bz_cert.proofs.NumberTexts.{none_at_end, none_before, none_here, shorter_behind}
use Rattle.bz_cert.proofs.Refusals.{faulted}
use Rattle.bz_cert.proofs.spelling.numbers_in.Goals as goal

-- one more number behind those of a text
number_pushed : (text rest behind field after : List ℕ) (numbers : List ℤ) (z : ℤ) →
    text ≡ flat_map (λ n. 32 ∷ signed_decimal n) numbers ++ rest → rest ≡ (32 ∷ []) ++ behind → behind ≡ field ++ after →
    IsSpelled field z → text ≡ flat_map (λ n. 32 ∷ signed_decimal n) (numbers ++ z ∷ []) ++ after
number_pushed text rest behind field after numbers z h r b is =
    h ∙ ap (λ t. flat_map (λ n. 32 ∷ signed_decimal n) numbers ++ t)
    (r ∙ ap (λ t. 32 ∷ t) (b ∙ ap (λ t. t ++ after) (is.spelling ∙ sym (append-nil (signed_decimal z)))))
    ∙ sym (append_assoc (flat_map (λ n. 32 ∷ signed_decimal n) numbers) (flat_map (λ n. 32 ∷ signed_decimal n) (z ∷ [])) after)
    ∙ ap (λ t. t ++ after) (sym (flat_map-append (λ n. 32 ∷ signed_decimal n) numbers (z ∷ [])))

pub numbers-preserved : goal.numbers-preserved
numbers-preserved c =
    let f : FitsSigned w128 c.in-Some-number_of.number = search rules in
    record {
      spelled = rw (c.in_ok-push.ensures.items, to_z-of_z f)
          (number_pushed _ _ _ _ _ _ _ c.numbers.invariant.spelled c.in-Some.ensures.found c.cut_at.ensures.joined c.in-Some-number_of.ensures.spelled);
      narrow = rw (c.in_ok-push.ensures.items, to_z-of_z f)
          (all_append IsNarrow c.numbers.numbers.items (c.in-Some-number_of.number ∷ []) c.numbers.invariant.narrow (c.in-Some-number_of.ensures.spelled.narrow, tt));
      none = λ no. c.numbers.invariant.none
          (none_before _ _ _ _ c.in-Some.ensures.found c.cut_at.ensures.joined c.cut_at.ensures.before c.cut_at.ensures.from_there no);
    }

pub numbers-smaller : goal.numbers-smaller
numbers-smaller c = shorter_behind _ _ _ _ c.in-Some.ensures.found c.cut_at.ensures.joined

pub returns-in_default-number_of : goal.returns-in_default-number_of
returns-in_default-number_of c = faulted _ _ _ _ c.fault.ensures (
  refl,
  refl,
  c.numbers.invariant.none
      (none_here _ _ _ _ c.in-Some.ensures.found c.cut_at.ensures.joined c.cut_at.ensures.before c.cut_at.ensures.from_there
      c.in_default-number_of.ensures.no_other),
)

pub returns-else-is_empty : goal.returns-else-is_empty
returns-else-is_empty c = faulted _ _ _ _ c.fault-else-is_empty.ensures
    (refl, refl, c.numbers.invariant.none (none_at_end _ c.in_default.ensures.none (search rules)))
