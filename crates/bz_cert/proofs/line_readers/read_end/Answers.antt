use Rattle.std.proofs.Common.{◌≡◌, ◌∷◌, ◌∙◌, [], ℕ, ◌+◌, ℤ, List, length, rules, ap, subst, sym, IsTrue}
use Rattle.bz_cert.specs.declared.faults.CertKind.{CertKind}
use Rattle.bz_cert.specs.declared.words.Word.{Word}
use Rattle.bz_cert.specs.CertFaults.{BreaksTree}
use Rattle.bz_cert.specs.CertReading.{BeginsWithCertLine, FailsAtEnd, NumbersFail, Only, ReadsLine}
use Rattle.bz_cert.specs.declared.places.Place.{Place}
use Rattle.bz_cert.specs.CertText.{line_with}
use Rattle.bz_cert.proofs.Refusals.{answers_also, faulted, handed_on}
use Rattle.bz_cert.proofs.Failing.{breaks_tree, failing_is, lacks_feed, line_of_numbers, no_numbers, numbers_fail, passes}
use Rattle.bz_cert.proofs.line_readers.read_end.Goals as goal

pub returns-in_err-word : goal.returns-in_err-word
returns-in_err-word c = handed_on _ _ _ _ _ c.from_residual.ensures.1 c.in_err-word.ensures (λ number kind h verdict before awaits is_in fine breaks. h verdict before awaits)

pub returns-then-not-is : goal.returns-then-not-is
returns-then-not-is c =
    let other : c.in_ok-word.field-0.word ≡ Word.End → ⊥ = λ e. let t : IsTrue c.is.result = c.is.ensures.1 e in absurd (cc (t, c.if-not-is.true)) in
    faulted _ _ _ _ c.fault.ensures (λ verdict before awaits is_in fine breaks.
    breaks_tree verdict before c.args.words.now _ _ c.in_ok-word.field-0.word _ _ awaits c.in_ok-word.ensures.1 c.in_ok-word.ensures.0
    (breaks c.in_ok-word.field-0.word c.in_ok-word.ensures.1 other))

pub returns-in_err-numbers : goal.returns-in_err-numbers
returns-in_err-numbers c =
    let same : c.in_ok-word.field-0.word ≡ Word.End = c.is.ensures.0 (search rules) in
    handed_on _ _ _ _ _ c.from_residual-in_err-numbers.ensures.1 c.in_err-numbers.ensures (λ number kind h verdict before awaits is_in fine breaks.
    failing_is verdict before _ _ number _ kind CertKind.Number h.0 h.1
    (no_numbers verdict before c.args.words.now _ _ c.in_ok-word.field-0.word _ _ awaits c.in_ok-word.ensures.1 c.in_ok-word.ensures.0
    (λ t. fine (subst (BreaksTree verdict before) same t)) h.2))

pub returns-in_err-nothing_of : goal.returns-in_err-nothing_of
returns-in_err-nothing_of c =
    let same : c.in_ok-word.field-0.word ≡ Word.End = c.is.ensures.0 (search rules) in
    let begins : BeginsWithCertLine c.args.at.rest.now (line_with Word.End c.in_ok-numbers.numbers.items) c.in_ok-word.field-0.from_feed.now =
    subst (λ (w : Word). BeginsWithCertLine c.args.at.rest.now (line_with w c.in_ok-numbers.numbers.items) c.in_ok-word.field-0.from_feed.now) same
    (line_of_numbers _ _ _ _ _ c.in_ok-word.ensures.0 c.in_ok-numbers.ensures) in
    handed_on _ _ _ _ _ c.from_residual-in_err-nothing_of.ensures.1 c.in_err-nothing_of.ensures (λ number kind h verdict before awaits is_in fine breaks.
    numbers_fail verdict before c.args.words.now _ _ Word.End _ _ number kind awaits is_in begins fine
    (subst (λ (ns : List ℤ). NumbersFail (c.args.at.lines + 1) before Word.End ns number kind) c.as_slice.ensures.value (h before)))

-- the line feed behind the last line
ends : (lines : ℕ) (rest from_feed : List ℕ) (numbers : List ℤ) (lines_now : ℕ) (rest_now : List ℕ) →
    BeginsWithCertLine rest (line_with Word.End numbers) from_feed → numbers ≡ [] → from_feed ≡ 10 ∷ rest_now → lines_now ≡ lines + 1 →
    ReadsLine lines rest (line_with Word.End []) lines_now rest_now
ends lines rest from_feed numbers lines_now rest_now begins none feed count = record {
  begins = subst (λ (f : List ℕ). BeginsWithCertLine rest (line_with Word.End []) f) feed
      (subst (λ (ns : List ℤ). BeginsWithCertLine rest (line_with Word.End ns) from_feed) none begins);
  count = count;
}

pub returns : goal.returns
returns c =
    let same : c.in_ok-word.field-0.word ≡ Word.End = c.is.ensures.0 (search rules) in
    let begins : BeginsWithCertLine c.args.at.rest.now (line_with Word.End c.in_ok-numbers.numbers.items) c.in_ok-word.field-0.from_feed.now =
    subst (λ (w : Word). BeginsWithCertLine c.args.at.rest.now (line_with w c.in_ok-numbers.numbers.items) c.in_ok-word.field-0.from_feed.now) same
    (line_of_numbers _ _ _ _ _ c.in_ok-word.ensures.0 c.in_ok-numbers.ensures) in
    let none : c.in_ok-numbers.numbers.items ≡ [] = sym c.as_slice.ensures.value ∙ c.in_ok-nothing_of.ensures in
    let fails : (number : ℕ) (kind : CertKind) → Only (c.args.at.lines + 1) CertKind.End (c.in_ok-word.field-0.from_feed.now ≡ []) number kind →
    FailsAtEnd c.args.words.now c.args.at.lines c.args.at.rest.now number kind =
    λ number kind h verdict before awaits is_in fine breaks.
    failing_is verdict before _ _ number _ kind CertKind.End h.0 h.1
    (lacks_feed verdict before _ _ (line_with Word.End c.in_ok-numbers.numbers.items) _ begins
    (passes verdict before c.args.words.now _ Word.End _ _ awaits is_in begins fine (λ t. t) (ap length none) tt) h.2) in
    answers_also _ _ _ _ _ c.next_place.ensures
    (λ (behind : Place) (h : (c.in_ok-word.field-0.from_feed.now ≡ 10 ∷ behind.rest.now) × (behind.lines ≡ c.args.at.lines + 1)).
    ends _ _ _ _ _ _ begins none h.0 h.1)
    fails
