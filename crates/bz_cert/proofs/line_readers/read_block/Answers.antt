use Rattle.std.proofs.Common.{◌≡◌, ◌∷◌, ◌∙◌, [], ℕ, suc, ◌+◌, ℤ, pos, List, length, arith, rules, ap, inl, refl, subst, sym}
use Rattle.bz_cert.specs.declared.faults.CertKind.{CertKind}
use Rattle.bz_cert.specs.declared.words.Word.{Word}
use Rattle.bz_cert.specs.CertFaults.{number_at}
use Rattle.bz_cert.specs.CertReading.{BeginsWithCertLine, NumbersFail}
use Rattle.bz_cert.specs.CertText.{line_with}
use Rattle.bz_cert.proofs.Refusals.{handed_on}
use Rattle.bz_cert.proofs.Failing.{failing_is, lacks_feed, numbers_fail, passes}
use Rattle.bz_cert.proofs.line_readers.read_block.Goals as goal

pub returns-in_err-word : goal.returns-in_err-word
returns-in_err-word c = handed_on _ _ _ _ _ c.from_residual.ensures.1 c.in_err-word.ensures (λ number kind h verdict before awaits blocks fine. h verdict before awaits fine)

pub returns-in_err-part : goal.returns-in_err-part
returns-in_err-part c =
    let same : c.in_ok-word.field-0.word ≡ Word.Block = c.is.ensures.0 (search rules) in
    let begins : BeginsWithCertLine c.args.at.rest.now (line_with Word.Block c.in_ok-word.field-0.numbers.items) c.in_ok-word.field-0.from_feed.now =
    subst (λ (w : Word). BeginsWithCertLine c.args.at.rest.now (line_with w c.in_ok-word.field-0.numbers.items) c.in_ok-word.field-0.from_feed.now) same c.in_ok-word.ensures.0 in
    handed_on _ _ _ _ _ c.from_residual-in_err-part.ensures.1 c.in_err-part.ensures (λ number kind h verdict before awaits blocks fine.
    numbers_fail verdict before (Word.Block ∷ c.args.last ∷ []) _ _ Word.Block _ _ number kind awaits (inl refl) begins (fine Word.Block (inl refl))
    (subst (λ (ns : List ℤ). NumbersFail (c.args.at.lines + 1) before Word.Block ns number kind) c.as_slice.ensures.value (h before blocks)))

-- the number of a block
block_number : (numbers : List ℤ) (block : ℕ) (rest : List ℤ) (blocks : ℕ) → numbers ≡ pos block ∷ rest → suc blocks ≡ block → number_at 0 numbers ≡ suc blocks
block_number numbers block rest blocks e b = ap (number_at 0) e ∙ sym b

pub returns-in_err-behind : goal.returns-in_err-behind
returns-in_err-behind c =
    let same : c.in_ok-word.field-0.word ≡ Word.Block = c.is.ensures.0 (search rules) in
    let begins : BeginsWithCertLine c.args.at.rest.now (line_with Word.Block c.in_ok-word.field-0.numbers.items) c.in_ok-word.field-0.from_feed.now =
    subst (λ (w : Word). BeginsWithCertLine c.args.at.rest.now (line_with w c.in_ok-word.field-0.numbers.items) c.in_ok-word.field-0.from_feed.now) same c.in_ok-word.ensures.0 in
    let e : c.in_ok-word.field-0.numbers.items ≡ pos c.args.block ∷ c.in_ok-part.part.times ∷ c.in_ok-part.part.y = sym c.as_slice.ensures.value ∙ c.in_ok-part.ensures in
    handed_on _ _ _ _ _ c.from_residual-in_err-behind.ensures.1 c.in_err-behind.ensures (λ number kind h verdict before awaits blocks fine.
    failing_is verdict before _ _ number _ kind CertKind.End h.0 h.1
    (lacks_feed verdict before _ _ (line_with Word.Block c.in_ok-word.field-0.numbers.items) _ begins
    (passes verdict before (Word.Block ∷ c.args.last ∷ []) _ Word.Block _ _ awaits (inl refl) begins (fine Word.Block (inl refl)) (λ t. t)
    (omega (arith, ap length e)) (block_number _ _ _ before.blocks e blocks)) h.2))
