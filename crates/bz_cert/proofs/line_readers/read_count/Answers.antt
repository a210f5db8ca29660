use Rattle.std.proofs.Common.{◌≡◌, ◌∷◌, ◌∙◌, [], pos, length, arith, ap, inl, refl, sym}
use Rattle.bz_cert.specs.declared.words.Word.{Word}
use Rattle.bz_cert.proofs.Failing.{feed_refused, few_cuts, numbers_refused}
use Rattle.bz_cert.proofs.line_readers.read_count.Goals as goal

pub returns-in_err-count : goal.returns-in_err-count
returns-in_err-count c = numbers_refused _ (Word.Cuts ∷ []) _ _ Word.Cuts _ _ _ _ _ c.from_residual-in_err-count.ensures.1 c.in_err-count.ensures
    c.as_slice.ensures.value (inl refl) c.in_ok-numbers.ensures

pub returns-in_err-behind : goal.returns-in_err-behind
returns-in_err-behind c =
    let e : c.in_ok-numbers.numbers.items ≡ pos c.in_ok-count.count ∷ [] = sym c.as_slice.ensures.value ∙ c.in_ok-count.ensures.0 in
    feed_refused _ (Word.Cuts ∷ []) _ _ Word.Cuts _ _ _ _ c.from_residual-in_err-behind.ensures.1 c.in_err-behind.ensures
    (inl refl) c.in_ok-numbers.ensures (λ before. few_cuts _ _ e c.in_ok-count.ensures.1) (omega (arith, ap length e)) (λ before. tt)
