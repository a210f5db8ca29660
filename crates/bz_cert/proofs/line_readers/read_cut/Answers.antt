use Rattle.std.proofs.Common.{◌≡◌, ◌∷◌, ◌∙◌, [], inl, refl, sym}
use Rattle.bz_cert.specs.declared.words.Word.{Word}
use Rattle.bz_cert.specs.CertText.{cut_line}
use Rattle.bz_cert.proofs.Failing.{cut_numbers, feed_refused, numbers_refused}
use Rattle.bz_cert.proofs.line_readers.read_cut.Goals as goal

pub returns-in_err-cut : goal.returns-in_err-cut
returns-in_err-cut c = numbers_refused _ (Word.Cut ∷ []) _ _ Word.Cut _ _ _ _ _ c.from_residual-in_err-cut.ensures.1 c.in_err-cut.ensures
    c.as_slice.ensures.value (inl refl) c.in_ok-numbers.ensures

pub returns-in_err-behind : goal.returns-in_err-behind
returns-in_err-behind c =
    let e : c.in_ok-numbers.numbers.items ≡ (cut_line c.in_ok-cut.cut).numbers = sym c.as_slice.ensures.value ∙ c.in_ok-cut.ensures.0 in
    feed_refused _ (Word.Cut ∷ []) _ _ Word.Cut _ _ _ _ c.from_residual-in_err-behind.ensures.1 c.in_err-behind.ensures
    (inl refl) c.in_ok-numbers.ensures (λ before t. t) (cut_numbers _ c.in_ok-cut.cut e)
    (λ before. (cut_numbers _ c.in_ok-cut.cut e, c.in_ok-cut.ensures.1.alpha.sparse, c.in_ok-cut.ensures.1.mu.sparse))
