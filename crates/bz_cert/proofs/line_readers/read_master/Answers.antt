use Rattle.std.proofs.Common.{◌≡◌, ◌∷◌, ◌∙◌, [], length, arith, ap, inl, refl, sym}
use Rattle.bz_cert.specs.declared.words.Word.{Word}
use Rattle.bz_cert.proofs.Failing.{feed_refused, numbers_refused}
use Rattle.bz_cert.proofs.line_readers.read_master.Goals as goal

pub returns-in_err-den : goal.returns-in_err-den
returns-in_err-den c = numbers_refused _ (Word.Master ∷ []) _ _ Word.Master _ _ _ _ _ c.from_residual-in_err-den.ensures.1 c.in_err-den.ensures
    c.as_slice.ensures.value (inl refl) c.in_ok-numbers.ensures

pub returns-in_err-behind : goal.returns-in_err-behind
returns-in_err-behind c =
    let e : c.in_ok-numbers.numbers.items ≡ _ = sym c.as_slice.ensures.value ∙ c.in_ok-den.ensures in
    feed_refused _ (Word.Master ∷ []) _ _ Word.Master _ _ _ _ c.from_residual-in_err-behind.ensures.1 c.in_err-behind.ensures
    (inl refl) c.in_ok-numbers.ensures (λ before t. t) (omega (arith, ap length e)) (λ before. tt)
