use Rattle.std.proofs.Common.{◌∷◌, [], inl, refl}
use Rattle.bz_cert.specs.declared.words.Word.{Word}
use Rattle.bz_cert.proofs.Failing.{feed_refused}
use Rattle.bz_cert.proofs.line_readers.read_eta.Goals as goal

pub returns-in_err-behind : goal.returns-in_err-behind
returns-in_err-behind c = feed_refused _ (Word.Eta ∷ []) _ _ Word.Eta _ _ _ _ c.from_residual-in_err-behind.ensures.1 c.in_err-behind.ensures
    (inl refl) c.in_ok-eta.ensures (λ before t. t) tt (λ before. tt)
