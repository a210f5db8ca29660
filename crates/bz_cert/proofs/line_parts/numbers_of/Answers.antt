use Rattle.std.proofs.Common.{ℤ, List, ◌≡◌, IsTrue, refl, subst, sym, ◌∙◌}
use Rattle.std.specs.List.{AllByRecursion}
use Rattle.bz_cert.specs.CertFaults.{IsIndex, indexes_of}
use Rattle.bz_cert.proofs.NumberTexts.{same_spelling}
use Rattle.bz_cert.proofs.Refusals.{faulted}
use Rattle.bz_cert.proofs.line_parts.numbers_of.Goals as goal

pub returns-else-has_indexes : goal.returns-else-has_indexes
returns-else-has_indexes c = faulted _ _ _ _ c.fault.ensures (
  refl,
  refl,
  λ ns h.
      let same : ns ≡ c.in_ok-numbers.numbers.items = same_spelling _ _ _ h.numbers_are c.in_ok-numbers.ensures in
      let e : ns ≡ c.as_slice.result.now = same ∙ sym c.as_slice.ensures.value in
      let t : IsTrue c.has_indexes.result = c.has_indexes.ensures.1 (subst (λ (xs : List ℤ). AllByRecursion IsIndex (indexes_of c.args.word xs)) e h.indexes) in
      absurd (cc (t, c.if-has_indexes.false)),
)
