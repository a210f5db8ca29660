use Rattle.std.proofs.Common.{◌≡◌, ◌∷◌, ◌∙◌, [], ℤ, List, length, rules, arith, ap, subst, sym, ◌++◌, FitsSigned, to_z-of_z}
use Rattle.std.specs.Int.{w128}
use Rattle.bz_cert.specs.declared.faults.CertKind.{CertKind}
use Rattle.bz_cert.specs.declared.words.Word.{Word}
use Rattle.bz_cert.specs.CertReading.{Reads}
use Rattle.bz_cert.proofs.Bounds.{blocks_numbers_fail, blocks_open, blocks_to}
use Rattle.bz_cert.specs.CertText.{block_lines, line_with}
use Rattle.bz_cert.proofs.Phases.{failing_from}
use Rattle.bz_cert.proofs.Refusals.{handed_on}
use Rattle.bz_cert.proofs.body.read_valued.Goals as goal

pub returns-in_err-value : goal.returns-in_err-value
returns-in_err-value c = handed_on _ _ _ _ _ c.from_residual-in_err-value.ensures.1 c.in_err-value.ensures (λ number kind h verdict before a.
    blocks_numbers_fail Word.Value _ _ _ _ _ _ _ _ number kind c.in_ok-blocks.ensures c.as_slice.ensures.value h verdict before a)

pub returns-in_err-behind : goal.returns-in_err-behind
returns-in_err-behind c =
    let f : FitsSigned w128 c.in_ok-value.value = search rules in
    let e : c.in_ok-blocks.blocks.last.items ≡ c.in_ok-value.value ∷ [] = sym c.as_slice.ensures.value ∙ c.in_ok-value.ensures in
    handed_on _ _ _ _ _ c.from_residual-in_err-behind.ensures.1 c.in_err-behind.ensures (λ number kind h verdict before a.
    failing_from verdict before _ _ number _ kind CertKind.End h.0 h.1
    (blocks_open Word.Value _ _ _ _ _ _ _ c.in_ok-blocks.ensures h.2 (λ b t. t) (ap length e) (λ b. tt) verdict before a))

pub returns : goal.returns
returns c =
    let f : FitsSigned w128 c.in_ok-value.value = search rules in
    let e : c.in_ok-blocks.blocks.last.items ≡ c.in_ok-value.value ∷ [] = sym c.as_slice.ensures.value ∙ c.in_ok-value.ensures in
    rw (to_z-of_z f) (record {
      reads = λ verdict before a. subst (λ (ns : List ℤ). Reads verdict before (block_lines 1 c.in_ok-blocks.blocks.parts.items ++ line_with Word.Value ns ∷ [])
          c.args.at.lines c.args.at.rest.now c.in_ok-behind.behind.lines c.in_ok-behind.behind.rest.now) e
          (blocks_to Word.Value _ _ _ _ _ _ _ _ _ c.in_ok-blocks.ensures c.in_ok-behind.ensures.0 c.in_ok-behind.ensures.1 (λ b t. t) (ap length e) (λ b. tt) verdict before a);
      few = omega (arith, c.in_ok-blocks.ensures.count, c.in_ok-blocks.blocks.behind.room);
    })
