use Rattle.std.proofs.Common.{arith}
use Rattle.bz_cert.specs.declared.faults.CertKind.{CertKind}
use Rattle.bz_cert.specs.declared.words.Word.{Word}
use Rattle.bz_cert.proofs.Bounds.{blocks_open, blocks_to}
use Rattle.bz_cert.proofs.Phases.{failing_from}
use Rattle.bz_cert.proofs.Refusals.{handed_on}
use Rattle.bz_cert.proofs.body.read_directed.Goals as goal

pub returns-in_err-behind : goal.returns-in_err-behind
returns-in_err-behind c =
    handed_on _ _ _ _ _ c.from_residual-in_err-behind.ensures.1 c.in_err-behind.ensures (λ number kind h verdict before a.
    failing_from verdict before _ _ number _ kind CertKind.End h.0 h.1
    (blocks_open Word.Ray _ _ _ _ _ _ _ c.in_ok-blocks.ensures h.2 (λ b t. t) tt (λ b. tt) verdict before a))

pub returns : goal.returns
returns c = record {
  reads = λ verdict before a. blocks_to Word.Ray _ _ _ _ _ _ _ _ _ c.in_ok-blocks.ensures c.in_ok-behind.ensures.0 c.in_ok-behind.ensures.1 (λ b t. t) tt (λ b. tt) verdict before a;
  few = omega (arith, c.in_ok-blocks.ensures.count, c.in_ok-blocks.blocks.behind.room);
}
