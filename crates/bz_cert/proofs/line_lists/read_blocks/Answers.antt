use Rattle.std.proofs.Common.{◌≡◌, ◌∷◌, ◌+◌, pos, length, rules, arith, subst, length-append, []}
use Rattle.bz_cert.specs.declared.words.Word.{Word}
use Rattle.bz_cert.specs.BlockLines.{BlockLineIs}
use Rattle.bz_cert.specs.CertReading.{ReadsLine}
use Rattle.bz_cert.specs.CertText.{line_with}
use Rattle.bz_cert.proofs.Phases.{fails_later, fails_now}
use Rattle.bz_cert.proofs.Refusals.{handed_on}
use Rattle.bz_cert.proofs.Steps.{blocks_step}
use Rattle.bz_cert.proofs.line_lists.read_blocks.Goals as goal

pub lines-preserved : goal.lines-preserved
lines-preserved c =
    let n : c.len.result ≡ length c.lines.parts.items = search rules in
    let line : ReadsLine c.lines.behind.lines c.lines.behind.rest.now (line_with Word.Block (pos (c.len.result + 1) ∷ c.in-Block.part.times ∷ c.in-Block.part.y))
    c.in-Block.next.lines c.in-Block.next.rest.now = subst (BlockLineIs c.args.last (c.len.result + 1) c.lines.behind.lines c.lines.behind.rest.now) c.in-Block.is c.in_ok-part.ensures in
    record {
      reads = λ verdict before a. rw c.in_ok-push-in-Block.ensures.items
          (blocks_step verdict before c.args.last _ _ _ _ _ _ _ _ _ (omega (arith, n)) a (c.lines.invariant.reads verdict before a) line);
      count = rw c.in_ok-push-in-Block.ensures.items
          (omega (arith, line.count, c.lines.invariant.count, length-append c.lines.parts.items (c.in-Block.part ∷ [])));
    }

pub returns-in_err-part : goal.returns-in_err-part
returns-in_err-part c =
    let n : c.len.result ≡ length c.lines.parts.items = search rules in
    handed_on _ _ _ _ _ c.from_residual.ensures.1 c.in_err-part.ensures (λ number kind h verdict before a.
    let inv = c.lines.invariant.reads verdict before a in
    fails_later verdict before _ _ _ _ _ number kind inv.0
    (fails_now verdict _ _ _ number kind (h verdict _ inv.1 (omega (arith, n, inv.2)) (a.fine _))))
