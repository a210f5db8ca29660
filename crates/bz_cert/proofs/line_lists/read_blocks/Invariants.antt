-- The lines so far are those of the blocks so far, and a further block or the other word has to come.
use Rattle.std.proofs.Common.{◌≡◌, ◌∷◌, ◌+◌, [], length}
use Rattle.bz_cert.specs.declared.records.Verdict.{Verdict}
use Rattle.bz_cert.specs.declared.words.Word.{Word}
use Rattle.bz_cert.specs.CertFaults.{Standing}
use Rattle.bz_cert.specs.CertPhases.{AwaitsBlocks}
use Rattle.bz_cert.specs.CertReading.{Awaits, Reads, advance_all}
use Rattle.bz_cert.specs.CertText.{block_lines}
use Rattle.bz_cert.proofs.line_lists.read_blocks.Given as goal

abbrev pub invariant-lines : goal.invariant-lines
invariant-lines l = record {
  reads : (verdict : Verdict) (before : Standing) → AwaitsBlocks verdict before l.last →
      Reads verdict before (block_lines 1 l.parts.items) l.at.lines l.at.rest.now l.behind.lines l.behind.rest.now
      × Awaits verdict (advance_all before (block_lines 1 l.parts.items)) (Word.Block ∷ l.last ∷ [])
      × ((advance_all before (block_lines 1 l.parts.items)).blocks ≡ length l.parts.items);
  count : l.behind.lines ≡ l.at.lines + length l.parts.items;
}

abbrev pub decreases-lines : goal.decreases-lines
decreases-lines l = length l.behind.rest.now
