-- The lines of the blocks so far stand behind the bytes of before.
use Rattle.std.proofs.Common.{take}
use Rattle.bz_cert.specs.CertText.{block_lines}
use Rattle.bz_cert.specs.CertWriting.{Adds}
use Rattle.bz_cert.proofs.writing.write_blocks.Given as goal

abbrev pub invariant-lines : goal.invariant-lines
invariant-lines l = Adds l.initial.out.items (block_lines 1 (take l.place l.blocks)) l.out.items
