-- The lines of the cuts so far stand behind the bytes of before, and their indexes are below 2 ^ 32.
use Rattle.std.proofs.Common.{map, take}
use Rattle.std.specs.List.{AllByRecursion}
use Rattle.bz_cert.specs.CertText.{cut_line}
use Rattle.bz_cert.specs.CertWriting.{Adds, IsIndexedCut}
use Rattle.bz_cert.proofs.writing.write_cuts.Given as goal

abbrev pub invariant-cuts : goal.invariant-cuts
invariant-cuts l = record {
  text : Adds l.initial.out.items (map cut_line (take l.cut-index l.cuts)) l.out.items;
  indexes : AllByRecursion IsIndexedCut (take l.cut-index l.cuts);
}
