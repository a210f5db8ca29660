-- The lines so far are those of the cuts so far.
use Rattle.std.proofs.Common.{◌≡◌, length, map}
use Rattle.std.specs.List.{AllByRecursion}
use Rattle.bz_cert.specs.declared.records.Verdict.{Verdict}
use Rattle.bz_cert.specs.CertFaults.{Standing}
use Rattle.bz_cert.specs.CertPhases.{AwaitsCuts, CutsTold}
use Rattle.bz_cert.specs.CertReading.{Reads, advance_all}
use Rattle.bz_cert.specs.CertText.{IsWritableCut, cut_line}
use Rattle.bz_cert.proofs.line_lists.read_cuts.Given as goal

abbrev pub invariant-cuts : goal.invariant-cuts
invariant-cuts l = record {
  reads : (verdict : Verdict) (before : Standing) → AwaitsCuts verdict before l.count →
      Reads verdict before (map cut_line l.cuts.items) l.at.lines l.at.rest.now l.behind.lines l.behind.rest.now
      × CutsTold verdict (advance_all before (map cut_line l.cuts.items)) l.count (length l.cuts.items);
  many : length l.cuts.items ≡ l.counter;
  writable : AllByRecursion IsWritableCut l.cuts.items;
}
