-- The lines so far are those of the nodes so far, and so many trees are still to come, which make the nodes one tree.
use Rattle.std.proofs.Common.{◌+◌, ◌≤◌, length, map}
use Rattle.std.specs.List.{AllByRecursion}
use Rattle.bz_cert.specs.declared.records.Verdict.{Verdict}
use Rattle.bz_cert.specs.CertFaults.{Standing}
use Rattle.bz_cert.specs.CertPhases.{AwaitsTree, MakesTree, NodesTold}
use Rattle.bz_cert.specs.CertReading.{Reads, advance_all}
use Rattle.bz_cert.specs.CertText.{IsWritableNode, node_line}
use Rattle.bz_cert.proofs.line_lists.read_tree.Given as goal

abbrev pub invariant-nodes : goal.invariant-nodes
invariant-nodes l = record {
  reads : (verdict : Verdict) (before : Standing) → AwaitsTree verdict before →
      Reads verdict before (map node_line l.nodes.items) l.at.lines l.at.rest.now l.behind.lines l.behind.rest.now
      × NodesTold verdict (advance_all before (map node_line l.nodes.items)) l.trees (length l.nodes.items);
  few : length l.nodes.items ≤ 65535;
  trees_few : l.trees ≤ length l.nodes.items + 1;
  writable : AllByRecursion IsWritableNode l.nodes.items;
  made : MakesTree l.trees l.nodes.items;
}

abbrev pub decreases-nodes : goal.decreases-nodes
decreases-nodes l = length l.behind.rest.now
