-- The lines of the nodes so far stand behind the bytes of before, and their indexes are below 2 ^ 32.
use Rattle.std.proofs.Common.{map, take}
use Rattle.std.specs.List.{AllByRecursion}
use Rattle.bz_cert.specs.CertText.{node_line}
use Rattle.bz_cert.specs.CertWriting.{Adds, IsIndexedNode}
use Rattle.bz_cert.proofs.writing.write_nodes.Given as goal

abbrev pub invariant-nodes : goal.invariant-nodes
invariant-nodes l = record {
  text : Adds l.initial.out.items (map node_line (take l.node-index l.nodes)) l.out.items;
  indexes : AllByRecursion IsIndexedNode (take l.node-index l.nodes);
}
