-- no node before is free
use Rattle.bz_core.specs.Handing.{IsFirstNode}
use Rattle.bz_core.proofs.choices.choose_node.Given as goal

abbrev pub invariant-loop-number : goal.invariant-loop-number
invariant-loop-number l = IsFirstNode l.nodes l.marks l.number
