use Rattle.std.proofs.Common.{rules, ◌≡◌, ◌∷◌, []}
use Rattle.bz_certify.proofs.WorkedNodes.{three_closed}
use Rattle.bz_certify.proofs.tests.nodes.Goals as goal

pub returns : goal.returns
returns c =
    let items : c.push-3.new.self.items ≡ c.node.result ∷ c.node-2.result ∷ c.node-3.result ∷ [] = search rules in
    rw items (three_closed c.node.result c.node-2.result c.node-3.result _ c.leaf.result c.leaf-2.result c.node.ensures c.node-2.ensures c.node-3.ensures c.leaf.ensures c.leaf-2.ensures)
