use Rattle.std.proofs.Common.{rules, ◌≡◌, ◌++◌, ◌∷◌, ◌<◌, [], length, refl, subst, sym}
use Rattle.std.specs.Prelude.{List, ℕ}
use Rattle.bz_certify.specs.Walks.{head_of, sides_of}
use Rattle.bz_certify.proofs.Walking.{IsWalk, next_at, top_inside, walk_begins, walk_goes, walk_lighter, weight}
use Rattle.bz_certify.proofs.trees.tree_of.Goals as goal

pub loop-n-init : goal.loop-n-init
loop-n-init c =
    let stack : c.push.new.self.items ≡ 0 ∷ [] = search rules in
    let list : c.new-list.result.items ≡ [] = search rules in
    rw (stack, list) (walk_begins c.args.nodes.now c.requires)

pub end_of-closing-requires-clause-inside : goal.end_of-closing-requires-clause-inside
end_of-closing-requires-clause-inside c =
    top_inside c.args.nodes.now c.pop.new.self.items c.in-Some.n c.loop-n.list.items
    (subst (λ (s : List ℕ). IsWalk c.args.nodes.now s c.loop-n.list.items) c.in-Some.ensures.items c.loop-n.invariant)

pub head-requires : goal.head-requires
head-requires c = next_at c.args.nodes.now c.in-Some.n c.end_of-closing.result.now c.requires c.end_of-closing.ensures

pub loop-n-smaller : goal.loop-n-smaller
loop-n-smaller c =
    let lighter : weight (length c.args.nodes.now) (c.pop.new.self.items ++ sides_of c.end_of-closing.result.now) < weight (length c.args.nodes.now) (c.pop.new.self.items ++ c.in-Some.n ∷ [])
    = walk_lighter c.args.nodes.now c.pop.new.self.items c.in-Some.n c.end_of-closing.result.now c.requires c.end_of-closing.ensures in
    subst (λ (s : List ℕ). weight (length c.args.nodes.now) c.push_sides.new.stack.items < weight (length c.args.nodes.now) s) (sym c.in-Some.ensures.items)
    (subst (λ (s : List ℕ). weight (length c.args.nodes.now) s < weight (length c.args.nodes.now) (c.pop.new.self.items ++ c.in-Some.n ∷ [])) (sym c.in_ok-push_sides.ensures) lighter)

pub loop-n-preserved : goal.loop-n-preserved
loop-n-preserved c =
    let node : c.in_ok-node.node ≡ head_of c.end_of-closing.result.now.how = c.in_ok-node.ensures in
    let list : c.push-in-Some.new.self.items ≡ c.loop-n.list.items ++ c.in_ok-node.node ∷ [] = search rules in
    let longer : c.push-in-Some.new.self.items ≡ c.loop-n.list.items ++ head_of c.end_of-closing.result.now.how ∷ [] = rw (list, node) refl in
    rw (c.in_ok-push_sides.ensures, longer)
    (walk_goes c.args.nodes.now c.pop.new.self.items c.in-Some.n c.loop-n.list.items c.end_of-closing.result.now c.requires c.end_of-closing.ensures
    (subst (λ (s : List ℕ). IsWalk c.args.nodes.now s c.loop-n.list.items) c.in-Some.ensures.items c.loop-n.invariant))
