-- Each node that is visited is the first of those that are left.
use Rattle.std.proofs.Common.{◌≡◌, sym, ◌∙◌, ap, subst, ◌+◌, ◌∷◌, [], length, drop, reverse}
use Rattle.std.proofs.lemmas.List.{length-map}
use Rattle.bz_model.specs.Parting.{integers_of, position_of}
use Rattle.bz_model.proofs.Sparse.{left_at, none_left}
use Rattle.bz_tree.specs.declared.TreeNode.{TreeNode}
use Rattle.bz_tree.specs.Ends.{box_of}
use Rattle.bz_tree.specs.Integers.{positions_of}
use Rattle.bz_check.specs.TreeGoals.{bounds_of}
use Rattle.bz_check.specs.Walks.{Stands, box_in, open_in}
use Rattle.bz_check.proofs.Forests.{stands_first, stands_last}
use Rattle.bz_check.proofs.Walking.{walk_starts}
use Rattle.bz_check.proofs.tree_walk.judge_tree.Goals as goal

pub loop-node-init : goal.loop-node-init
loop-node-init c =
    let count : length (positions_of c.args.split.now.model c.args.split.now.part) ≡ length (integers_of c.args.split.now.model) =
    length-map (integers_of c.args.split.now.model) (λ e. position_of c.args.split.now.part e.0) in
    let none : open_in c.new-walk.result ≡ [] = ap reverse c.new-walk.ensures.frames in
    record {
      walk = walk_starts (length (positions_of c.args.split.now.model c.args.split.now.part)) c.args.root c.new-walk.result (c.requires.root.lowers ∙ sym count) (c.requires.root.uppers ∙ sym count) c.new-walk.ensures.root c.new-walk.ensures.frames;
      stands = λ tree h. stands_first c.args.split.now.model c.args.split.now.part c.args.cuts.now (bounds_of c.args.goal) (box_of c.args.root) tree (box_in c.new-walk.result) (open_in c.new-walk.result) c.args.nodes.now c.new-walk.ensures.root none h;
    }

pub visit-requires-clause-walk : goal.visit-requires-clause-walk
visit-requires-clause-walk c = rw c.requires.positions c.loop-node.invariant.walk

pub loop-node-preserved : goal.loop-node-preserved
loop-node-preserved c =
    let next : drop c.loop-node.node c.args.nodes.now ≡ c.index-nodes-node.result ∷ drop (c.loop-node.node + 1) c.args.nodes.now =
    left_at c.args.nodes.now c.loop-node.node c.index-nodes-node.result c.loop-node-test.true ∙ ap (λ (n : TreeNode). n ∷ drop (c.loop-node.node + 1) c.args.nodes.now) (sym c.index-nodes-node.is) in
    record {
      walk = rw c.requires.positions at c.in_ok-visit.ensures.kept;
      stands = λ tree h. c.in_ok-visit.ensures.visits (box_of c.args.root) tree (drop (c.loop-node.node + 1) c.args.nodes.now)
          (subst (Stands c.args.split.now.model c.args.split.now.part c.args.cuts.now (bounds_of c.args.goal) (box_of c.args.root) tree c.loop-node.node (box_in c.loop-node.walk) (open_in c.loop-node.walk)) next (c.loop-node.invariant.stands tree h));
    }

pub returns : goal.returns
returns c = λ tree h.
    stands_last c.args.split.now.model c.args.split.now.part c.args.cuts.now (bounds_of c.args.goal) (box_of c.args.root) tree c.loop-node.node (box_in c.loop-node.walk) (open_in c.loop-node.walk)
    (subst (Stands c.args.split.now.model c.args.split.now.part c.args.cuts.now (bounds_of c.args.goal) (box_of c.args.root) tree c.loop-node.node (box_in c.loop-node.walk) (open_in c.loop-node.walk)) (none_left c.args.nodes.now c.loop-node.node c.loop-node-test.false) (c.loop-node.invariant.stands tree h))
