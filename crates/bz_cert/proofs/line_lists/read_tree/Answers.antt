use Rattle.std.proofs.Common.{◌≡◌, ◌∷◌, ◌++◌, ◌<◌, ◌≤◌, ◌∙◌, length, rules, arith, ap, sym, length-append, append-nil, []}
use Rattle.bz_tree.specs.Trees.{Tree, preorder}
use Rattle.bz_cert.specs.CertText.{IsWritableNode}
use Rattle.bz_model.proofs.MeetingParts.{all_append}
use Rattle.bz_cert.proofs.Phases.{fails_later, fails_now}
use Rattle.bz_cert.proofs.Refusals.{handed_on}
use Rattle.bz_cert.proofs.Steps.{makes_one, makes_step, not_whole, tree_step, tree_start, trees_grow, whole_now}
use Rattle.bz_cert.proofs.line_lists.read_tree.Goals as goal

pub nodes-init : goal.nodes-init
nodes-init c = record {
  reads = λ verdict before a. tree_start verdict before _ _ _ c.new-nodes.ensures.items a;
  few = omega (arith, ap length c.new-nodes.ensures.items);
  trees_few = omega arith;
  writable = rw c.new-nodes.ensures.items tt;
  made = rw c.new-nodes.ensures.items makes_one;
}

pub nodes-preserved : goal.nodes-preserved
nodes-preserved c =
    let some : 0 < c.nodes.trees = search rules in
    let n : c.len.result ≡ length c.nodes.nodes.items = search rules in
    let few : length c.nodes.nodes.items ≤ 65534 = omega (arith, n, c.in_ok-node.ensures.2) in
    record {
      reads = λ verdict before a. rw (c.in_ok-push.ensures.items, c.trees_behind-trees.ensures)
          (tree_step verdict before _ _ _ _ _ _ _ _ _ some few c.in_ok-node.ensures.1 (c.nodes.invariant.reads verdict before a) c.in_ok-node.ensures.0);
      few = rw c.in_ok-push.ensures.items (omega (arith, few, length-append c.nodes.nodes.items (c.in_ok-node.node ∷ [])));
      trees_few = rw (c.in_ok-push.ensures.items, c.trees_behind-trees.ensures)
          (omega (arith, trees_grow c.in_ok-node.node c.nodes.trees, c.nodes.invariant.trees_few, length-append c.nodes.nodes.items (c.in_ok-node.node ∷ [])));
      writable = rw c.in_ok-push.ensures.items (all_append IsWritableNode c.nodes.nodes.items (c.in_ok-node.node ∷ []) c.nodes.invariant.writable (c.in_ok-node.ensures.1, tt));
      made = rw (c.in_ok-push.ensures.items, c.trees_behind-trees.ensures) (makes_step _ _ c.in_ok-node.node some c.nodes.invariant.made);
    }

pub returns-in_err-node : goal.returns-in_err-node
returns-in_err-node c =
    let some : 0 < c.nodes.trees = search rules in
    let n : c.len.result ≡ length c.nodes.nodes.items = search rules in
    handed_on _ _ _ _ _ c.from_residual.ensures.1 c.in_err-node.ensures (λ number kind h verdict before a.
    let inv = c.nodes.invariant.reads verdict before a in
    let part = not_whole verdict _ _ _ inv.1 some in
    fails_later verdict before _ _ _ _ _ number kind inv.0
    (fails_now verdict _ _ _ number kind (h verdict _ inv.1.awaits (a.ends _ part) part (inv.1.here ∙ sym n))))

pub returns : goal.returns
returns c =
    let done : c.nodes.trees ≡ 0 = search rules in
    let made : (tree : Tree) × (c.nodes.nodes.items ++ [] ≡ preorder tree) = c.nodes.invariant.made [] (sym done) in
    record {
      reads = λ verdict before a. let inv = c.nodes.invariant.reads verdict before a in
          (inv.0, inv.1.awaits, whole_now verdict _ _ _ inv.1 done);
      few = c.nodes.invariant.few;
      writable = c.nodes.invariant.writable;
      tree = made.0;
      is_tree = sym (append-nil _) ∙ made.1;
    }
