use Rattle.std.proofs.Common.{◌≡◌, ℕ, Bool, List, rules, subst, sym, length}
use Rattle.std.specs.Prelude.{IfNone, IfSome}
use Rattle.bz_model.specs.Parting.{blocks_of}
use Rattle.bz_history.specs.declared.state.Node.{Node}
use Rattle.bz_history.specs.declared.state.Post.{Post}
use Rattle.bz_history.specs.States.{State}
use Rattle.bz_history.specs.Steps.{AreFloorsReady}
use Rattle.bz_core.specs.declared.roles.Next.{Next}
use Rattle.bz_core.specs.Handing.{Chooses, GoesOn, IsFirstNode, IsFirstSeparation, IsFreeNode, IsFreeSeparation, NoNodeIsFree, NoSeparationIsFree}
use Rattle.bz_core.specs.Searches.{Marks, Seen, now}
use Rattle.bz_core.proofs.Chosen.{chosen}
use Rattle.bz_core.proofs.NodeFronts.{least_front_there}
use Rattle.bz_core.proofs.searches.Search.choose_further.Goals as goal

pub returns : goal.returns
returns c =
    let d = c.self.inside.split.now in
    let t : State = c.self.inside.progress.state in
    let marks : Marks = c.self.inside.marks in
    let is : now c.args.self.now ≡ t = search rules in
    let on : GoesOn t c.self.inside.quit = search rules in
    let ready : AreFloorsReady d t = search rules in
    let over : c.len.result ≡ length t.cuts = search rules in
    let free : IfSome c.choose_node-node.result (IsFreeNode t.nodes marks.nodes) = search rules in
    let none : IfNone c.choose_node-node.result (NoNodeIsFree t.nodes marks.nodes) =
    subst (λ (ns : List Node). IfNone c.choose_node-node.result (NoNodeIsFree ns marks.nodes)) c.nodes.ensures.nodes
    (subst (λ (ms : List Bool). IfNone c.choose_node-node.result (NoNodeIsFree c.nodes.result.now ms)) c.nodes-2.ensures c.choose_node-node.ensures.none) in
    let first : IfSome c.choose_node-node.result (IsFirstNode t.nodes marks.nodes) = search rules in
    let sfree : IfSome c.choose_separation-separation.result (λ s. IsFreeSeparation (blocks_of d.part) t.posts marks.blocks s.0 s.1) = search rules in
    let snone : IfNone c.choose_separation-separation.result (NoSeparationIsFree (blocks_of d.part) t.posts marks.blocks) =
    subst (λ (n : ℕ). IfNone c.choose_separation-separation.result (NoSeparationIsFree n t.posts marks.blocks)) c.blocks-2.ensures.value
    (subst (λ (ps : List Post). IfNone c.choose_separation-separation.result (NoSeparationIsFree c.blocks-2.result ps marks.blocks)) c.posts-posts.ensures.posts
    (subst (λ (ms : List (List Bool)). IfNone c.choose_separation-separation.result (NoSeparationIsFree c.blocks-2.result c.posts-posts.result.now ms)) c.blocks-3.ensures c.choose_separation-separation.ensures.none)) in
    let sfirst : IfSome c.choose_separation-separation.result (λ s. IsFirstSeparation (blocks_of d.part) t.posts marks.blocks s.0 s.1) = search rules in
    subst (λ (v : Seen). Chooses v.split (now v) v.marks v.quit c.args.role c.by_role.result) c.self.view_is
    (subst (λ (u : State). Chooses d u marks c.self.inside.quit c.args.role c.by_role.result) (sym c.self.invariant.replayed.state)
    (subst (λ (r : Next). Chooses d t marks c.self.inside.quit c.args.role r) (sym c.by_role.ensures)
    (chosen d t marks c.self.inside.quit c.args.role c.len.result c.choose_node-node.result c.choose_separation-separation.result
    on ready c.self.invariant.marks_are over
    (λ n x at. least_front_there d c.self.inside.budget c.self.inside.root c.self.inside.history.items t n x c.self.invariant.replayed ready at) free none first sfree snone sfirst)))
