-- The nodes of the worked example are closed.
use Rattle.std.proofs.Common.{◌≡◌, sym, subst, ℕ, zero, suc, List, [], ◌∷◌, arith, pos}
use Rattle.bz_event.specs.declared.events.How.{How}
use Rattle.bz_event.specs.declared.events.How.TheVariants as how
use Rattle.bz_history.specs.declared.state.Node.{Node}
use Rattle.bz_history.specs.Steps.{IsAt}
use Rattle.bz_certify.specs.Walks.{AreClosed, IsClosedAt, IsEndOf}
use Rattle.bz_certify.specs.Worked.{IsEndedBy, IsLeafEnd}

leaf_end : (nodes : List Node) (n kids : ℕ) (h : How) → IsLeafEnd h → IsEndOf nodes n kids h
leaf_end nodes n kids (how.Split front basis position value) is = absurd is
leaf_end nodes n kids (how.Leaf front leaf) is = tt

pub three_closed : (a b c : Node) (basis : List ℕ) (left right : How) → IsEndedBy (how.Split 0 basis 2 (pos 4)) 1 a → IsEndedBy left 0 b → IsEndedBy right 0 c → IsLeafEnd left → IsLeafEnd right → AreClosed (a ∷ b ∷ c ∷ [])
three_closed a b c basis left right is_a is_b is_c leaf_b leaf_c = record { first = omega arith; each = each }
  where
    nodes : List Node
    nodes = a ∷ b ∷ c ∷ []

    each : (n : ℕ) (node : Node) → IsAt nodes n node → IsClosedAt nodes n node.closing
    each zero node is =
        let same : a ≡ node = cc in
        subst (λ (x : Node). IsClosedAt nodes 0 x.closing) same (subst (IsClosedAt nodes 0) (sym is_a) (record { later = omega arith; inside = omega arith }, omega arith))
    each (suc zero) node is =
        let same : b ≡ node = cc in
        subst (λ (x : Node). IsClosedAt nodes 1 x.closing) same (subst (IsClosedAt nodes 1) (sym is_b) (leaf_end nodes 1 0 left leaf_b))
    each (suc (suc zero)) node is =
        let same : c ≡ node = cc in
        subst (λ (x : Node). IsClosedAt nodes 2 x.closing) same (subst (IsClosedAt nodes 2) (sym is_c) (leaf_end nodes 2 0 right leaf_c))
    each (suc (suc (suc n))) node is = absurd (cc)
