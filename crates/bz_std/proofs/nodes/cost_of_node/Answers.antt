use Rattle.std.proofs.Common.{rules, ◌≡◌, refl, sym, ap, ◌∙◌, ◌<◌, ◌+◌, ◌*◌, ◌++◌, [], ◌∷◌, ℕ, ℤ, pos, List, arith, append_assoc, subst}
use Rattle.bz_algebra.specs.Sums.{AllBelow}
use Rattle.bz_model.specs.Limits.{list_limit}
use Rattle.bz_model.specs.Parting.{inner_cost, terms_in, width_of}
use Rattle.bz_std.specs.Posed.{over_columns}
use Rattle.bz_std.specs.Tasks.{ones}
use Rattle.bz_std.proofs.NodeRows.{ones_next}
use Rattle.bz_std.proofs.OverColumns.{over_append}
use Rattle.bz_std.proofs.Widths.{width_few}
use Rattle.bz_std.proofs.nodes.cost_of_node.Goals as goal

pub loop-eta-preserved : goal.loop-eta-preserved
loop-eta-preserved c =
    let split = c.args.split.now in
    let width = width_of split.part 0 in
    let k = c.loop-eta.eta in
    let cost : List (ℕ × ℤ) = terms_in split.part 0 (inner_cost split.model) in
    let pushed : c.push_variable.new.row ≡ c.loop-eta.row ++ over_columns ((width + k, pos 1) ∷ []) = rw c.width-width.ensures at c.in_ok-push_variable.ensures.value in
    let row : c.push_variable.new.row ≡ over_columns (cost ++ ones width (k + 1)) =
    pushed
    ∙ ap (λ (r : List (ℕ × ℤ)). r ++ over_columns ((width + k, pos 1) ∷ [])) c.loop-eta.invariant.value
    ∙ sym (over_append (cost ++ ones width k) ((width + k, pos 1) ∷ []))
    ∙ ap over_columns (append_assoc cost (ones width k) ((width + k, pos 1) ∷ []) ∙ ap (λ (r : List (ℕ × ℤ)). cost ++ r) (sym (ones_next width k))) in
    let below : AllBelow (2 * (width + k + 1)) c.push_variable.new.row = rw c.width-width.ensures at c.in_ok-push_variable.ensures.below in
    record {
      value = row;
      below = subst (λ (n : ℕ). AllBelow (2 * n) c.push_variable.new.row) (omega arith) below;
    }
