-- The leaf that an answer's multipliers make holds.
use Rattle.std.specs.Prelude.{ℕ, ◌+◌, ◌<◌, ◌≡◌, ℤ, pos, ◌+ℤ◌, ◌*ℤ◌, neg_ℤ, ◌≤ℤ◌, ◌<ℤ◌, List, length}
use Rattle.std.specs.List.{AllByRecursion}
use Rattle.std.proofs.Common.{refl, ap, sym, subst, ◌∙◌, arith}
use Rattle.std.proofs.lemmas.Int.{ints}
use Rattle.std.proofs.lemmas.List.{length-map}
use Rattle.bz_algebra.specs.Sums.{dot, coef, upto, AllBelow}
use Rattle.bz_algebra.proofs.Ring.{add_zero, mul_one, neg_neg, zero_add, zero_mul}
use Rattle.bz_algebra.proofs.SumLemmas.{coef_append, coef_beyond, upto_same}
use Rattle.bz_model.specs.declared.Ineq.{Ineq}
use Rattle.bz_model.specs.declared.Model.{Model}
use Rattle.bz_model.specs.Decomposed.{IsDecomposed}
use Rattle.bz_model.specs.Parting.{blocks_of, inner_cost, terms_in, width_of}
use Rattle.bz_model.proofs.InnerCosts.{cost_terms_within}
use Rattle.bz_model.proofs.MeetingParts.{all_then}
use Rattle.bz_cut.specs.declared.Cut.{Cut}
use Rattle.bz_cut.specs.declared.Mode.{Mode}
use Rattle.bz_cut.specs.declared.Mode.TheVariants as mode
use Rattle.bz_cut.specs.Rows.{own_at, master_at, rhs_at}
use Rattle.bz_tree.specs.declared.Leaf.{Leaf}
use Rattle.bz_tree.specs.Boxes.{Box}
use Rattle.bz_tree.specs.Leaves.{LeafHolds, sides_of}
use Rattle.bz_std.specs.CutsFrom.{AreEntries}
use Rattle.bz_std.specs.LeavesFrom.{IsLeafFrom}
use Rattle.bz_std.specs.Meanings.{sum_on, sum_right, IsEmptyBy, IsLeastAt}
use Rattle.bz_std.specs.Tasks.{IsCutOfSplit, moved, node, node_cost, ones, side_line}
use Rattle.bz_std.proofs.Entries.{entries_are_multipliers, entries_sum}
use Rattle.bz_std.proofs.Moved.{coef_moved, coef_moved_before, coef_ones, coef_ones_before}
use Rattle.bz_std.proofs.PosedTasks.{IsSide, sides_fit}
use Rattle.bz_std.proofs.RowSums.{made_sum, master_below}

-- ---- the cost of a node
module _ (m : Model) (part : List ℕ) (d : IsDecomposed m part) where
  pub cost_on_master : (i : ℕ) → i < width_of part 0 → coef (node_cost m part mode.Cost) i ≡ coef (terms_in part 0 (inner_cost m)) i
  cost_on_master i l = coef_append (terms_in part 0 (inner_cost m)) (ones (width_of part 0) (blocks_of part)) i ∙ rw (coef_ones_before (width_of part 0) (blocks_of part) i l) (add_zero (coef (terms_in part 0 (inner_cost m)) i))

  -- at the eta of a block
  pub cost_on_eta : (b : ℕ) → b < blocks_of part → coef (node_cost m part mode.Cost) (width_of part 0 + b) ≡ pos 1
  cost_on_eta b l = coef_append (terms_in part 0 (inner_cost m)) (ones (width_of part 0) (blocks_of part)) (width_of part 0 + b)
      ∙ rw (coef_beyond (width_of part 0) (terms_in part 0 (inner_cost m)) (width_of part 0 + b) (cost_terms_within m part 0 d) (omega arith), coef_ones (width_of part 0) (blocks_of part) (width_of part 0 + b) (omega arith) (omega arith)) refl

module _ (m : Model) (part : List ℕ) (d : IsDecomposed m part) (box : Box) (cuts : List Cut) (of_split : AllByRecursion (IsCutOfSplit part) cuts) where
  abbrev sides : List Ineq
  sides = sides_of m part box cuts

  abbrev width : ℕ
  width = width_of part 0

  -- ---- the rows of the node
  sides_on : (way : Mode) (y : ℕ → ℤ) (j : ℕ) → sum_on (node m part box cuts way) y j ≡ upto (length sides) (λ n. y n *ℤ (coef (master_at sides n) j +ℤ coef (moved width (own_at sides n)) j))
  sides_on way y j = made_sum (side_line width) sides y (λ terms rhs. coef terms j) (λ own master rhs. coef master j +ℤ coef (moved width own) j) (λ i. coef_append i.master (moved width i.own) j)

  -- on a position of the master
  on_master : (way : Mode) (y : ℕ → ℤ) (i : ℕ) → i < width → sum_on (node m part box cuts way) y i ≡ upto (length sides) (λ n. y n *ℤ coef (master_at sides n) i)
  on_master way y i l = sides_on way y i ∙ upto_same (length sides) _ _ (λ n k. ap (λ (t : ℤ). y n *ℤ t) (ap (λ (t : ℤ). coef (master_at sides n) i +ℤ t) (coef_moved_before width (own_at sides n) i l) ∙ add_zero (coef (master_at sides n) i)))

  -- on an eta
  on_eta : (way : Mode) (y : ℕ → ℤ) (b : ℕ) → sum_on (node m part box cuts way) y (width + b) ≡ upto (length sides) (λ n. y n *ℤ coef (own_at sides n) b)
  on_eta way y b = sides_on way y (width + b) ∙ upto_same (length sides) _ _ (λ n k. ap (λ (t : ℤ). y n *ℤ t) (rw (coef_beyond width (master_at sides n) (width + b) (below n k) (omega arith), coef_moved width (own_at sides n) b) (zero_add (coef (own_at sides n) b))))
    where
      below : (n : ℕ) → n < length sides → AllBelow width (master_at sides n)
      below n k = master_below width sides (all_then (IsSide m part d) _ sides (sides_fit m part d box cuts of_split) (λ i f. f.master)) n k

  right_sum : (way : Mode) (y : ℕ → ℤ) → sum_right (node m part box cuts way) y ≡ upto (length sides) (λ n. y n *ℤ rhs_at sides n)
  right_sum way y = made_sum (side_line width) sides y (λ terms rhs. rhs) (λ own master rhs. rhs) (λ i. refl)

  -- ---- the leaf
  module _ (way : Mode) (y : ℕ → ℤ) (c : ℤ) (leaf : Leaf) (l : IsLeafFrom (node m part box cuts way) y c leaf) where
    entries : AreEntries (length sides) y leaf.lambda
    entries = subst (λ (n : ℕ). AreEntries n y leaf.lambda) (length-map sides (side_line width)) l.lambda

    sums : (f : ℕ → ℤ) → dot leaf.lambda f ≡ upto (length sides) (λ n. y n *ℤ f n)
    sums f = entries_sum (length sides) y f leaf.lambda entries

    leaf_holds : ((n : ℕ) → n < length sides → (pos 0) ≤ℤ (y n)) → (pos 0) ≤ℤ c →
        ((j : ℕ) → j < width + blocks_of part → sum_on (node m part box cuts way) y j ≡ neg_ℤ (c *ℤ coef (node_cost m part mode.Cost) j)) →
        (c ≡ pos 0 → (sum_right (node m part box cuts way) y) <ℤ (pos 0)) → LeafHolds m part box cuts leaf
    leaf_holds h k balanced below = record {
      lambda = entries_are_multipliers (length sides) y h leaf.lambda entries;
      delta = rw l.delta k;
      master = λ i b. sums (λ n. coef (master_at sides n) i) ∙ sym (on_master way y i b) ∙ balanced i (omega arith) ∙ rw (l.delta, cost_on_master m part d i b) refl;
      etas = λ b u. sums (λ n. coef (own_at sides n) b) ∙ sym (on_eta way y b) ∙ balanced (width + b) (omega arith) ∙ rw (l.delta, cost_on_eta m part d b u) (ap neg_ℤ (mul_one c));
      rhs = sums (rhs_at sides) ∙ sym (right_sum way y) ∙ sym (neg_neg (sum_right (node m part box cuts way) y)) ∙ ap neg_ℤ (sym l.bound);
      empty = λ z. rw l.bound (omega (arith, ints, below (sym l.delta ∙ z)));
    }

  pub least_leaf : (v : ℕ → ℤ) (den : ℤ) (y : ℕ → ℤ) (by : ℤ) (leaf : Leaf) → IsLeastAt (node m part box cuts mode.Cost) v den y by → IsLeafFrom (node m part box cuts mode.Cost) y by leaf → LeafHolds m part box cuts leaf
  least_leaf v den y by leaf a l = leaf_holds mode.Cost y by leaf l
      (λ n b. a.multipliers n (omega (arith, length-map sides (side_line width))))
      (omega (arith, ints, a.by_positive))
      a.balanced
      (λ z. absurd (omega (arith, ints, a.by_positive)))

  pub empty_leaf : (way : Mode) (y : ℕ → ℤ) (leaf : Leaf) → IsEmptyBy (node m part box cuts way) y → IsLeafFrom (node m part box cuts way) y (pos 0) leaf → LeafHolds m part box cuts leaf
  empty_leaf way y leaf a l = leaf_holds way y (pos 0) leaf l
      (λ n b. a.multipliers n (omega (arith, length-map sides (side_line width))))
      (omega (arith, ints))
      (λ j b. a.balanced j b ∙ ap neg_ℤ (sym (zero_mul (coef (node_cost m part mode.Cost) j))))
      (λ z. a.right)

-- the leaf's bound over its delta is the least cost
pub least_bound : (m : Model) (part : List ℕ) (box : Box) (cuts : List Cut) (v : ℕ → ℤ) (den : ℤ) (y : ℕ → ℤ) (by : ℤ) (leaf : Leaf) → IsLeastAt (node m part box cuts mode.Cost) v den y by → IsLeafFrom (node m part box cuts mode.Cost) y by leaf → leaf.bound *ℤ den ≡ dot (node_cost m part mode.Cost) v *ℤ leaf.delta
least_bound m part box cuts v den y by leaf a l = rw (l.bound, l.delta) (sym a.value)

pub least_delta : (m : Model) (part : List ℕ) (box : Box) (cuts : List Cut) (v : ℕ → ℤ) (den : ℤ) (y : ℕ → ℤ) (by : ℤ) (leaf : Leaf) → IsLeastAt (node m part box cuts mode.Cost) v den y by → IsLeafFrom (node m part box cuts mode.Cost) y by leaf → (pos 0) <ℤ leaf.delta
least_delta m part box cuts v den y by leaf a l = rw l.delta a.by_positive
