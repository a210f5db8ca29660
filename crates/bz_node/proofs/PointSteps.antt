-- A least point in lowest form: its value, and its leaf.
use Rattle.std.specs.Prelude.{ℕ, suc, ◌+◌, ◌-◌, ◌<◌, ◌≤◌, ◌≡◌, ◌⊎◌, ℤ, pos, ◌*ℤ◌, ◌<ℤ◌, List, [], ◌∷◌, ◌++◌, length, Option, Some, None, unsigned_abs}
use Rattle.std.specs.List.{AllByRecursion}
use Rattle.std.specs.Int.{◌∣◌}
use Rattle.std.proofs.Common.{refl, sym, ap, subst, ◌∙◌, arith, inl, inr, length-append}
use Rattle.bz_algebra.specs.Sums.{dot}
use Rattle.bz_algebra.proofs.Ring.{*ℤ_assoc, cancel_positive, mul_add, mul_left, mul_zero, one_mul}
use Rattle.bz_algebra.proofs.SumLemmas.{dot_append, dot_same_below, dot_scale}
use Rattle.bz_algebra.specs.Numbers.{IsNarrow}
use Rattle.bz_num.specs.Dense.{AreNarrow, DividesRow}
use Rattle.bz_model.specs.declared.Master.{Master}
use Rattle.bz_model.specs.declared.Model.{Model}
use Rattle.bz_model.specs.Decomposed.{IsDecomposed}
use Rattle.bz_model.specs.Parting.{blocks_of, inequalities_of, inner_cost, terms_in, width_of}
use Rattle.bz_model.specs.PartPoints.{HoldsInMaster, total}
use Rattle.bz_model.specs.Points.{IsWhole, coordinate}
use Rattle.bz_model.proofs.InnerCosts.{cost_terms_within}
use Rattle.bz_model.proofs.MeetingParts.{all_both}
use Rattle.bz_cut.specs.declared.Cut.{Cut}
use Rattle.bz_cut.specs.declared.Mode.{Mode}
use Rattle.bz_cut.specs.declared.Mode.TheVariants as mode
use Rattle.bz_tree.specs.declared.Leaf.{Leaf}
use Rattle.bz_tree.specs.Boxes.{Box}
use Rattle.bz_tree.specs.Integers.{positions_of}
use Rattle.bz_judge.proofs.BetweenTests.{positions_within}
use Rattle.bz_std.specs.LowestForms.{IsLowestOf}
use Rattle.bz_std.specs.Meanings.{MeetsWithin}
use Rattle.bz_std.specs.Tasks.{IsCutOfSplit, node, node_cost, ones}
use Rattle.bz_std.proofs.ListFacts.{coordinate_back, coordinate_front}
use Rattle.bz_std.proofs.LowestForms.{node_met, whole_kept}
use Rattle.bz_event.specs.Nodes.{HasLeafOfValue, IsPointOfNode, value_of}
use Rattle.bz_node.specs.PointSteps.{FindsWideSum, IsPointOf}

-- ---- lowest forms
pub lowest_same : (n : ℕ) (den : ℤ) (f g : ℕ → ℤ) (low : ℤ) (values : List ℤ) → ((j : ℕ) → j < n → f j ≡ g j) → IsLowestOf n den f low values → IsLowestOf n den g low values
lowest_same n den f g low values h l = record {
  count = l.count;
  times = l.times;
  positive = l.positive;
  den_is = l.den_is;
  values_are = λ j b. l.values_are j b ∙ h j b;
  lowest = l.lowest;
}

pub point_same : (part : List ℕ) (den : ℤ) (f g : ℕ → ℤ) (point : Master) → ((j : ℕ) → j < width_of part 0 + blocks_of part → f j ≡ g j) → IsPointOf part den f point → IsPointOf part den g point
point_same part den f g point h p = record { shape = p.shape; lowest = lowest_same (width_of part 0 + blocks_of part) den f g point.den (point.x ++ point.eta) h p.lowest }

-- ---- narrow lists
all_narrow : (xs : List ℤ) → AreNarrow xs → AllByRecursion IsNarrow xs
all_narrow [] h = tt
all_narrow (x ∷ xs) h = (h 0 (omega arith), all_narrow xs (λ j l. h (suc j) (omega arith)))

pub narrow_front : (x eta values : List ℤ) → x ++ eta ≡ values → AreNarrow values → AllByRecursion IsNarrow x
narrow_front x eta values e h =
    let more : length (x ++ eta) ≡ length x + length eta = length-append x eta in
    let whole : AreNarrow (x ++ eta) = subst AreNarrow (sym e) h in
    all_narrow x (λ j l. subst IsNarrow (coordinate_front x eta j l) (whole j (omega arith)))

pub narrow_back : (x eta values : List ℤ) → x ++ eta ≡ values → AreNarrow values → AllByRecursion IsNarrow eta
narrow_back x eta values e h =
    let more : length (x ++ eta) ≡ length x + length eta = length-append x eta in
    let whole : AreNarrow (x ++ eta) = subst AreNarrow (sym e) h in
    all_narrow eta (λ j l. subst IsNarrow (coordinate_back x eta (length x + j) j refl) (whole (length x + j) (omega arith)))

front_or_back : (j w : ℕ) → (j < w) ⊎ (w ≤ j)
front_or_back j w = search arith

module _ (x eta : List ℤ) (n : ℕ) (den : ℤ) (f : ℕ → ℤ) (low : ℤ) (l : IsLowestOf n den f low (x ++ eta)) where
  pub lowest_parts : (d : ℕ) → d ∣ unsigned_abs low → DividesRow d x → DividesRow d eta → d ≡ 1
  lowest_parts d h first second = l.lowest d h (λ j b. elim (front_or_back j (length x)) [
    | inl k ↦ subst (λ (z : ℤ). d ∣ unsigned_abs z) (sym (coordinate_front x eta j k)) (first j k)
    | inr k ↦
        let more : length (x ++ eta) ≡ length x + length eta = length-append x eta in
        let all : length (x ++ eta) ≡ n = l.count in
        subst (λ (z : ℤ). d ∣ unsigned_abs z) (sym (coordinate_back x eta j (j - length x) (omega arith))) (second (j - length x) (omega arith))
  ])

-- the point of two lists
pub parts_are : (part : List ℕ) (den : ℤ) (f : ℕ → ℤ) (point : Master) → (pos 0) <ℤ point.den → length point.x ≡ width_of part 0 → IsLowestOf (width_of part 0 + blocks_of part) den f point.den (point.x ++ point.eta) → IsPointOf part den f point
parts_are part den f point positive count l =
    let more : length (point.x ++ point.eta) ≡ length point.x + length point.eta = length-append point.x point.eta in
    let all : length (point.x ++ point.eta) ≡ width_of part 0 + blocks_of part = l.count in
    record { shape = record { x = count; eta = omega arith; den = positive }; lowest = l }

-- ---- the value
-- the etas together
ones_total : (n : ℕ) (xs : List ℤ) (v : ℕ → ℤ) (c : ℤ) → ((k : ℕ) → k < length xs → v (n + k) ≡ c *ℤ coordinate xs k) → dot (ones n (length xs)) v ≡ c *ℤ total xs
ones_total n [] v c h = sym (mul_zero c)
ones_total n (x ∷ xs) v c h =
    let same : n ≡ n + 0 = omega arith in
    let here : v n ≡ c *ℤ x = ap v same ∙ h 0 (omega arith) in
    let rest : dot (ones (suc n) (length xs)) v ≡ c *ℤ total xs = ones_total (suc n) xs v c (λ k l. let next : suc n + k ≡ n + suc k = omega arith in ap v next ∙ h (suc k) (omega arith)) in
    rw (one_mul (v n), here, rest) (sym (mul_add c x (total xs)))

module _ (m : Model) (part : List ℕ) (s : IsDecomposed m part) (v : ℕ → ℤ) (den : ℤ) (point : Master) (p : IsPointOf part den v point) where
  abbrev width : ℕ
  width = width_of part 0

  abbrev times : ℤ
  times = p.lowest.times

  at_position : (j : ℕ) → j < width → v j ≡ times *ℤ coordinate point.x j
  at_position j b = let count : length point.x ≡ width = p.shape.x in
      sym (p.lowest.values_are j (omega arith)) ∙ ap (λ (t : ℤ). times *ℤ t) (coordinate_front point.x point.eta j (omega arith))

  at_eta : (k : ℕ) → k < length point.eta → v (width + k) ≡ times *ℤ coordinate point.eta k
  at_eta k b = let count : length point.x ≡ width = p.shape.x in let etas : length point.eta ≡ blocks_of part = p.shape.eta in
      sym (p.lowest.values_are (width + k) (omega arith)) ∙ ap (λ (t : ℤ). times *ℤ t) (coordinate_back point.x point.eta (width + k) k (omega arith))

  value_scaled : dot (node_cost m part mode.Cost) v ≡ times *ℤ value_of m part point
  value_scaled =
      let terms : List (ℕ × ℤ) = terms_in part 0 (inner_cost m) in
      let first : dot terms v ≡ times *ℤ dot terms (coordinate point.x) = dot_same_below width terms v (λ j. times *ℤ coordinate point.x j) (cost_terms_within m part 0 s) at_position ∙ dot_scale terms times (coordinate point.x) in
      let second : dot (ones width (blocks_of part)) v ≡ times *ℤ total point.eta = subst (λ (k : ℕ). dot (ones width k) v ≡ times *ℤ total point.eta) p.shape.eta (ones_total width point.eta v times at_eta) in
      dot_append terms (ones width (blocks_of part)) v ∙ rw (first, second) (sym (mul_add times (dot terms (coordinate point.x)) (total point.eta)))

  -- a bound over a delta stays the value
  bound_kept : (bound delta : ℤ) → bound *ℤ den ≡ dot (node_cost m part mode.Cost) v *ℤ delta → bound *ℤ point.den ≡ value_of m part point *ℤ delta
  bound_kept bound delta h = cancel_positive times (bound *ℤ point.den) (value_of m part point *ℤ delta) p.lowest.positive
      (sym (mul_left bound times point.den)
      ∙ ap (λ (t : ℤ). bound *ℤ t) p.lowest.den_is
      ∙ h
      ∙ ap (λ (t : ℤ). t *ℤ delta) value_scaled
      ∙ *ℤ_assoc times (value_of m part point) delta)

  module _ (box : Box) (cuts : List Cut) (of_split : AllByRecursion (IsCutOfSplit part) cuts) where
    leaf_kept : (way : Mode) (leaf : Option Leaf) → HasLeafOfValue m part box cuts way (dot (node_cost m part mode.Cost) v) den leaf → HasLeafOfValue m part box cuts way (value_of m part point) point.den leaf
    leaf_kept mode.Cost (Some leaf) h = record { holds = h.holds; fits = h.fits; delta = h.delta; bound = bound_kept leaf.bound leaf.delta h.bound }
    leaf_kept mode.Cost None h = absurd h
    leaf_kept mode.Point leaf h = h

    whole_at : AllByRecursion (λ j. IsWhole (v j) den) (positions_of m part) → AllByRecursion (λ j. IsWhole (coordinate point.x j) point.den) (positions_of m part)
    whole_at h = all_both (λ j. j < width) (λ j. IsWhole (v j) den) (λ j. IsWhole (coordinate point.x j) point.den) (positions_of m part) (positions_within m part s) h
        (λ j b w. subst (λ (z : ℤ). IsWhole z point.den) (coordinate_front point.x point.eta j (let count : length point.x ≡ width = p.shape.x in omega arith))
        ((whole_kept (width + blocks_of part) den v point.den (point.x ++ point.eta) p.lowest j (omega arith)).0 w))

    -- the master's inequalities hold at the point
    pub rows_hold : (way : Mode) → MeetsWithin (node m part box cuts way) v den (pos 0) → AllByRecursion (HoldsInMaster point) (inequalities_of m part 0)
    rows_hold way h = (node_met m part s box cuts of_split v den point p.shape.x p.lowest way h).rows

    -- the point is the node's answer
    pub point_is : (way : Mode) (leaf : Option Leaf) → (pos 0) <ℤ den → MeetsWithin (node m part box cuts way) v den (pos 0) → AllByRecursion (λ j. IsWhole (v j) den) (positions_of m part) → HasLeafOfValue m part box cuts way (dot (node_cost m part mode.Cost) v) den leaf → FindsWideSum m part way point None → IsPointOfNode m part box cuts way point leaf
    point_is way leaf positive meets whole h sums = record {
      shape = p.shape;
      lowest = lowest_parts point.x point.eta (width + blocks_of part) den v point.den p.lowest;
      meets = node_met m part s box cuts of_split v den point p.shape.x p.lowest way meets;
      whole = whole_at whole;
      fits = sums.0;
      fits_value = sums.1;
      leaf_is = leaf_kept way leaf h;
      possible = record { v = v; den = den; positive = positive; meets = meets };
    }
