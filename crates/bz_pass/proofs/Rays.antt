-- A model with a feasible point and a ray along which the inner cost falls has feasible points as good as one likes.
use Rattle.std.specs.Prelude.{ℕ, suc, ◌<◌, ◌≡◌, Bool, true, false, ℤ, pos, negsuc, ◌+ℤ◌, ◌-ℤ◌, ◌*ℤ◌, ◌≤ℤ◌, ◌<ℤ◌, neg_ℤ, nat_abs, List, length, Option, Some, None, IfSome, MatchBool, if◌then◌else◌}
use Rattle.std.specs.List.{enumerate_from}
use Rattle.std.proofs.Common.{ap, sym, subst, ◌∙◌, arith}
use Rattle.std.proofs.lemmas.Bool.{OnTrue_at, OnTrue_from}
use Rattle.std.proofs.lemmas.Int.{ints}
use Rattle.bz_algebra.specs.Fractions.{whole}
use Rattle.bz_algebra.specs.Sums.{dot, AllBelow}
use Rattle.bz_algebra.proofs.Ring.{add_zero, mul_add, mul_le_left, mul_one, mul_zero}
use Rattle.bz_algebra.proofs.SumLemmas.{dot_add, dot_same_below, dot_scale}
use Rattle.bz_num.specs.declared.Frac.{Frac}
use Rattle.bz_model.specs.declared.Column.{Column}
use Rattle.bz_model.specs.declared.Model.{Model}
use Rattle.bz_model.specs.declared.Parts.{Parts}
use Rattle.bz_model.specs.declared.Row.{Row}
use Rattle.bz_model.specs.Parting.{blocks_of, integers_of}
use Rattle.bz_model.specs.Points.{coordinate, objective, IsBetter, IsFeasible, IsUnbounded, IsWhole, RowHolds, ColumnHolds}
use Rattle.bz_model.specs.Strict.{HasItsColumns}
use Rattle.bz_model.proofs.MeetingParts.{all_both, all_then, numbers_within}
use Rattle.bz_tree.specs.Integers.{IntegerHolds}
use Rattle.bz_model.specs.PartPoints.{HasPointShape, IsPointOf}
use Rattle.bz_model.specs.Decomposed.{IsDecomposed}
use Rattle.bz_model.proofs.Numbered.{list_of, length-list_of, narrow-list_of, coordinate-list_of}
use Rattle.bz_pass.proofs.Optimality.{either}
use Rattle.bz_pass.proofs.PointsOfParts.{AreFeasible, parts_are_feasible}
use Rattle.bz_tree.specs.Verdicts.{PassesUnbounded}
use Rattle.bz_model.specs.Rays.{IsFallingRay, RowAllows, ColumnAllows}
use Rattle.bz_pass.proofs.Judging.{some_point}

-- ---- steps along a ray keep sides and bounds
row_lower : (o : Option ℤ) (t a b q : ℤ) → (pos 0) ≤ℤ t → IfSome o (λ l. (l *ℤ q) ≤ℤ a) → IfSome o (λ l. (pos 0) ≤ℤ b) → IfSome o (λ l. (l *ℤ q) ≤ℤ (a +ℤ (t *ℤ b)))
row_lower None t a b q some h r = tt
row_lower (Some l) t a b q some h r = omega (arith, ints, h, mul_le_left t (pos 0) b some r, mul_zero t)

row_upper : (o : Option ℤ) (t a b q : ℤ) → (pos 0) ≤ℤ t → IfSome o (λ u. a ≤ℤ (u *ℤ q)) → IfSome o (λ u. b ≤ℤ (pos 0)) → IfSome o (λ u. (a +ℤ (t *ℤ b)) ≤ℤ (u *ℤ q))
row_upper None t a b q some h r = tt
row_upper (Some u) t a b q some h r = omega (arith, ints, h, mul_le_left t b (pos 0) some r, mul_zero t)

column_lower : (o : Option Frac) (t x r q : ℤ) → (pos 0) ≤ℤ t → IfSome o (λ f. (f.num *ℤ q) ≤ℤ (f.den *ℤ x)) → IfSome o (λ f. (pos 0) ≤ℤ r) → IfSome o (λ f. (f.num *ℤ q) ≤ℤ (f.den *ℤ (x +ℤ (t *ℤ r))))
column_lower None t x r q some h g = tt
column_lower (Some f) t x r q some h g =
    let step : (pos 0) ≤ℤ (t *ℤ r) = omega (arith, ints, mul_le_left t (pos 0) r some g, mul_zero t) in
    omega (arith, ints, h, mul_add f.den x (t *ℤ r), mul_le_left f.den (pos 0) (t *ℤ r) (omega (arith, ints, f.positive)) step, mul_zero f.den)

column_upper : (o : Option Frac) (t x r q : ℤ) → (pos 0) ≤ℤ t → IfSome o (λ f. (f.den *ℤ x) ≤ℤ (f.num *ℤ q)) → IfSome o (λ f. r ≤ℤ (pos 0)) → IfSome o (λ f. (f.den *ℤ (x +ℤ (t *ℤ r))) ≤ℤ (f.num *ℤ q))
column_upper None t x r q some h g = tt
column_upper (Some f) t x r q some h g =
    let step : (t *ℤ r) ≤ℤ (pos 0) = omega (arith, ints, mul_le_left t r (pos 0) some g, mul_zero t) in
    omega (arith, ints, h, mul_add f.den x (t *ℤ r), mul_le_left f.den (t *ℤ r) (pos 0) (omega (arith, ints, f.positive)) step, mul_zero f.den)

stays : (t x r : ℤ) → r ≡ pos 0 → x ≡ x +ℤ (t *ℤ r)
stays t x r e = rw (e, mul_zero t) (sym (add_zero x))

column_allows : (column : Column) (t x r q : ℤ) → (pos 0) ≤ℤ t → ColumnHolds column x q → ColumnAllows column r → ColumnHolds column (x +ℤ (t *ℤ r)) q
column_allows column t x r q some h g = record {
  bounds = record {
    at_least = column_lower column.lower t x r q some h.bounds.at_least g.at_least;
    at_most = column_upper column.upper t x r q some h.bounds.at_most g.at_most;
  };
  integer = OnTrue_from column.integer (IsWhole (x +ℤ (t *ℤ r)) q) (λ i. subst (λ (y : ℤ). IsWhole y q) (stays t x r (OnTrue_at i g.integer)) (OnTrue_at i h.integer));
}

-- ---- points along a ray
module _ (m : Model) (p ray : List ℤ) (t : ℤ) where
  -- the point after t steps
  along : List ℤ
  along = list_of (length m.columns) (λ j. coordinate p j +ℤ (t *ℤ coordinate ray j))

  along_counted : length along ≡ length m.columns
  unfolding along
  along_counted = length-list_of (length m.columns) _

  along_at : (j : ℕ) → j < length m.columns → coordinate along j ≡ coordinate p j +ℤ (t *ℤ coordinate ray j)
  unfolding along
  along_at j l = coordinate-list_of (length m.columns) _ j l

  dot_along : (es : List (ℕ × ℤ)) → AllBelow (length m.columns) es → dot es (coordinate along) ≡ dot es (coordinate p) +ℤ (t *ℤ dot es (coordinate ray))
  dot_along es h =
      dot_same_below (length m.columns) es (coordinate along) (λ j. coordinate p j +ℤ (t *ℤ coordinate ray j)) h along_at
      ∙ dot_add es (coordinate p) (λ j. t *ℤ coordinate ray j)
      ∙ ap (λ (s : ℤ). dot es (coordinate p) +ℤ s) (dot_scale es t (coordinate ray))

  row_along : (q : ℤ) (row : Row) → (pos 0) ≤ℤ t → AllBelow (length m.columns) row.terms → RowHolds row p q → RowAllows ray row → RowHolds row along q
  row_along q row some w h g = record {
    at_least = rw (dot_along row.terms w) (row_lower row.lower t (dot row.terms (coordinate p)) (dot row.terms (coordinate ray)) q some h.at_least g.at_least);
    at_most = rw (dot_along row.terms w) (row_upper row.upper t (dot row.terms (coordinate p)) (dot row.terms (coordinate ray)) q some h.at_most g.at_most);
  }

  along_feasible : (q : ℤ) → (pos 0) ≤ℤ t → HasItsColumns m → IsFeasible m p q → IsFallingRay m ray → IsFeasible m along q
  along_feasible q some c f r = record {
    positive = f.positive;
    numbers = along_counted;
    rows = all_both (λ row. AllBelow (length m.columns) row.terms) (λ row. RowHolds row p q × RowAllows ray row) _ m.rows c.rows
        (all_both _ _ (λ row. RowHolds row p q × RowAllows ray row) m.rows f.rows r.rows (λ row h g. (h, g)))
        (λ row w h. row_along q row some w h.0 h.1);
    columns = all_both (λ e. e.0 < length m.columns) (λ e. ColumnHolds e.1 (coordinate p e.0) q × ColumnAllows e.1 (coordinate ray e.0)) _ (enumerate_from 0 m.columns)
        (numbers_within 0 (length m.columns) m.columns (omega arith))
        (all_both _ _ (λ e. ColumnHolds e.1 (coordinate p e.0) q × ColumnAllows e.1 (coordinate ray e.0)) (enumerate_from 0 m.columns) f.columns r.columns (λ e h g. (h, g)))
        (λ e l h. rw (along_at e.0 l) (column_allows e.1 t (coordinate p e.0) (coordinate ray e.0) q some h.0 h.1));
  }

-- ---- far enough
-- more steps than the distance from the objective a to the bound b
steps : ℤ → ℤ → ℤ
steps a b = pos (suc (nat_abs (b -ℤ a)))

forward : (a b : ℤ) → (pos 0) ≤ℤ (steps a b)
unfolding steps
forward a b = omega (arith, ints)

falls : (a b r : ℤ) → r <ℤ (pos 0) → (a +ℤ (steps a b *ℤ r)) <ℤ b
unfolding steps
falls a b r h =
    let t : ℤ = pos (suc (nat_abs (b -ℤ a))) in
    let some : (pos 0) ≤ℤ t = omega (arith, ints) in
    let much : (t *ℤ r) ≤ℤ (t *ℤ negsuc 0) = mul_le_left t r (negsuc 0) some (omega (arith, ints)) in
    let down : t *ℤ negsuc 0 ≡ neg_ℤ t = omega (arith, ints) in
    omega (arith, ints, much, down)

rises : (a b r : ℤ) → (pos 0) <ℤ r → b <ℤ (a +ℤ (steps a b *ℤ r))
unfolding steps
rises a b r h =
    let t : ℤ = pos (suc (nat_abs (b -ℤ a))) in
    let some : (pos 0) ≤ℤ t = omega (arith, ints) in
    let much : (t *ℤ pos 1) ≤ℤ (t *ℤ r) = mul_le_left t (pos 1) r some (omega (arith, ints)) in
    let up : t *ℤ pos 1 ≡ t = mul_one t in
    omega (arith, ints, much, up)

-- the objective after so many steps, where its cost changes by r each
passes_by : (maximise : Bool) (a r k b : ℤ) → (if maximise then neg_ℤ r else r) <ℤ (pos 0) → MatchBool maximise (b <ℤ (((a +ℤ (steps (a +ℤ k) b *ℤ r)) +ℤ k) *ℤ pos 1)) ((((a +ℤ (steps (a +ℤ k) b *ℤ r)) +ℤ k) *ℤ pos 1) <ℤ b)
passes_by true a r k b h = rw (mul_one ((a +ℤ (steps (a +ℤ k) b *ℤ r)) +ℤ k)) (omega (arith, ints, rises (a +ℤ k) b r (omega (arith, ints))))
passes_by false a r k b h = rw (mul_one ((a +ℤ (steps (a +ℤ k) b *ℤ r)) +ℤ k)) (omega (arith, ints, falls (a +ℤ k) b r h))

-- ---- the law
module _ (m : Model) (p ray : List ℤ) (q n : ℤ) (c : HasItsColumns m) (f : IsFeasible m p q) (r : IsFallingRay m ray) where
  far : ℤ
  far = steps (dot m.cost (coordinate p) +ℤ (m.constant *ℤ q)) (n *ℤ (m.scale *ℤ q))

  far_forward : (pos 0) ≤ℤ far
  unfolding far
  far_forward = forward _ _

  far_better : IsBetter m (objective m (along m p ray far) q) (whole n)
  unfolding far
  far_better = rw (dot_along m p ray (steps (dot m.cost (coordinate p) +ℤ (m.constant *ℤ q)) (n *ℤ (m.scale *ℤ q))) m.cost c.cost)
      (passes_by m.maximise (dot m.cost (coordinate p)) (dot m.cost (coordinate ray)) (m.constant *ℤ q) (n *ℤ (m.scale *ℤ q)) (subst (λ (z : ℤ). z <ℤ (pos 0)) (either m.maximise m.cost (coordinate ray)) r.cost))

  better_point : (p' : List ℤ) × (q' : ℤ) × IsFeasible m p' q' × IsBetter m (objective m p' q') (whole n)
  better_point = (along m p ray far, q, along_feasible m p ray far q far_forward c f r, far_better)

-- the same point with etas that are 0
abbrev without_etas : List ℕ → Parts → Parts
without_etas part parts = record {
  master = record {
    den = parts.master.den;
    x = parts.master.x;
    eta = list_of (blocks_of part) (λ b. pos 0);
    den_narrow = parts.master.den_narrow;
    x_narrow = parts.master.x_narrow;
    eta_narrow = narrow-list_of (blocks_of part) (λ b. pos 0) (λ b. omega arith);
  };
  blocks = parts.blocks;
}

shape_without_etas : (m : Model) (part : List ℕ) (parts : Parts) → HasPointShape m part parts → HasPointShape m part (without_etas part parts)
shape_without_etas m part parts s = record { master = record { den = s.master.den; x = s.master.x }; blocks = s.blocks; each = s.each }

without_etas_feasible : (m : Model) (part : List ℕ) (parts : Parts) (ray : List ℤ) → PassesUnbounded m part parts ray → AreFeasible m part (without_etas part parts)
without_etas_feasible m part parts ray s = record {
  shape = record { point = shape_without_etas m part parts s.shape; eta = length-list_of (blocks_of part) _ };
  master = s.master;
  root = s.root;
  is_root = s.is_root;
  integers = all_then (IntegerHolds part s.root parts.master) _ (enumerate_from 0 (integers_of m)) s.integers (λ e h. record { whole = h.whole; at_least = h.at_least; at_most = h.at_most });
  rows = s.blocks;
}

pub ray_unbounded : (m : Model) (part : List ℕ) (parts : Parts) (ray : List ℤ) → IsDecomposed m part → PassesUnbounded m part parts ray → IsUnbounded m
ray_unbounded m part parts ray d s n =
    let kept = without_etas_feasible m part parts ray s in
    let at = some_point m part (without_etas part parts) d (shape_without_etas m part parts s.shape) in
    better_point m at.0 ray at.1 n d.columns (parts_are_feasible m part (without_etas part parts) at.0 at.1 d kept at.2) s.falls

-- each point of the parts of a passing certificate is feasible, whatever their etas are
pub ray_point_feasible : (m : Model) (part : List ℕ) (parts : Parts) (ray p : List ℤ) (q : ℤ) → IsDecomposed m part → PassesUnbounded m part parts ray → IsPointOf m part parts p q → IsFeasible m p q
ray_point_feasible m part parts ray p q d s r = parts_are_feasible m part (without_etas part parts) p q d (without_etas_feasible m part parts ray s)
    (record { positive = r.positive; numbers = r.numbers; master = r.master; blocks = r.blocks })
