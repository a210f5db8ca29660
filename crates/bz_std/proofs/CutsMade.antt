-- The cuts that an answer's multipliers make: they are valid, and that of a separation cuts its point off.
use Rattle.std.specs.Prelude.{ℕ, ◌+◌, ◌<◌, ◌≤◌, ◌≡◌, ℤ, pos, ◌+ℤ◌, ◌-ℤ◌, ◌*ℤ◌, neg_ℤ, ◌≤ℤ◌, ◌<ℤ◌, List, [], ◌++◌, length, map}
use Rattle.std.proofs.Common.{refl, ap, sym, subst, ◌∙◌, arith}
use Rattle.std.proofs.lemmas.Int.{ints}
use Rattle.std.proofs.lemmas.List.{length-append, length-map}
use Rattle.std.proofs.Math.IntN.{*ℤ_comm}
use Rattle.std.proofs.Math.Nat.{add-zero as nat_add-zero}
use Rattle.bz_algebra.specs.Sums.{dot, coef, upto, AllBelow}
use Rattle.bz_algebra.proofs.Ring.{*ℤ_assoc, cancel_le_left, cancel_lt_left, mul_left, mul_sub, mul_zero, zero_add, zero_mul}
use Rattle.bz_algebra.proofs.SumLemmas.{dot_all, upto_rows, upto_same, upto_scale, upto_sub, upto_zeros}
use Rattle.bz_num.specs.Fold.{products}
use Rattle.bz_num.proofs.Folds.{products-pairs_at}
use Rattle.bz_model.specs.declared.Ineq.{Ineq}
use Rattle.bz_model.specs.declared.Master.{Master}
use Rattle.bz_model.specs.declared.Model.{Model}
use Rattle.bz_model.specs.Decomposed.{IsDecomposed}
use Rattle.bz_model.specs.PartPoints.{eta_of}
use Rattle.bz_model.specs.Parting.{blocks_of, inequalities_of, inner_cost, negated, terms_in, width_of}
use Rattle.bz_model.specs.Points.{coordinate}
use Rattle.bz_model.specs.Splits.{FitsPart}
use Rattle.bz_model.proofs.MeetingParts.{all_then}
use Rattle.bz_model.proofs.PartSums.{dot_negated}
use Rattle.bz_cut.specs.declared.Cut.{Cut}
use Rattle.bz_cut.specs.declared.Mode.{Mode}
use Rattle.bz_cut.specs.declared.Mode.TheVariants as mode
use Rattle.bz_cut.specs.Cuts.{IsValid}
use Rattle.bz_cut.specs.Points.{CutsOff}
use Rattle.bz_cut.specs.Rows.{own_at, master_at, rhs_at}
use Rattle.bz_std.specs.CutsFrom.{BalancesCost, IsCutFrom, IsNoCut, IsSeparationCut, cost_multiplier}
use Rattle.bz_std.specs.Meanings.{sum_on, sum_right, AreNonnegative, IsLeastAt, IsLeastRise, IsEmptyBy}
use Rattle.bz_std.specs.Posed.{Line}
use Rattle.bz_std.specs.Tasks.{cost_lines, falling_line, floor, own_line, right_pairs, separation}
use Rattle.bz_std.proofs.Combined.{rise_empties}
use Rattle.bz_std.proofs.Entries.{entries_are_multipliers, entries_sum}
use Rattle.bz_std.proofs.PosedTasks.{part_fits}
use Rattle.bz_std.proofs.RowSums.{append_sum, made_sum, master_below, rows_sum}

-- ---- the rows of a separation: those of the block, and then that of its cost
module _ (m : Model) (part : List ℕ) (point : Master) (b : ℕ) where
  abbrev is : List Ineq
  is = inequalities_of m part b

  abbrev rows : List Line
  rows = map (own_line point) is

  -- what g makes of the row of the cost, with its multiplier
  with_cost : (g : List (ℕ × ℤ) → ℤ → ℤ) (y : ℕ → ℤ) (way : Mode) → rows_sum g y (rows ++ cost_lines m part point b way) ≡ rows_sum g y rows +ℤ (cost_multiplier way (length is) y *ℤ g (terms_in part b (inner_cost m)) (eta_of point b))
  with_cost g y mode.Cost = append_sum g y (λ i. y (length is + i)) rows (cost_lines m part point b mode.Cost) shifted ∙ ap (λ (t : ℤ). rows_sum g y rows +ℤ t) last
    where
      shifted : (i : ℕ) → y (length is + i) ≡ y (length rows + i)
      shifted i = ap (λ (n : ℕ). y (n + i)) (sym (length-map is (own_line point)))

      last : rows_sum g (λ i. y (length is + i)) (cost_lines m part point b mode.Cost) ≡ y (length is) *ℤ g (terms_in part b (inner_cost m)) (eta_of point b)
      last = rw (nat_add-zero (length is)) (zero_add (y (length is) *ℤ g (terms_in part b (inner_cost m)) (eta_of point b)))
  with_cost g y mode.Point = append_sum g y (λ i. y (length rows + i)) rows [] (λ i. refl) ∙ ap (λ (t : ℤ). rows_sum g y rows +ℤ t) (sym (zero_mul (g (terms_in part b (inner_cost m)) (eta_of point b))))

  own_sum : (y : ℕ → ℤ) (way : Mode) (j : ℕ) → sum_on (separation m part point b way) y j ≡ upto (length is) (λ n. y n *ℤ coef (own_at is n) j) +ℤ (cost_multiplier way (length is) y *ℤ coef (terms_in part b (inner_cost m)) j)
  own_sum y way j = with_cost (λ terms rhs. coef terms j) y way ∙ ap (λ (t : ℤ). t +ℤ (cost_multiplier way (length is) y *ℤ coef (terms_in part b (inner_cost m)) j)) (made_sum (own_line point) is y (λ terms rhs. coef terms j) (λ own master rhs. coef own j) (λ i. refl))

  -- the right side of a row
  pub right_of : (i : Ineq) → products (right_pairs point i) ≡ (point.den *ℤ i.rhs) -ℤ dot i.master (coordinate point.x)
  right_of i = ap (λ (t : ℤ). (point.den *ℤ i.rhs) +ℤ t) (products-pairs_at (negated i.master) (coordinate point.x) ∙ dot_negated i.master (coordinate point.x))

  apart : (y d h t : ℤ) → y *ℤ ((d *ℤ h) -ℤ t) ≡ (d *ℤ (y *ℤ h)) -ℤ (y *ℤ t)
  apart y d h t = omega (arith, ints, mul_sub y (d *ℤ h) t, mul_left y d h)

  right_sum : (y : ℕ → ℤ) (way : Mode) → sum_right (separation m part point b way) y ≡ ((point.den *ℤ upto (length is) (λ n. y n *ℤ rhs_at is n)) -ℤ upto (length is) (λ n. y n *ℤ dot (master_at is n) (coordinate point.x))) +ℤ (cost_multiplier way (length is) y *ℤ eta_of point b)
  right_sum y way = with_cost (λ terms rhs. rhs) y way
      ∙ ap (λ (t : ℤ). t +ℤ (cost_multiplier way (length is) y *ℤ eta_of point b))
      (made_sum (own_line point) is y (λ terms rhs. rhs) (λ own master rhs. (point.den *ℤ rhs) -ℤ dot master (coordinate point.x)) right_of
      ∙ upto_same (length is) _ _ (λ n l. apart (y n) point.den (rhs_at is n) (dot (master_at is n) (coordinate point.x)))
      ∙ upto_sub (length is) (λ n. point.den *ℤ (y n *ℤ rhs_at is n)) (λ n. y n *ℤ dot (master_at is n) (coordinate point.x))
      ∙ ap (λ (t : ℤ). t -ℤ upto (length is) (λ n. y n *ℤ dot (master_at is n) (coordinate point.x))) (upto_scale (length is) point.den (λ n. y n *ℤ rhs_at is n)))

  -- ---- the signs of its multipliers
  cost_nonnegative : (y : ℕ → ℤ) (way : Mode) → AreNonnegative (separation m part point b way) y → (pos 0) ≤ℤ (cost_multiplier way (length is) y)
  cost_nonnegative y mode.Cost h = h (length is) (omega (arith, length-append rows (cost_lines m part point b mode.Cost), length-map is (own_line point)))
  cost_nonnegative y mode.Point h = omega (arith, ints)

  pub separation_balances : (way : Mode) (v : ℕ → ℤ) (s den : ℤ) (y : ℕ → ℤ) (by : ℤ) → IsLeastRise (separation m part point b way) v s den y by → BalancesCost m part b y (cost_multiplier way (length is) y)
  separation_balances way v s den y by r = record {
    multipliers = λ n l. r.multipliers n (omega (arith, length-append rows (cost_lines m part point b way), length-map is (own_line point)));
    nonnegative = cost_nonnegative y way r.multipliers;
    own = λ i l. omega (arith, ints, r.balanced i l, own_sum y way i);
  }

-- the rows of a floor: those of the block
pub floor_balances : (m : Model) (part : List ℕ) (b : ℕ) (v : ℕ → ℤ) (den : ℤ) (y : ℕ → ℤ) (by : ℤ) → IsLeastAt (floor m part b) v den y by → BalancesCost m part b y by
floor_balances m part b v den y by l = record {
  multipliers = λ n k. l.multipliers n (omega (arith, length-map (inequalities_of m part b) falling_line));
  nonnegative = omega (arith, ints, l.by_positive);
  own = λ i k. sym (made_sum falling_line (inequalities_of m part b) y (λ terms rhs. coef terms i) (λ own master rhs. coef own i) (λ ineq. refl)) ∙ l.balanced i k;
}

-- ---- cuts are valid
module _ (m : Model) (part : List ℕ) (y : ℕ → ℤ) (raw : ℤ) (cut : Cut) (first : 0 < cut.block) (last : cut.block ≤ blocks_of part) (h : BalancesCost m part cut.block y raw) (c : IsCutFrom m part cut.block y raw cut) where
  own_valid : IsValid m part cut
  own_valid = record {
    block = (first, last);
    alpha = c.alpha;
    mu = entries_are_multipliers (length (inequalities_of m part cut.block)) y h.multipliers cut.mu c.mu;
    p0 = cancel_le_left cut.gcd (pos 0) cut.p0 c.gcd (rw (mul_zero cut.gcd, ← c.eta) h.nonnegative);
    gcd = c.gcd;
    own = λ i l. entries_sum _ y (λ n. coef (own_at (inequalities_of m part cut.block) n) i) cut.mu c.mu ∙ h.own i l ∙ ap (λ (t : ℤ). neg_ℤ (t *ℤ coef (terms_in part cut.block (inner_cost m)) i)) c.eta;
    master = c.master;
    rhs = c.rhs;
  }

pub valid_cut : (m : Model) (part : List ℕ) (b : ℕ) (y : ℕ → ℤ) (raw : ℤ) (cut : Cut) → 0 < b → b ≤ blocks_of part → BalancesCost m part b y raw → IsCutFrom m part b y raw cut → IsValid m part cut
valid_cut m part b y raw cut first last h c = own_valid m part y raw cut
    (subst (λ (k : ℕ). 0 < k) e first)
    (subst (λ (k : ℕ). k ≤ blocks_of part) e last)
    (subst (λ (k : ℕ). BalancesCost m part k y raw) e h)
    (subst (λ (k : ℕ). IsCutFrom m part k y raw cut) e c)
  where
    e : b ≡ cut.block
    e = sym c.block

pub valid_of_separation : (m : Model) (part : List ℕ) (point : Master) (b : ℕ) (way : Mode) (v : ℕ → ℤ) (s den : ℤ) (y : ℕ → ℤ) (by : ℤ) (cut : Cut) → 0 < b → b ≤ blocks_of part → IsLeastRise (separation m part point b way) v s den y by → IsSeparationCut m part b way y cut → IsValid m part cut
valid_of_separation m part point b way v s den y by cut first last r c = valid_cut m part b y _ cut first last (separation_balances m part point b way v s den y by r) c

pub valid_of_floor : (m : Model) (part : List ℕ) (b : ℕ) (v : ℕ → ℤ) (den : ℤ) (y : ℕ → ℤ) (by : ℤ) (cut : Cut) → 0 < b → b ≤ blocks_of part → IsLeastAt (floor m part b) v den y by → IsCutFrom m part b y by cut → IsValid m part cut
valid_of_floor m part b v den y by cut first last l c = valid_cut m part b y by cut first last (floor_balances m part b v den y by l) c

-- a floor's cut has a number at its eta
pub floor_has_eta : (m : Model) (part : List ℕ) (b : ℕ) (v : ℕ → ℤ) (den : ℤ) (y : ℕ → ℤ) (by : ℤ) (cut : Cut) → IsLeastAt (floor m part b) v den y by → IsCutFrom m part b y by cut → (pos 0) <ℤ cut.p0
floor_has_eta m part b v den y by cut l c = cancel_lt_left cut.gcd (pos 0) cut.p0 (omega (arith, ints, c.gcd)) (rw (mul_zero cut.gcd, ← c.eta) l.by_positive)

-- ---- the cut of a separation cuts off its point
module _ (m : Model) (part : List ℕ) (d : IsDecomposed m part) (point : Master) (b : ℕ) (y : ℕ → ℤ) where
  abbrev of_block : List Ineq
  of_block = inequalities_of m part b

  below : (n : ℕ) → n < length of_block → AllBelow (width_of part 0) (master_at of_block n)
  below n l = master_below (width_of part 0) of_block (all_then (FitsPart part b) _ of_block (part_fits m part d b) (λ i f. f.master)) n l

  -- the master's terms at the point, by positions
  at_point : upto (length of_block) (λ n. y n *ℤ dot (master_at of_block n) (coordinate point.x)) ≡ upto (width_of part 0) (λ i. upto (length of_block) (λ n. y n *ℤ coef (master_at of_block n) i) *ℤ coordinate point.x i)
  at_point = upto_same (length of_block) _ _ (λ n l. ap (λ (t : ℤ). y n *ℤ t) (dot_all (width_of part 0) (master_at of_block n) (coordinate point.x) (below n l)))
      ∙ sym (upto_rows (width_of part 0) (length of_block) y (λ n i. coef (master_at of_block n) i) (coordinate point.x))

  -- numbers that are all 0 leave no right side
  pub makes_cut : (way : Mode) (v : ℕ → ℤ) (s den by : ℤ) → IsLeastRise (separation m part point b way) v s den y by → (pos 0) <ℤ s → ¬ IsNoCut m part b y (cost_multiplier way (length of_block) y)
  makes_cut way v s den by r l z = omega (arith, ints, e.right, right_sum m part point b y way, nothing, ap (λ (t : ℤ). point.den *ℤ t) z.rhs, mul_zero point.den, ap (λ (t : ℤ). t *ℤ eta_of point b) z.eta, zero_mul (eta_of point b))
    where
      e : IsEmptyBy (separation m part point b way) y
      e = rise_empties (separation m part point b way) v s den y by r l

      nothing : upto (length of_block) (λ n. y n *ℤ dot (master_at of_block n) (coordinate point.x)) ≡ pos 0
      nothing = at_point ∙ upto_zeros (width_of part 0) _ (λ i k. ap (λ (t : ℤ). t *ℤ coordinate point.x i) (z.master i k) ∙ zero_mul (coordinate point.x i))

  module _ (raw : ℤ) (cut : Cut) (c : IsCutFrom m part b y raw cut) where
    -- what the sums are in the cut's numbers
    rhs_is : upto (length of_block) (λ n. y n *ℤ rhs_at of_block n) ≡ cut.gcd *ℤ cut.beta
    rhs_is = sym (entries_sum _ y (rhs_at of_block) cut.mu c.mu) ∙ c.rhs

    master_is : upto (length of_block) (λ n. y n *ℤ dot (master_at of_block n) (coordinate point.x)) ≡ cut.gcd *ℤ dot cut.alpha (coordinate point.x)
    master_is = at_point
        ∙ upto_same (width_of part 0) _ _ (λ i l. ap (λ (t : ℤ). t *ℤ coordinate point.x i) (sym (entries_sum _ y (λ n. coef (master_at of_block n) i) cut.mu c.mu) ∙ c.master i l) ∙ *ℤ_assoc cut.gcd (coef cut.alpha i) (coordinate point.x i))
        ∙ upto_scale (width_of part 0) cut.gcd (λ i. coef cut.alpha i *ℤ coordinate point.x i)
        ∙ ap (λ (t : ℤ). cut.gcd *ℤ t) (sym (dot_all (width_of part 0) cut.alpha (coordinate point.x) c.alpha))

    -- a positive factor goes out
    factored : (g beta den alpha p0 eta : ℤ) → (pos 0) <ℤ g → (((den *ℤ (g *ℤ beta)) -ℤ (g *ℤ alpha)) +ℤ ((g *ℤ p0) *ℤ eta)) <ℤ (pos 0) → (beta *ℤ den) <ℤ (alpha -ℤ (p0 *ℤ eta))
    factored g beta den alpha p0 eta h l = cancel_lt_left g (beta *ℤ den) (alpha -ℤ (p0 *ℤ eta)) (omega (arith, ints)) (omega (arith, ints, l, mul_left den g beta, ap (λ (t : ℤ). g *ℤ t) (*ℤ_comm den beta), mul_sub g alpha (p0 *ℤ eta), *ℤ_assoc g p0 eta))

  pub cuts_off_point : (way : Mode) (v : ℕ → ℤ) (s den by : ℤ) (cut : Cut) → IsLeastRise (separation m part point b way) v s den y by → (pos 0) <ℤ s → IsSeparationCut m part b way y cut → CutsOff cut point
  cuts_off_point way v s den by cut r l c = rw (c.block) (factored _ cut c cut.gcd cut.beta point.den (dot cut.alpha (coordinate point.x)) cut.p0 (eta_of point b) c.gcd below)
    where
      e : IsEmptyBy (separation m part point b way) y
      e = rise_empties (separation m part point b way) v s den y by r l

      below : (((point.den *ℤ (cut.gcd *ℤ cut.beta)) -ℤ (cut.gcd *ℤ dot cut.alpha (coordinate point.x))) +ℤ ((cut.gcd *ℤ cut.p0) *ℤ eta_of point b)) <ℤ (pos 0)
      below = rw (← rhs_is _ cut c, ← master_is _ cut c, ← c.eta, ← right_sum m part point b y way) e.right
