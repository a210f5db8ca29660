-- Weak duality: a point of a system meets each sum of its rows with positive multipliers.
use Rattle.std.specs.Prelude.{ℕ, ◌<◌, ◌≡◌, ℤ, pos, ◌+ℤ◌, ◌*ℤ◌, ◌≤ℤ◌, ◌<ℤ◌, List, [], ◌∷◌}
use Rattle.std.proofs.Common.{refl, ap, sym, ◌∙◌, arith}
use Rattle.std.proofs.lemmas.Int.{ints}
use Rattle.bz_algebra.specs.Sums.{dot, upto}
use Rattle.bz_algebra.specs.Systems.{System, Meets, SumsTo, ArePositive, left_side}
use Rattle.bz_algebra.proofs.Ring.{mul_le_left, le_of, add_le}
use Rattle.bz_algebra.proofs.SumLemmas.{dot_add, dot_scale_right, upto_dot, upto_same}

-- rows that hold, times positive numbers, have a sum that holds
pub dot_le : (n : ℕ) (mu : List (ℕ × ℤ)) (f g : ℕ → ℤ) → ArePositive n mu → ((r : ℕ) → r < n → (f r) ≤ℤ (g r)) → (dot mu f) ≤ℤ (dot mu g)
dot_le n [] f g p h = le_of _ _ refl
dot_le n (e ∷ es) f g p h =
    let positive : (pos 0) <ℤ e.1 = p.1 in
    add_le _ _ _ _ (mul_le_left e.1 (f e.0) (g e.0) (omega (arith, ints)) (h e.0 p.0)) (dot_le n es f g p.2 h)

-- the point x/q, y/q of the system meets the row a x + b y <= c that its rows add up to
pub weak_duality : (s : System) (mu : List (ℕ × ℤ)) (x y a b : ℕ → ℤ) (q c : ℤ) → Meets s x y q → SumsTo s mu a b c → (upto s.width (λ i. a i *ℤ x i) +ℤ upto s.depth (λ j. b j *ℤ y j)) ≤ℤ (c *ℤ q)
weak_duality s mu x y a b q c m t = rw (at_left, at_right) (dot_le s.count mu (left_side s x y) (λ r. s.rhs r *ℤ q) t.multipliers m.rows_hold)
  where
    firsts : upto s.width (λ i. a i *ℤ x i) ≡ dot mu (λ r. upto s.width (λ i. s.first r i *ℤ x i))
    firsts = upto_same s.width _ _ (λ i l. ap (λ (u : ℤ). u *ℤ x i) (sym (t.firsts i l))) ∙ upto_dot mu s.width s.first x

    seconds : upto s.depth (λ j. b j *ℤ y j) ≡ dot mu (λ r. upto s.depth (λ j. s.second r j *ℤ y j))
    seconds = upto_same s.depth _ _ (λ j l. ap (λ (u : ℤ). u *ℤ y j) (sym (t.seconds j l))) ∙ upto_dot mu s.depth s.second y

    at_left : upto s.width (λ i. a i *ℤ x i) +ℤ upto s.depth (λ j. b j *ℤ y j) ≡ dot mu (left_side s x y)
    at_left =
        (λ k. firsts k +ℤ seconds k)
        ∙ sym (dot_add mu (λ r. upto s.width (λ i. s.first r i *ℤ x i)) (λ r. upto s.depth (λ j. s.second r j *ℤ y j)))

    at_right : c *ℤ q ≡ dot mu (λ r. s.rhs r *ℤ q)
    at_right = ap (λ (u : ℤ). u *ℤ q) (sym t.right) ∙ sym (dot_scale_right mu s.rhs q)
