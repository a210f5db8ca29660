-- Whole numbers over denominators: what an inequality over one denominator says over another.
use Rattle.std.specs.Prelude.{pos, ◌≡◌, ℤ, ◌+ℤ◌, ◌-ℤ◌, ◌*ℤ◌, ◌≤ℤ◌, ◌<ℤ◌, neg_ℤ, Option, Some, None, IfSome, IsSome}
use Rattle.std.proofs.Common.{ap, sym, ◌∙◌, arith}
use Rattle.std.proofs.lemmas.Int.{ints}
use Rattle.std.proofs.lemmas.Bool.{false≢true}
use Rattle.std.proofs.Math.IntN.{*ℤ_comm}
use Rattle.bz_algebra.proofs.Ring.{*ℤ_assoc, mul_add, add_mul, mul_neg, neg_mul, mul_left, mul_right, mul_positive, mul_le_left, mul_le_right, cancel_le_left, cancel_le_right, cancel_lt_right, cancel_right, positive-ne}
use Rattle.bz_num.specs.declared.Frac.{Frac}
use Rattle.bz_model.specs.Points.{IsWhole}
use Rattle.bz_num.specs.Rounding.{IsFloor, IsCeiling}

-- ---- o / q is v / d
-- at most n
pub scaled_le : (d q n o v : ℤ) → (pos 0) <ℤ d → (pos 0) <ℤ q → (o *ℤ d) ≡ (v *ℤ q) → v ≤ℤ (n *ℤ d) → o ≤ℤ (n *ℤ q)
scaled_le d q n o v hd hq e h = cancel_le_right o (n *ℤ q) d hd (omega (arith, ints, e, mul_le_right v (n *ℤ d) q (omega (arith, ints)) h, mul_right n d q))

-- at least n
pub scaled_ge : (d q n o v : ℤ) → (pos 0) <ℤ d → (pos 0) <ℤ q → (o *ℤ d) ≡ (v *ℤ q) → (n *ℤ d) ≤ℤ v → (n *ℤ q) ≤ℤ o
scaled_ge d q n o v hd hq e h = cancel_le_right (n *ℤ q) o d hd (omega (arith, ints, e, mul_le_right (n *ℤ d) v q (omega (arith, ints)) h, mul_right n d q))

-- whole
pub scaled_whole : (d q o v : ℤ) → (pos 0) <ℤ d → (o *ℤ d) ≡ (v *ℤ q) → IsWhole v d → IsWhole o q
scaled_whole d q o v hd e w = (w.0, cancel_right o (w.0 *ℤ q) d (positive-ne d hd) (e ∙ ap (λ (t : ℤ). t *ℤ q) w.1 ∙ mul_right w.0 d q))

-- the sum of o / q = v / (d t) and of w / q = u / d
pub scaled_sum : (d t q n o v w u : ℤ) → (pos 0) <ℤ d → (pos 0) <ℤ t → (pos 0) <ℤ q → (o *ℤ (d *ℤ t)) ≡ (v *ℤ q) → (w *ℤ d) ≡ (u *ℤ q) → ((t *ℤ u) +ℤ v) ≤ℤ (n *ℤ (d *ℤ t)) → (o +ℤ w) ≤ℤ (n *ℤ q)
scaled_sum d t q n o v w u hd ht hq e g h = scaled_le (d *ℤ t) q n (o +ℤ w) ((t *ℤ u) +ℤ v) (mul_positive d t hd ht) hq together h
  where
    second : w *ℤ (d *ℤ t) ≡ (t *ℤ u) *ℤ q
    second = sym (*ℤ_assoc w d t) ∙ ap (λ (s : ℤ). s *ℤ t) g ∙ mul_right u q t ∙ ap (λ (s : ℤ). s *ℤ q) (*ℤ_comm u t)

    together : (o +ℤ w) *ℤ (d *ℤ t) ≡ ((t *ℤ u) +ℤ v) *ℤ q
    together = omega (arith, ints, add_mul o w (d *ℤ t), e, second, add_mul (t *ℤ u) v q)

-- ---- bounds and the ends of the box of the whole model
-- a whole number that is at least a fraction is at least the least one
pub above_ceiling : (o : Option Frac) (n x q : ℤ) → IsSome o → (pos 0) <ℤ q → IfSome o (λ f. IsCeiling f n) → IfSome o (λ f. (f.num *ℤ q) ≤ℤ (f.den *ℤ x)) → IsWhole x q → (n *ℤ q) ≤ℤ x
above_ceiling None n x q s hq c h w = absurd (false≢true s)
above_ceiling (Some f) n x q s hq c h w =
    let k = w.0 in
    let e : x ≡ k *ℤ q = w.1 in
    let g : (f.num *ℤ q) ≤ℤ ((f.den *ℤ k) *ℤ q) = omega (arith, ints, h, ap (λ (t : ℤ). f.den *ℤ t) e, *ℤ_assoc f.den k q) in
    let a : (f.num) ≤ℤ (f.den *ℤ k) = cancel_le_right f.num (f.den *ℤ k) q hq g in
    let b : (n -ℤ pos 1) <ℤ k = cancel_lt_right (n -ℤ pos 1) k f.den (omega (arith, ints, f.positive)) (omega (arith, ints, c.least, a, *ℤ_comm k f.den)) in
    rw e (mul_le_right n k q (omega (arith, ints)) (omega (arith, ints)))

pub below_floor : (o : Option Frac) (n x q : ℤ) → IsSome o → (pos 0) <ℤ q → IfSome o (λ f. IsFloor f n) → IfSome o (λ f. (f.den *ℤ x) ≤ℤ (f.num *ℤ q)) → IsWhole x q → x ≤ℤ (n *ℤ q)
below_floor None n x q s hq c h w = absurd (false≢true s)
below_floor (Some f) n x q s hq c h w =
    let k = w.0 in
    let e : x ≡ k *ℤ q = w.1 in
    let g : ((f.den *ℤ k) *ℤ q) ≤ℤ (f.num *ℤ q) = omega (arith, ints, h, ap (λ (t : ℤ). f.den *ℤ t) e, *ℤ_assoc f.den k q) in
    let a : (f.den *ℤ k) ≤ℤ f.num = cancel_le_right (f.den *ℤ k) f.num q hq g in
    let b : k <ℤ (n +ℤ pos 1) = cancel_lt_right k (n +ℤ pos 1) f.den (omega (arith, ints, f.positive)) (omega (arith, ints, c.greatest, a, *ℤ_comm k f.den)) in
    rw e (mul_le_right k n q (omega (arith, ints)) (omega (arith, ints)))

-- what is within the ends is within the bounds
pub within_ceiling : (o : Option Frac) (n x q : ℤ) → (pos 0) <ℤ q → IfSome o (λ f. IsCeiling f n) → (n *ℤ q) ≤ℤ x → IfSome o (λ f. (f.num *ℤ q) ≤ℤ (f.den *ℤ x))
within_ceiling None n x q hq c h = tt
within_ceiling (Some f) n x q hq c h =
    let a : (f.num *ℤ q) ≤ℤ ((n *ℤ f.den) *ℤ q) = mul_le_right f.num (n *ℤ f.den) q (omega (arith, ints)) c.at_least in
    let b : (f.den *ℤ (n *ℤ q)) ≤ℤ (f.den *ℤ x) = mul_le_left f.den (n *ℤ q) x (omega (arith, ints, f.positive)) h in
    omega (arith, ints, a, b, *ℤ_assoc n f.den q, mul_left n f.den q)

pub within_floor : (o : Option Frac) (n x q : ℤ) → (pos 0) <ℤ q → IfSome o (λ f. IsFloor f n) → x ≤ℤ (n *ℤ q) → IfSome o (λ f. (f.den *ℤ x) ≤ℤ (f.num *ℤ q))
within_floor None n x q hq c h = tt
within_floor (Some f) n x q hq c h =
    let a : ((n *ℤ f.den) *ℤ q) ≤ℤ (f.num *ℤ q) = mul_le_right (n *ℤ f.den) f.num q (omega (arith, ints)) c.at_most in
    let b : (f.den *ℤ x) ≤ℤ (f.den *ℤ (n *ℤ q)) = mul_le_left f.den x (n *ℤ q) (omega (arith, ints, f.positive)) h in
    omega (arith, ints, a, b, *ℤ_assoc n f.den q, mul_left n f.den q)

-- ---- cuts and leaves
-- a multiple of `a - p0 e <= beta`
pub divided : (g p0 e a beta q : ℤ) → (pos 0) <ℤ g → (neg_ℤ ((g *ℤ p0) *ℤ e) +ℤ (g *ℤ a)) ≤ℤ ((g *ℤ beta) *ℤ q) → ((neg_ℤ p0 *ℤ e) +ℤ a) ≤ℤ (beta *ℤ q)
divided g p0 e a beta q hg h = cancel_le_left g ((neg_ℤ p0 *ℤ e) +ℤ a) (beta *ℤ q) hg (omega (arith, ints, h, mul_add g (neg_ℤ p0 *ℤ e) a, ap (λ (t : ℤ). g *ℤ t) (neg_mul p0 e), mul_neg g (p0 *ℤ e), *ℤ_assoc g p0 e, *ℤ_assoc g beta q))

-- `-delta (c + e) <= -bound`
pub turned : (delta bound q c e inner : ℤ) → inner ≡ c +ℤ e → ((neg_ℤ delta *ℤ e) +ℤ neg_ℤ (delta *ℤ c)) ≤ℤ (neg_ℤ bound *ℤ q) → (bound *ℤ q) ≤ℤ (delta *ℤ inner)
turned delta bound q c e inner i h = rw i (omega (arith, ints, h, neg_mul delta e, neg_mul bound q, mul_add delta c e))
