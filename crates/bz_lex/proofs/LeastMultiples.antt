-- Least common multiples of two numbers and of many.
use Rattle.std.specs.Prelude.{ℕ, zero, suc, ◌+◌, ◌/◌, ◌%◌, ◌<◌, ◌≤◌, ◌^◌, ◌≡◌, ◌≢◌, ℤ, pos, negsuc, ◌+ℤ◌, ◌*ℤ◌, ◌<ℤ◌, unsigned_abs, Option, None, Some, SomeIff, MatchOption}
use Rattle.std.specs.Int.{◌∣◌, IsGcd}
use Rattle.std.proofs.Common.{refl, ap, sym, subst, ◌∙◌, arith, inl, inr}
use Rattle.std.proofs.lemmas.Bool.{cases_eq}
use Rattle.std.proofs.lemmas.Int.{ints, unsigned_abs-mul}
use Rattle.std.proofs.lemmas.Nat.Gcd.{dvd_trans, le_of_dvd, dvd_antisymm, IsGcd-from_zero, IsGcd-from_mod}
use Rattle.std.proofs.Math.IntN.{*ℤ_comm}
use Rattle.std.proofs.Math.Nat.{mul-div_cancel', dvd-mul_right, one-dvd, mod-lt, zero-lt-suc, eq-zero_of_zero-dvd}
use Rattle.bz_algebra.specs.Numbers.{IsNarrow, IsWide}
use Rattle.bz_algebra.proofs.Bounded.{by_lt}
use Rattle.bz_algebra.proofs.Divisors.{Bezout, bezout, divides_multiple}
use Rattle.bz_algebra.proofs.Ring.{*ℤ_assoc, mul_add, mul_left, mul_zero, mul_positive, cancel_left, cancel_lt_left, positive-ne}
use Rattle.bz_lex.specs.Shown.{IsLeastTo, IsLeastOfTwo, HasWideMultiple, IsNarrowLeast, IsFirstWideLeast}

pub positive_is : (a : ℤ) → (pos 0) <ℤ a → pos (unsigned_abs a) ≡ a
positive_is (pos n) h = refl
positive_is (negsuc n) h = absurd (omega (arith, ints))

-- what a positive number divides is a multiple of it
pub multiple_of : (a : ℤ) (d : ℕ) → (pos 0) <ℤ a → unsigned_abs a ∣ d → pos d ≡ a *ℤ pos (d / unsigned_abs a)
multiple_of a d h k = ap pos (sym (mul-div_cancel' (unsigned_abs a) k)) ∙ ap (λ (t : ℤ). t *ℤ pos (d / unsigned_abs a)) (positive_is a h)

-- a factor divides the product
pub factor_divides : (a b c : ℤ) → c ≡ a *ℤ b → unsigned_abs a ∣ unsigned_abs c
factor_divides a b c e = rw (e, unsigned_abs-mul a b) (dvd-mul_right (unsigned_abs a) (unsigned_abs b))

pub wide_if : (z : ℤ) → (IsNarrow z → ⊥) → IsWide z
wide_if z n = by_lt (unsigned_abs z) (2 ^ 127) (λ l. absurd (n l)) (λ l. l)

-- ---- two numbers
common : (a b g q x y u v m : ℤ) → g ≢ pos 0 → a ≡ g *ℤ q → g ≡ (x *ℤ a) +ℤ (y *ℤ b) → m ≡ a *ℤ u → m ≡ b *ℤ v → m ≡ (q *ℤ b) *ℤ ((x *ℤ v) +ℤ (y *ℤ u))
common a b g q x y u v m n e f h k = cancel_left g m _ n
    (ap (λ (t : ℤ). t *ℤ m) f ∙ spread (x *ℤ a) (y *ℤ b) m
    ∙ (λ i. first i +ℤ second i)
    ∙ sym (mul_add (a *ℤ b) (x *ℤ v) (y *ℤ u))
    ∙ ap (λ (t : ℤ). (t *ℤ b) *ℤ ((x *ℤ v) +ℤ (y *ℤ u))) e
    ∙ ap (λ (t : ℤ). t *ℤ ((x *ℤ v) +ℤ (y *ℤ u))) (*ℤ_assoc g q b)
    ∙ *ℤ_assoc g (q *ℤ b) ((x *ℤ v) +ℤ (y *ℤ u)))
  where
    spread : (c d m : ℤ) → (c +ℤ d) *ℤ m ≡ (c *ℤ m) +ℤ (d *ℤ m)
    spread c d m = *ℤ_comm (c +ℤ d) m ∙ mul_add m c d ∙ (λ i. *ℤ_comm m c i +ℤ *ℤ_comm m d i)

    first : (x *ℤ a) *ℤ m ≡ (a *ℤ b) *ℤ (x *ℤ v)
    first = ap (λ (t : ℤ). (x *ℤ a) *ℤ t) k ∙ ap (λ (t : ℤ). t *ℤ (b *ℤ v)) (*ℤ_comm x a) ∙ *ℤ_assoc a x (b *ℤ v) ∙ ap (λ (t : ℤ). a *ℤ t) (mul_left x b v) ∙ sym (*ℤ_assoc a b (x *ℤ v))

    second : (y *ℤ b) *ℤ m ≡ (a *ℤ b) *ℤ (y *ℤ u)
    second = ap (λ (t : ℤ). (y *ℤ b) *ℤ t) h ∙ ap (λ (t : ℤ). t *ℤ (a *ℤ u)) (*ℤ_comm y b) ∙ *ℤ_assoc b y (a *ℤ u) ∙ ap (λ (t : ℤ). b *ℤ t) (mul_left y a u) ∙ sym (*ℤ_assoc b a (y *ℤ u)) ∙ ap (λ (t : ℤ). t *ℤ (y *ℤ u)) (*ℤ_comm b a)

-- the greatest common divisor is a sum of multiples
record IsSum (a b g : ℤ) : Type 0 where
  pub x : ℤ
  pub y : ℤ
  pub is_sum : g ≡ (x *ℤ a) +ℤ (y *ℤ b)

gcd_sum : (a b g : ℤ) → (pos 0) <ℤ a → (pos 0) <ℤ g → IsGcd (unsigned_abs a) (unsigned_abs b) (unsigned_abs g) → IsSum a b g
gcd_sum a b g h k is = record {
  x = part *ℤ z.firsts;
  y = part *ℤ z.seconds;
  is_sum = g_is ∙ *ℤ_comm (pos z.divisor) part ∙ ap (λ (t : ℤ). part *ℤ t) (z.is_sum ∙ ap (λ (t : ℤ). (z.firsts *ℤ t) +ℤ (z.seconds *ℤ b)) (positive_is a h)) ∙ mul_add part (z.firsts *ℤ a) (z.seconds *ℤ b) ∙ (λ i. sym (*ℤ_assoc part z.firsts a) i +ℤ sym (*ℤ_assoc part z.seconds b) i);
}
  where
    z : Bezout (pos (unsigned_abs a)) b
    z = bezout (unsigned_abs a) b

    divides : z.divisor ∣ unsigned_abs g
    divides = is.2 z.divisor (divides_multiple z.divisor (pos (unsigned_abs a)) z.first z.divides_first) (divides_multiple z.divisor b z.second z.divides_second)

    part : ℤ
    part = pos (unsigned_abs g / z.divisor)

    g_is : g ≡ pos z.divisor *ℤ part
    g_is = sym (positive_is g k) ∙ ap pos (sym (mul-div_cancel' z.divisor divides))

pub least_of_two : (a b g q : ℤ) → (pos 0) <ℤ a → (pos 0) <ℤ b → (pos 0) <ℤ g → IsGcd (unsigned_abs a) (unsigned_abs b) (unsigned_abs g) → a ≡ g *ℤ q → IsLeastOfTwo a b (q *ℤ b)
least_of_two a b g q ha hb hg is e = record {
  positive = mul_positive q b positive_q hb;
  left = factor_divides a other (q *ℤ b) (ap (λ (t : ℤ). q *ℤ t) b_is ∙ mul_left q g other ∙ sym (*ℤ_assoc g q other) ∙ ap (λ (t : ℤ). t *ℤ other) (sym e));
  right = factor_divides b q (q *ℤ b) (*ℤ_comm q b);
  least = λ d m n. factor_divides (q *ℤ b) _ (pos d) (common a b g q sum.x sum.y (pos (d / unsigned_abs a)) (pos (d / unsigned_abs b)) (pos d) (positive-ne g hg) e sum.is_sum (multiple_of a d ha m) (multiple_of b d hb n));
}
  where
    positive_q : (pos 0) <ℤ q
    positive_q = cancel_lt_left g (pos 0) q (omega (arith, ints)) (omega (arith, ints, mul_zero g))

    other : ℤ
    other = pos (unsigned_abs b / unsigned_abs g)

    b_is : b ≡ g *ℤ other
    b_is = sym (positive_is b hb) ∙ multiple_of g (unsigned_abs b) hg is.1

    sum : IsSum a b g
    sum = gcd_sum a b g ha hg is

pub multiple_outcome : (a b m : ℤ) (o : Option ℤ) → IsLeastOfTwo a b m → SomeIff o (IsNarrow m) m → MatchOption o (HasWideMultiple a b) (λ k. IsLeastOfTwo a b k × IsNarrow k)
multiple_outcome a b m None h k = record { multiple = m; is_least = h; wide = wide_if m k }
multiple_outcome a b m (Some x) h k = (subst (λ (t : ℤ). IsLeastOfTwo a b t) (sym k.1) h, subst (λ (t : ℤ). IsNarrow t) (sym k.1) k.0)

-- ---- many
pub least_none : (e : ℕ → ℤ) → IsNarrowLeast 0 e (pos 1)
least_none e = record {
  is_least = record { positive = omega (arith, ints); multiple = λ k b. absurd (omega arith); least = λ d h. one-dvd d };
  narrow = omega arith;
}

pub least_more : (n : ℕ) (e : ℕ → ℤ) (a m : ℤ) → IsLeastTo n e a → IsLeastOfTwo a (e n) m → IsLeastTo (n + 1) e m
least_more n e a m h k = record {
  positive = k.positive;
  multiple = λ i b. elim (cases_eq i n) [
    | inl g ↦ subst (λ (j : ℕ). unsigned_abs (e j) ∣ unsigned_abs m) (sym g) k.right
    | inr g ↦ dvd_trans (unsigned_abs (e i)) (h.multiple i (omega arith)) k.left
  ];
  least = λ d g. k.least d (h.least d (λ i b. g i (omega arith))) (g n (omega arith));
}

-- a multiple of more numbers is no less
pub least_divides : (k n : ℕ) (e : ℕ → ℤ) (a m : ℤ) → k ≤ n → IsLeastTo k e a → IsLeastTo n e m → unsigned_abs a ∣ unsigned_abs m
least_divides k n e a m l h g = h.least (unsigned_abs m) (λ i b. g.multiple i (omega arith))

pub divides_narrow : (a m : ℤ) → (pos 0) <ℤ m → unsigned_abs a ∣ unsigned_abs m → IsNarrow m → IsNarrow a
divides_narrow a m h d n = let l : unsigned_abs a ≤ unsigned_abs m = le_of_dvd (omega (arith, ints)) d in omega arith

pub least_same : (n : ℕ) (e : ℕ → ℤ) (a m : ℤ) → IsLeastTo n e a → IsLeastTo n e m → a ≡ m
least_same n e a m h g = sym (positive_is a h.positive) ∙ ap pos (dvd_antisymm (least_divides n n e a m (omega arith) h g) (least_divides n n e m a (omega arith) g h)) ∙ positive_is m g.positive

pub narrow_more : (n : ℕ) (e : ℕ → ℤ) (a x m : ℤ) → IsNarrowLeast n e a → x ≡ e n → IsLeastOfTwo a x m × IsNarrow m → IsNarrowLeast (n + 1) e m
narrow_more n e a x m h g k = record { is_least = least_more n e a m h.is_least (subst (λ (t : ℤ). IsLeastOfTwo a t m) g k.0); narrow = k.1 }

pub least_all : (k n : ℕ) (e : ℕ → ℤ) (m : ℤ) → IsNarrowLeast k e m → k ≤ n → n ≤ k → IsNarrowLeast n e m
least_all k n e m h l g = let same : k ≡ n = omega arith in subst (λ (i : ℕ). IsNarrowLeast i e m) same h

pub first_wide_least : (k n : ℕ) (e : ℕ → ℤ) (a x : ℤ) → IsNarrowLeast k e a → x ≡ e k → HasWideMultiple a x → k < n → IsFirstWideLeast n e k
first_wide_least k n e a x h g w b = record {
  inside = b;
  multiple = w.multiple;
  is_least = subst (λ (i : ℕ). IsLeastTo i e w.multiple) next (least_more k e a w.multiple h.is_least (subst (λ (t : ℤ). IsLeastOfTwo a t w.multiple) g w.is_least));
  wide = w.wide;
  before = a;
  is_narrow = h;
}
  where
    next : k + 1 ≡ suc k
    next = omega arith

-- ---- there is one
gcd_exists : (n a b : ℕ) → b < n → (g : ℕ) × IsGcd a b g
gcd_exists zero a b h = absurd (omega arith)
gcd_exists (suc n) a zero h = (a, IsGcd-from_zero a 0 refl)
gcd_exists (suc n) a (suc b) h = let f = gcd_exists n (suc b) (a % suc b) (omega (arith, mod-lt a {m = suc b} (zero-lt-suc b))) in (f.0, IsGcd-from_mod a (suc b) f.0 f.1)

two_exists : (a b : ℤ) → (pos 0) <ℤ a → (pos 0) <ℤ b → (m : ℤ) × IsLeastOfTwo a b m
two_exists a b h k = (part *ℤ b, least_of_two a b (pos g.0) part h k positive g.1 a_is)
  where
    g : (g : ℕ) × IsGcd (unsigned_abs a) (unsigned_abs b) g
    g = gcd_exists (suc (unsigned_abs b)) (unsigned_abs a) (unsigned_abs b) (omega arith)

    part : ℤ
    part = pos (unsigned_abs a / g.0)

    nonzero : g.0 ≢ 0
    nonzero e = let z : unsigned_abs a ≡ 0 = eq-zero_of_zero-dvd (subst (λ (d : ℕ). d ∣ unsigned_abs a) e g.1.0) in omega (arith, ints, h, z)

    positive : (pos 0) <ℤ (pos g.0)
    positive = omega (arith, ints, nonzero)

    a_is : a ≡ pos g.0 *ℤ part
    a_is = sym (positive_is a h) ∙ multiple_of (pos g.0) (unsigned_abs a) positive g.1.0

-- positive numbers have a least common multiple
pub least_exists : (n : ℕ) (e : ℕ → ℤ) → ((k : ℕ) → k < n → (pos 0) <ℤ (e k)) → (m : ℤ) × IsLeastTo n e m
least_exists zero e h = (pos 1, (least_none e).is_least)
least_exists (suc n) e h =
    let f = least_exists n e (λ k b. h k (omega arith)) in
    let g = two_exists f.0 (e n) f.1.positive (h n (omega arith)) in
    let next : n + 1 ≡ suc n = omega arith in
    (g.0, subst (λ (i : ℕ). IsLeastTo i e g.0) next (least_more n e f.0 g.0 f.1 g.1))
