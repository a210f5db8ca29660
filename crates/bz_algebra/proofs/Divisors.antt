-- The greatest common divisor of a vector as a sum of its multiples, and primitive vectors.
use Rattle.std.specs.Prelude.{ℕ, zero, suc, ◌+◌, ◌*◌, ◌/◌, ◌%◌, ◌<◌, ◌≤◌, ◌≡◌, ◌≢◌, ℤ, pos, negsuc, ◌+ℤ◌, ◌-ℤ◌, ◌*ℤ◌, neg_ℤ, ◌≤ℤ◌, ◌<ℤ◌, unsigned_abs}
use Rattle.std.specs.Int.{◌∣◌}
use Rattle.std.proofs.Common.{refl, ap, sym, subst, ◌∙◌, arith}
use Rattle.std.proofs.lemmas.Int.{ints, unsigned_abs-mul}
use Rattle.std.proofs.lemmas.Nat.Gcd.{mod-eq-zero_of_dvd}
use Rattle.std.proofs.Math.Nat.{mod-add-div', mod-lt, div-add-mod, zero-lt-suc, dvd-mul_right, eq-one_of_dvd-one}
use Rattle.bz_algebra.specs.Sums.{upto}
use Rattle.bz_algebra.specs.Tableaus.{Equations, side, IsPrimitive, IsCombination}
use Rattle.bz_algebra.proofs.Bounded.{below_suc, with_last, with_last_at, with_last_before}
use Rattle.bz_algebra.proofs.Combinations.{each_entry}
use Rattle.bz_algebra.proofs.Ring.{as_diff, diff_add, diff_neg, diff_mul, diff_same, *ℤ_assoc, neg_mul, mul_neg, mul_left, mul_zero, mul_one, zero_mul, cancel_left, cancel_positive, cancel_lt_left, by_sign, le_antisym, mul_le_left, neg_positive, neg_neg}
use Rattle.bz_algebra.proofs.SumLemmas.{upto_same, upto_scale}

-- ---- two numbers
-- a natural that divides a and b and is a sum of multiples of them
pub record Bezout (a b : ℤ) : Type 0 where
  pub divisor : ℕ
  pub first : ℤ
  pub second : ℤ
  pub firsts : ℤ
  pub seconds : ℤ
  pub divides_first : a ≡ pos divisor *ℤ first
  pub divides_second : b ≡ pos divisor *ℤ second
  pub is_sum : pos divisor ≡ (firsts *ℤ a) +ℤ (seconds *ℤ b)

step_first : (g k l q : ℤ) → (q *ℤ (g *ℤ k)) +ℤ (g *ℤ l) ≡ g *ℤ ((q *ℤ k) +ℤ l)
step_first g k l q = rw (as_diff g, as_diff k, as_diff l, as_diff q) (simp (diff_add, diff_mul) (diff_same _ _ _ _ (omega arith)))

step_sum : (s t q b r : ℤ) → (s *ℤ b) +ℤ (t *ℤ r) ≡ (t *ℤ ((q *ℤ b) +ℤ r)) +ℤ ((s -ℤ (t *ℤ q)) *ℤ b)
step_sum s t q b r = rw (as_diff s, as_diff t, as_diff q, as_diff b, as_diff r) (simp (diff_add, diff_neg, diff_mul) (diff_same _ _ _ _ (omega arith)))

-- one step of Euclid's rule: a = q b + r
euclid : (a b r q : ℤ) → a ≡ (q *ℤ b) +ℤ r → Bezout b r → Bezout a b
euclid a b r q e z = record {
  divisor = z.divisor;
  first = (q *ℤ z.first) +ℤ z.second;
  second = z.first;
  firsts = z.seconds;
  seconds = z.firsts -ℤ (z.seconds *ℤ q);
  divides_first = e ∙ (λ i. (q *ℤ z.divides_first i) +ℤ z.divides_second i) ∙ step_first (pos z.divisor) z.first z.second q;
  divides_second = z.divides_first;
  is_sum = z.is_sum ∙ step_sum z.firsts z.seconds q b r ∙ ap (λ (u : ℤ). (z.seconds *ℤ u) +ℤ ((z.firsts -ℤ (z.seconds *ℤ q)) *ℤ b)) (sym e);
}

euclid_end : (a : ℕ) → Bezout (pos a) (pos 0)
euclid_end a = record {
  divisor = a;
  first = pos 1;
  second = pos 0;
  firsts = pos 1;
  seconds = pos 0;
  divides_first = sym (mul_one (pos a));
  divides_second = sym (mul_zero (pos a));
  is_sum = omega (arith, ints);
}

parts_of : (a b : ℕ) → pos a ≡ (pos (a / suc b) *ℤ pos (suc b)) +ℤ pos (a % suc b)
parts_of a b = ap pos (omega (arith, mod-add-div' a (suc b)))

naturals : (n a b : ℕ) → b < n → Bezout (pos a) (pos b)
naturals zero a b h = absurd (omega arith)
naturals (suc n) a zero h = euclid_end a
naturals (suc n) a (suc b) h = euclid (pos a) (pos (suc b)) (pos (a % suc b)) (pos (a / suc b)) (parts_of a b) (naturals n (suc b) (a % suc b) (omega (arith, mod-lt a {m = suc b} (zero-lt-suc b))))

twice : (c d : ℤ) → c *ℤ d ≡ neg_ℤ c *ℤ neg_ℤ d
twice c d = rw (as_diff c, as_diff d) (simp (diff_neg, diff_mul) (diff_same _ _ _ _ (omega arith)))

-- the other sign
flip : (a b : ℤ) → Bezout a b → Bezout a (neg_ℤ b)
flip a b z = record {
  divisor = z.divisor;
  first = z.first;
  second = neg_ℤ z.second;
  firsts = z.firsts;
  seconds = neg_ℤ z.seconds;
  divides_first = z.divides_first;
  divides_second = ap neg_ℤ z.divides_second ∙ sym (mul_neg (pos z.divisor) z.second);
  is_sum = z.is_sum ∙ ap (λ (u : ℤ). (z.firsts *ℤ a) +ℤ u) (twice z.seconds b);
}

pub bezout : (a : ℕ) (b : ℤ) → Bezout (pos a) b
bezout a (pos b) = naturals (suc b) a b (omega arith)
bezout a (negsuc b) = flip (pos a) (pos (suc b)) (naturals (suc (suc b)) a (suc b) (omega arith))

-- ---- the numbers below n
-- a natural that divides v at each place below n and is a sum of multiples of these numbers
pub record CommonDivisor (n : ℕ) (v : ℕ → ℤ) : Type 0 where
  pub divisor : ℕ
  pub quotient : ℕ → ℤ
  pub times : ℕ → ℤ
  pub divides : (j : ℕ) → j < n → v j ≡ pos divisor *ℤ quotient j
  pub is_sum : pos divisor ≡ upto n (λ j. times j *ℤ v j)

one_more : (n : ℕ) (v : ℕ → ℤ) (c : CommonDivisor n v) → Bezout (pos c.divisor) (v n) → CommonDivisor (suc n) v
one_more n v c z = record {
  divisor = z.divisor;
  quotient = quotient;
  times = times;
  divides = below_suc n (λ j. v j ≡ pos z.divisor *ℤ quotient j)
      (λ j b. c.divides j b ∙ ap (λ (t : ℤ). t *ℤ c.quotient j) z.divides_first ∙ *ℤ_assoc (pos z.divisor) z.first (c.quotient j) ∙ ap (λ (t : ℤ). pos z.divisor *ℤ t) (sym (with_last_before n (λ i. z.first *ℤ c.quotient i) z.second j b)))
      (z.divides_second ∙ ap (λ (t : ℤ). pos z.divisor *ℤ t) (sym (with_last_at n (λ i. z.first *ℤ c.quotient i) z.second)));
  is_sum = z.is_sum ∙ (λ i. earlier i +ℤ last i);
}
  where
    quotient : ℕ → ℤ
    quotient = with_last n (λ i. z.first *ℤ c.quotient i) z.second

    times : ℕ → ℤ
    times = with_last n (λ i. z.firsts *ℤ c.times i) z.seconds

    last : z.seconds *ℤ v n ≡ times n *ℤ v n
    last = ap (λ (t : ℤ). t *ℤ v n) (sym (with_last_at n (λ i. z.firsts *ℤ c.times i) z.seconds))

    earlier : z.firsts *ℤ pos c.divisor ≡ upto n (λ j. times j *ℤ v j)
    earlier = ap (λ (t : ℤ). z.firsts *ℤ t) c.is_sum ∙ sym (upto_scale n z.firsts (λ j. c.times j *ℤ v j))
        ∙ upto_same n _ _ (λ j b. sym (*ℤ_assoc z.firsts (c.times j) (v j)) ∙ ap (λ (t : ℤ). t *ℤ v j) (sym (with_last_before n (λ i. z.firsts *ℤ c.times i) z.seconds j b)))

pub common_divisor : (n : ℕ) (v : ℕ → ℤ) → CommonDivisor n v
common_divisor zero v = record { divisor = 0; quotient = v; times = v; divides = λ j b. absurd (omega arith); is_sum = refl }
common_divisor (suc n) v = let c = common_divisor n v in one_more n v c (bezout c.divisor (v n))

-- ---- primitive vectors
-- what a natural divides is a multiple of it
pub part : ℕ → ℤ → ℤ
part d (pos n) = pos (n / d)
part d (negsuc n) = neg_ℤ (pos (suc n / d))

whole : (d n : ℕ) → d ∣ n → n ≡ d * (n / d)
whole d n h = omega (arith, div-add-mod n d, mod-eq-zero_of_dvd d h)

pub part_is : (d : ℕ) (z : ℤ) → d ∣ unsigned_abs z → z ≡ pos d *ℤ part d z
unfolding part
part_is d (pos n) h = ap pos (whole d n h)
part_is d (negsuc n) h = ap (λ (t : ℕ). neg_ℤ (pos t)) (whole d (suc n) h) ∙ sym (mul_neg (pos d) (pos (suc n / d)))

pub divides_multiple : (d : ℕ) (z q : ℤ) → z ≡ pos d *ℤ q → d ∣ unsigned_abs z
divides_multiple d z q e = rw (e, unsigned_abs-mul (pos d) q) (dvd-mul_right d (unsigned_abs q))

-- the entries up to the right side have a sum of multiples that is 1
pub primitive_sum : (s : Equations) (v : ℕ → ℤ) → IsPrimitive s v → (y : ℕ → ℤ) × (pos 1 ≡ upto (suc (side s)) (λ j. y j *ℤ v j))
primitive_sum s v p = let c = common_divisor (suc (side s)) v in (c.times, ap pos (sym (p c.divisor (λ j b. divides_multiple c.divisor (v j) (c.quotient j) (c.divides j (omega arith))))) ∙ c.is_sum)

pub sum_primitive : (s : Equations) (v y : ℕ → ℤ) → pos 1 ≡ upto (suc (side s)) (λ j. y j *ℤ v j) → IsPrimitive s v
sum_primitive s v y e d h = eq-one_of_dvd-one (rw (ap unsigned_abs once ∙ unsigned_abs-mul (pos d) _) (dvd-mul_right d _))
  where
    once : pos 1 ≡ pos d *ℤ upto (suc (side s)) (λ j. y j *ℤ part d (v j))
    once = e ∙ upto_same (suc (side s)) _ _ (λ j b. ap (λ (t : ℤ). y j *ℤ t) (part_is d (v j) (h j (omega arith))) ∙ mul_left (y j) (pos d) (part d (v j))) ∙ upto_scale (suc (side s)) (pos d) (λ j. y j *ℤ part d (v j))

at_least_one : (m : ℤ) → (pos 0) <ℤ m → (pos 1) ≤ℤ m
at_least_one m h = omega (arith, ints)

-- a positive multiple of a positive number is at least that number
at_least : (a b m : ℤ) → (pos 0) <ℤ a → (pos 0) <ℤ b → a ≡ b *ℤ m → b ≤ℤ a
at_least a b m h k e = subst (λ (t : ℤ). t ≤ℤ a) (mul_one b) (subst (λ (t : ℤ). (b *ℤ pos 1) ≤ℤ t) (sym e) (mul_le_left b (pos 1) m (omega (arith, ints)) (at_least_one m positive_m)))
  where
    positive_m : (pos 0) <ℤ m
    positive_m = cancel_lt_left b (pos 0) m (omega (arith, ints)) (omega (arith, ints, mul_zero b))

-- primitive vectors of which positive multiples are equal are equal
pub primitive_equal : (s : Equations) (v w : ℕ → ℤ) (a b : ℤ) → IsPrimitive s v → IsPrimitive s w → (pos 0) <ℤ a → (pos 0) <ℤ b → ((j : ℕ) → j ≤ side s → a *ℤ v j ≡ b *ℤ w j) → (j : ℕ) → j ≤ side s → v j ≡ w j
primitive_equal s v w a b p q ha hb e j l = cancel_positive a (v j) (w j) ha (e j l ∙ ap (λ (t : ℤ). t *ℤ w j) (le_antisym b a (below s v w a b p ha hb e) (below s w v b a q hb ha (λ i k. sym (e i k)))))
  where
    below : (s : Equations) (v w : ℕ → ℤ) (a b : ℤ) → IsPrimitive s v → (pos 0) <ℤ a → (pos 0) <ℤ b → ((j : ℕ) → j ≤ side s → a *ℤ v j ≡ b *ℤ w j) → b ≤ℤ a
    below s v w a b p ha hb e =
        let y = primitive_sum s v p in
        at_least a b (upto (suc (side s)) (λ i. y.0 i *ℤ w i)) ha hb
        (sym (mul_one a) ∙ ap (λ (t : ℤ). a *ℤ t) y.1 ∙ sym (upto_scale (suc (side s)) a (λ i. y.0 i *ℤ v i))
        ∙ upto_same (suc (side s)) _ _ (λ i k. mul_left a (y.0 i) (v i) ∙ ap (λ (t : ℤ). y.0 i *ℤ t) (e i (omega arith)) ∙ mul_left (y.0 i) b (w i))
        ∙ upto_scale (suc (side s)) b (λ i. y.0 i *ℤ w i))

-- the primitive vector of which v is a multiple, with the sign that makes it positive at c
pub record PrimitivePart (s : Equations) (v : ℕ → ℤ) (c : ℕ) : Type 0 where
  pub times : ℤ
  pub vector : ℕ → ℤ
  pub nonzero : times ≢ pos 0
  pub multiple : (j : ℕ) → j ≤ side s → times *ℤ vector j ≡ v j
  pub primitive : IsPrimitive s vector
  pub positive : (pos 0) <ℤ (vector c)

pub primitive_part : (s : Equations) (v : ℕ → ℤ) (c : ℕ) → c ≤ side s → v c ≢ pos 0 → PrimitivePart s v c
primitive_part s v c l n = by_sign (q c)
    (λ h. record {
      times = neg_ℤ g;
      vector = λ j. neg_ℤ (q j);
      nonzero = λ e. nonzero (sym (neg_neg g) ∙ ap neg_ℤ e);
      multiple = λ j b. neg_mul g (neg_ℤ (q j)) ∙ ap neg_ℤ (mul_neg g (q j)) ∙ neg_neg (g *ℤ q j) ∙ sym (divides j b);
      primitive = sum_primitive s _ (λ j. neg_ℤ (d.times j)) (is_one ∙ upto_same (suc (side s)) _ _ (λ j b. twice (d.times j) (q j)));
      positive = neg_positive (q c) h;
    })
    (λ z. absurd (n (divides c l ∙ ap (λ (t : ℤ). g *ℤ t) z ∙ mul_zero g)))
    (λ h. record {
      times = g;
      vector = q;
      nonzero = nonzero;
      multiple = λ j b. sym (divides j b);
      primitive = sum_primitive s q d.times is_one;
      positive = h;
    })
  where
    d : CommonDivisor (suc (side s)) v
    d = common_divisor (suc (side s)) v

    g : ℤ
    g = pos d.divisor

    q : ℕ → ℤ
    q = d.quotient

    divides : (j : ℕ) → j ≤ side s → v j ≡ g *ℤ q j
    divides j b = d.divides j (omega arith)

    nonzero : g ≢ pos 0
    nonzero e = n (divides c l ∙ ap (λ (t : ℤ). t *ℤ q c) e ∙ zero_mul (q c))

    is_one : pos 1 ≡ upto (suc (side s)) (λ j. d.times j *ℤ q j)
    is_one = cancel_left g (pos 1) _ nonzero (mul_one g ∙ d.is_sum ∙ upto_same (suc (side s)) _ _ (λ j b. ap (λ (t : ℤ). d.times j *ℤ t) (d.divides j b) ∙ mul_left (d.times j) g (q j)) ∙ upto_scale (suc (side s)) g (λ j. d.times j *ℤ q j))

divides_sum : (d n : ℕ) (z : ℤ) (y e : ℕ → ℤ) → ((i : ℕ) → i < n → d ∣ unsigned_abs (y i)) → z ≡ upto n (λ i. y i *ℤ e i) → d ∣ unsigned_abs z
divides_sum d n z y e h k = divides_multiple d z (upto n (λ i. part d (y i) *ℤ e i))
    (k ∙ upto_same n _ _ (λ i b. ap (λ (t : ℤ). t *ℤ e i) (part_is d (y i) (h i b)) ∙ *ℤ_assoc (pos d) (part d (y i)) (e i)) ∙ upto_scale n (pos d) (λ i. part d (y i) *ℤ e i))

-- the multipliers of a primitive combination have no common divisor but 1: what divides them divides each entry
pub multipliers_primitive : (s : Equations) (v : ℕ → ℤ) → IsCombination s v → IsPrimitive s v → (d : ℕ) → ((i : ℕ) → i < s.rows → d ∣ unsigned_abs (v (s.slack + i))) → d ≡ 1
multipliers_primitive s v c p d h = p d (each_entry s (λ j. d ∣ unsigned_abs (v j))
    (λ j b. divides_sum d s.rows (v j) (λ i. v (s.slack + i)) (λ i. s.entry i j) h (c.columns j b))
    h
    (divides_sum d s.rows (v (side s)) (λ i. v (s.slack + i)) s.right h c.right))
