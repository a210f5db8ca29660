-- The ring laws of ℤ and the laws of its order that the kit lacks.
--     diff p n      p - n, kept folded: each integer is one, and sums, negations and products of two are again one, so that an identity in ℤ becomes an identity of naturals, which omega proves
use Rattle.std.specs.Prelude.{ℕ, suc, ◌+◌, ◌-◌, ◌*◌, ◌≡◌, ℤ, pos, ◌+ℤ◌, ◌-ℤ◌, ◌*ℤ◌, neg_ℤ, ◌≤ℤ◌, ◌<ℤ◌, ◌⊎◌, ◌≢◌, nat_abs}
use Rattle.std.proofs.Common.{ap, sym, ◌∙◌, arith}
use Rattle.std.proofs.lemmas.Int.{ints, by_lt_z}
use Rattle.std.proofs.Math.IntN.{*ℤ_comm, zero-*ℤ, *ℤ-zero, +ℤ_idl, +ℤ_idr}
use Rattle.std.proofs.Common.{inl, inr}
use borrow.Author.Differences.{up, down, product_is}

-- p - n
pub diff : ℕ → ℕ → ℤ
diff p n = pos p -ℤ pos n

pub as_diff : (z : ℤ) → z ≡ diff (up z) (down z)
unfolding diff
as_diff z = omega (arith, ints)

pub diff_add : (p n q m : ℕ) → diff p n +ℤ diff q m ≡ diff (p + q) (n + m)
unfolding diff
diff_add p n q m = omega (arith, ints)

pub diff_neg : (p n : ℕ) → neg_ℤ (diff p n) ≡ diff n p
unfolding diff
diff_neg p n = omega (arith, ints)

pub diff_same : (p n q m : ℕ) → p + m ≡ q + n → diff p n ≡ diff q m
unfolding diff
diff_same p n q m e = omega (arith, ints)

parts : (p n : ℕ) → up (diff p n) + n ≡ down (diff p n) + p
unfolding diff
parts p n = omega (arith, ints)

cross : (a b c d p n q m : ℕ) → a + n ≡ b + p → c + m ≡ d + q → (a * c + b * d) + (p * m + n * q) ≡ (p * q + n * m) + (a * d + b * c)
cross a b c d p n q m e f = omega (arith, ap (λ (t : ℕ). t * c) e, ap (λ (t : ℕ). t * d) e, ap (λ (t : ℕ). p * t) f, ap (λ (t : ℕ). n * t) f)

pub diff_mul : (p n q m : ℕ) → diff p n *ℤ diff q m ≡ diff (p * q + n * m) (p * m + n * q)
diff_mul p n q m =
    let a = diff p n in
    let b = diff q m in
    as_diff (a *ℤ b) ∙ diff_same _ _ _ _ (rw ((product_is a b).0, (product_is a b).1) (cross (up a) (down a) (up b) (down b) p n q m (parts p n) (parts q m)))

-- ---- the ring
-- named so as the kit's +ℤ_assoc, +ℤ_comm and *ℤ_comm are
pub *ℤ_assoc : (a b c : ℤ) → (a *ℤ b) *ℤ c ≡ a *ℤ (b *ℤ c)
*ℤ_assoc a b c = rw (as_diff a, as_diff b, as_diff c) (simp diff_mul (diff_same _ _ _ _ (omega arith)))

-- a (b + c) = a b + a c
pub mul_add : (a b c : ℤ) → a *ℤ (b +ℤ c) ≡ (a *ℤ b) +ℤ (a *ℤ c)
mul_add a b c = rw (as_diff a, as_diff b, as_diff c) (simp (diff_add, diff_mul) (diff_same _ _ _ _ (omega arith)))

-- (a + b) c = a c + b c
pub add_mul : (a b c : ℤ) → (a +ℤ b) *ℤ c ≡ (a *ℤ c) +ℤ (b *ℤ c)
add_mul a b c = rw (as_diff a, as_diff b, as_diff c) (simp (diff_add, diff_mul) (diff_same _ _ _ _ (omega arith)))

-- a (b - c) = a b - a c
pub mul_sub : (a b c : ℤ) → a *ℤ (b -ℤ c) ≡ (a *ℤ b) -ℤ (a *ℤ c)
mul_sub a b c = rw (as_diff a, as_diff b, as_diff c) (simp (diff_add, diff_neg, diff_mul) (diff_same _ _ _ _ (omega arith)))

-- (a - b) c = a c - b c
pub sub_mul : (a b c : ℤ) → (a -ℤ b) *ℤ c ≡ (a *ℤ c) -ℤ (b *ℤ c)
sub_mul a b c = rw (as_diff a, as_diff b, as_diff c) (simp (diff_add, diff_neg, diff_mul) (diff_same _ _ _ _ (omega arith)))

pub mul_neg : (a b : ℤ) → a *ℤ neg_ℤ b ≡ neg_ℤ (a *ℤ b)
mul_neg a b = rw (as_diff a, as_diff b) (simp (diff_neg, diff_mul) (diff_same _ _ _ _ (omega arith)))

pub neg_mul : (a b : ℤ) → neg_ℤ a *ℤ b ≡ neg_ℤ (a *ℤ b)
neg_mul a b = rw (as_diff a, as_diff b) (simp (diff_neg, diff_mul) (diff_same _ _ _ _ (omega arith)))

pub neg_neg : (a : ℤ) → neg_ℤ (neg_ℤ a) ≡ a
neg_neg a = omega (arith, ints)

-- (a + b) + (c + d) = (a + c) + (b + d)
pub add_regroup : (a b c d : ℤ) → (a +ℤ b) +ℤ (c +ℤ d) ≡ (a +ℤ c) +ℤ (b +ℤ d)
add_regroup a b c d = omega (arith, ints)

-- (a b) (c d) = (a c) (b d)
pub mul_regroup : (a b c d : ℤ) → (a *ℤ b) *ℤ (c *ℤ d) ≡ (a *ℤ c) *ℤ (b *ℤ d)
mul_regroup a b c d = *ℤ_assoc a b (c *ℤ d) ∙ ap (λ (t : ℤ). a *ℤ t) (sym (*ℤ_assoc b c d) ∙ ap (λ (t : ℤ). t *ℤ d) (*ℤ_comm b c) ∙ *ℤ_assoc c b d) ∙ sym (*ℤ_assoc a c (b *ℤ d))

-- a (b c) = b (a c)
pub mul_left : (a b c : ℤ) → a *ℤ (b *ℤ c) ≡ b *ℤ (a *ℤ c)
mul_left a b c = sym (*ℤ_assoc a b c) ∙ ap (λ (t : ℤ). t *ℤ c) (*ℤ_comm a b) ∙ *ℤ_assoc b a c

-- (a b) c = (a c) b
pub mul_right : (a b c : ℤ) → (a *ℤ b) *ℤ c ≡ (a *ℤ c) *ℤ b
mul_right a b c = *ℤ_assoc a b c ∙ ap (λ (t : ℤ). a *ℤ t) (*ℤ_comm b c) ∙ sym (*ℤ_assoc a c b)

pub one_mul : (a : ℤ) → pos 1 *ℤ a ≡ a
one_mul a = omega (arith, ints)

pub mul_one : (a : ℤ) → a *ℤ pos 1 ≡ a
mul_one a = omega (arith, ints)

pub mul_zero : (a : ℤ) → a *ℤ pos 0 ≡ pos 0
mul_zero a = *ℤ-zero a

pub zero_mul : (a : ℤ) → pos 0 *ℤ a ≡ pos 0
zero_mul a = zero-*ℤ a

pub add_zero : (a : ℤ) → a +ℤ pos 0 ≡ a
add_zero a = +ℤ_idr a

pub zero_add : (a : ℤ) → pos 0 +ℤ a ≡ a
zero_add a = +ℤ_idl a

-- ---- the order
-- a number that isn't negative is a natural, a positive one a natural's successor
pub of_nonnegative : (a : ℤ) → (pos 0) ≤ℤ a → a ≡ pos (nat_abs a)
of_nonnegative a h = omega (arith, ints)

pub of_positive : (a : ℤ) → (pos 0) <ℤ a → a ≡ pos (suc (nat_abs a - 1))
of_positive a h = omega (arith, ints)

pub add_le : (a b c d : ℤ) → a ≤ℤ b → c ≤ℤ d → (a +ℤ c) ≤ℤ (b +ℤ d)
add_le a b c d h i = omega (arith, ints)

pub add_lt : (a b c d : ℤ) → a <ℤ b → c ≤ℤ d → (a +ℤ c) <ℤ (b +ℤ d)
add_lt a b c d h i = omega (arith, ints)

pub le_trans : (a b c : ℤ) → a ≤ℤ b → b ≤ℤ c → a ≤ℤ c
le_trans a b c h i = omega (arith, ints)

pub le_of : (a b : ℤ) → a ≡ b → a ≤ℤ b
le_of a b e = omega (arith, ints)

pub le_antisym : (a b : ℤ) → a ≤ℤ b → b ≤ℤ a → a ≡ b
le_antisym a b h i = omega (arith, ints)

natural : (n : ℕ) → (pos 0) ≤ℤ (pos n)
natural n = omega (arith, ints)

positive : (n m : ℕ) → (pos 0) <ℤ (pos (suc n * suc m))
positive n m = omega (arith, ints)

pub mul_nonnegative : (a b : ℤ) → (pos 0) ≤ℤ a → (pos 0) ≤ℤ b → (pos 0) ≤ℤ (a *ℤ b)
mul_nonnegative a b h i = rw (of_nonnegative a h, of_nonnegative b i) (natural (nat_abs a * nat_abs b))

pub mul_positive : (a b : ℤ) → (pos 0) <ℤ a → (pos 0) <ℤ b → (pos 0) <ℤ (a *ℤ b)
mul_positive a b h i = rw (of_positive a h, of_positive b i) (positive (nat_abs a - 1) (nat_abs b - 1))

-- an inequality times a number that isn't negative
pub mul_le_left : (a b c : ℤ) → (pos 0) ≤ℤ a → b ≤ℤ c → (a *ℤ b) ≤ℤ (a *ℤ c)
mul_le_left a b c h i = let j : (pos 0) ≤ℤ (c -ℤ b) = omega (arith, ints) in omega (arith, ints, mul_nonnegative a (c -ℤ b) h j, mul_sub a c b)

pub mul_le_right : (a b c : ℤ) → (pos 0) ≤ℤ c → a ≤ℤ b → (a *ℤ c) ≤ℤ (b *ℤ c)
mul_le_right a b c h i = rw (*ℤ_comm a c, *ℤ_comm b c) (mul_le_left c a b h i)

pub mul_lt_left : (a b c : ℤ) → (pos 0) <ℤ a → b <ℤ c → (a *ℤ b) <ℤ (a *ℤ c)
mul_lt_left a b c h i = let j : (pos 0) <ℤ (c -ℤ b) = omega (arith, ints) in omega (arith, ints, mul_positive a (c -ℤ b) h j, mul_sub a c b)

pub mul_lt_right : (a b c : ℤ) → (pos 0) <ℤ c → a <ℤ b → (a *ℤ c) <ℤ (b *ℤ c)
mul_lt_right a b c h i = rw (*ℤ_comm a c, *ℤ_comm b c) (mul_lt_left c a b h i)

-- a positive factor goes out
pub cancel_le_left : (a b c : ℤ) → (pos 0) <ℤ a → (a *ℤ b) ≤ℤ (a *ℤ c) → b ≤ℤ c
cancel_le_left a b c h i = by_lt_z c b (λ j. absurd (omega (arith, ints, mul_lt_left a c b h j))) (λ j. j)

pub cancel_le_right : (a b c : ℤ) → (pos 0) <ℤ c → (a *ℤ c) ≤ℤ (b *ℤ c) → a ≤ℤ b
cancel_le_right a b c h i = by_lt_z b a (λ j. absurd (omega (arith, ints, mul_lt_right b a c h j))) (λ j. j)

pub cancel_lt_left : (a b c : ℤ) → (pos 0) ≤ℤ a → (a *ℤ b) <ℤ (a *ℤ c) → b <ℤ c
cancel_lt_left a b c h i = by_lt_z b c (λ j. j) (λ j. absurd (omega (arith, ints, mul_le_left a c b h j)))

pub cancel_lt_right : (a b c : ℤ) → (pos 0) ≤ℤ c → (a *ℤ c) <ℤ (b *ℤ c) → a <ℤ b
cancel_lt_right a b c h i = by_lt_z a b (λ j. j) (λ j. absurd (omega (arith, ints, mul_le_right b a c h j)))

pub cancel_positive : (a b c : ℤ) → (pos 0) <ℤ a → (a *ℤ b) ≡ (a *ℤ c) → b ≡ c
cancel_positive a b c h e = le_antisym b c (cancel_le_left a b c h (le_of _ _ e)) (cancel_le_left a c b h (le_of _ _ (sym e)))

-- by the sign of a number
pub by_sign : {P : Type 0} (a : ℤ) → (a <ℤ (pos 0) → P) → (a ≡ pos 0 → P) → ((pos 0) <ℤ a → P) → P
by_sign a f g h = by_lt_z a (pos 0) f (λ i. by_lt_z (pos 0) a h (λ j. g (le_antisym a (pos 0) j i)))

pub zero_or_not : (a : ℤ) → (a ≡ pos 0) ⊎ (a ≢ pos 0)
zero_or_not a = by_sign a (λ h. inr (λ e. omega (arith, ints))) inl (λ h. inr (λ e. omega (arith, ints)))

pub positive-ne : (a : ℤ) → (pos 0) <ℤ a → a ≢ pos 0
positive-ne a h e = omega (arith, ints)

-- the negative of a negative number is positive
pub neg_positive : (a : ℤ) → a <ℤ (pos 0) → (pos 0) <ℤ (neg_ℤ a)
neg_positive a h = omega (arith, ints)

-- a factor that isn't 0 goes out
pub cancel_left : (a b c : ℤ) → a ≢ pos 0 → (a *ℤ b) ≡ (a *ℤ c) → b ≡ c
cancel_left a b c n e = by_sign a
    (λ h. cancel_positive (neg_ℤ a) b c (neg_positive a h) (neg_mul a b ∙ ap neg_ℤ e ∙ sym (neg_mul a c)))
    (λ z. absurd (n z))
    (λ h. cancel_positive a b c h e)

pub cancel_right : (a b c : ℤ) → c ≢ pos 0 → (a *ℤ c) ≡ (b *ℤ c) → a ≡ b
cancel_right a b c n e = cancel_left c a b n (*ℤ_comm c a ∙ e ∙ *ℤ_comm b c)

-- a product that is 0 has a factor that is 0
pub other_zero : (a b : ℤ) → a ≢ pos 0 → (a *ℤ b) ≡ pos 0 → b ≡ pos 0
other_zero a b n e = cancel_left a b (pos 0) n (e ∙ sym (mul_zero a))

pub mul-ne : (a b : ℤ) → a ≢ pos 0 → b ≢ pos 0 → (a *ℤ b) ≢ pos 0
mul-ne a b m n e = n (other_zero a b m e)

pub zero_factor : (a b : ℤ) → (a *ℤ b) ≡ pos 0 → (a ≡ pos 0) ⊎ (b ≡ pos 0)
zero_factor a b e = elim (zero_or_not a) [ inl z ↦ inl z | inr n ↦ inr (other_zero a b n e) ]
