-- Searches below a bound.
use Rattle.std.specs.Prelude.{ℕ, zero, suc, ◌<◌, ◌≤◌, ◌≡◌, ◌≢◌, ℤ, pos, ◌⊎◌, cond, eqb}
use Rattle.std.proofs.Common.{refl, sym, subst, arith, inl, inr}
use Rattle.std.proofs.lemmas.Bool.{cases_eq, eq-eqb, ne_eqb}
use Rattle.std.proofs.Math.Decide.{dec_lt}
use Rattle.bz_algebra.proofs.Ring.{zero_or_not}

-- by the order of two numbers
pub by_lt : {P : Type 0} (a b : ℕ) → (a < b → P) → (b ≤ a → P) → P
by_lt a b f g = elim (dec_lt a b) [ yes h ↦ f h | no n ↦ g (omega arith) ]

pub by_order : {P : Type 0} (a b : ℕ) → (a < b → P) → (a ≡ b → P) → (b < a → P) → P
by_order a b f g h = by_lt a b f (λ i. by_lt b a h (λ j. g (omega arith)))

-- what holds of each index below n and of n holds of each below n + 1
pub below_suc : (n : ℕ) (P : ℕ → Type 0) → ((j : ℕ) → j < n → P j) → P n → (j : ℕ) → j < suc n → P j
below_suc n P h last j b = elim (cases_eq j n) [ inl e ↦ subst P (sym e) last | inr d ↦ h j (omega arith) ]

-- each index below n has the one property, or some index the other
pub all_or_some : (n : ℕ) (P Q : ℕ → Type 0) → ((j : ℕ) → P j ⊎ Q j) → ((j : ℕ) → j < n → P j) ⊎ ((j : ℕ) × (j < n) × Q j)
all_or_some zero P Q test = inl (λ j b. absurd (omega arith))
all_or_some (suc n) P Q test = elim (all_or_some n P Q test) [ inl h ↦ step h (test n) | inr f ↦ inr (f.0, omega (arith, f.1), f.2) ]
  where
    step : ((j : ℕ) → j < n → P j) → P n ⊎ Q n → ((j : ℕ) → j < suc n → P j) ⊎ ((j : ℕ) × (j < suc n) × Q j)
    step h (inl p) = inl (below_suc n P h p)
    step h (inr q) = inr (n, omega arith, q)

-- all numbers are 0, or one isn't
pub zeros_or_not : (n : ℕ) (f : ℕ → ℤ) → ((j : ℕ) → j < n → f j ≡ pos 0) ⊎ ((j : ℕ) × (j < n) × (f j ≢ pos 0))
zeros_or_not n f = all_or_some n (λ j. f j ≡ pos 0) (λ j. f j ≢ pos 0) (λ j. zero_or_not (f j))

-- ---- one more value
-- f before n, x at n
pub with_last : {A : Type 0} → ℕ → (ℕ → A) → A → ℕ → A
with_last n f x i = cond (eqb i n) x (f i)

pub with_last_at : {A : Type 0} (n : ℕ) (f : ℕ → A) (x : A) → with_last n f x n ≡ x
unfolding with_last
with_last_at n f x = rw (eq-eqb n n refl)

pub with_last_before : {A : Type 0} (n : ℕ) (f : ℕ → A) (x : A) (i : ℕ) → i < n → with_last n f x i ≡ f i
unfolding with_last
with_last_before n f x i b = rw (ne_eqb i n (λ e. omega arith))

-- one function from a value for each index below n
pub choose : {A : Type 0} (n : ℕ) (a : A) (P : ℕ → A → Type 0) → ((i : ℕ) → i < n → (v : A) × P i v) → (w : ℕ → A) × ((i : ℕ) → i < n → P i (w i))
choose zero a P h = (λ i. a, λ i b. absurd (omega arith))
choose {A = A} (suc n) a P h = extend (choose n a P (λ i b. h i (omega arith))) (h n (omega arith))
  where
    extend : (w : ℕ → A) × ((i : ℕ) → i < n → P i (w i)) → (v : A) × P n v → (w : ℕ → A) × ((i : ℕ) → i < suc n → P i (w i))
    extend f v = (with_last n f.0 v.0, below_suc n (λ i. P i (with_last n f.0 v.0 i)) (λ i b. subst (P i) (sym (with_last_before n f.0 v.0 i b)) (f.1 i b)) (subst (P n) (sym (with_last_at n f.0 v.0)) v.1))
