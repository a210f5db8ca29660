-- The order of fractions from their whole parts and rests.
use Rattle.std.proofs.Common.{◌≡◌, refl, sym, ◌∙◌, ap, subst, ℕ, ◌+◌, ◌*◌, ◌/◌, ◌%◌, ◌<◌, ◌≤◌, ◌⊎◌, inl, inr, arith, mul-le-mul, mul-zero, Ordering, Less, Equal, Greater, ℤ, ◌<ℤ◌, ◌≤ℤ◌, ◌↔◌, IsTrue}
use Rattle.std.proofs.Math.Nat.{mod-add-div, mod-lt}
use Rattle.std.specs.Cmp.{nat_cmp_is, ranks}
use Rattle.std.specs.Ordering.{int_cmp, is_le, nat_cmp, ordering_then, MatchOrdering}
use Rattle.std.proofs.lemmas.Cmp.{int_ranked}
use Rattle.std.proofs.lemmas.Int.{ints}

ranks_more : (k a b : ℕ) (r : Ordering) → MatchOrdering r (a < b) (a ≡ b) (b < a) → MatchOrdering r (k + a < k + b) (k + a ≡ k + b) (k + b < k + a)
ranks_more k a b Less h = omega (arith, h)
ranks_more k a b Equal h = ap (λ (n : ℕ). k + n) h
ranks_more k a b Greater h = omega (arith, h)

-- as much more on both sides
cmp_more : (k a b : ℕ) → nat_cmp (k + a) (k + b) ≡ nat_cmp a b
cmp_more k a b = sym (nat_cmp_is (k + a) (k + b) (nat_cmp a b) (ranks_more k a b (nat_cmp a b) (ranks a b)))

-- a cross product by the whole part and the rest
cross_is : (n d e q : ℕ) → n / d ≡ q → n * e ≡ (q * d) * e + e * (n % d)
cross_is n d e q same =
    let whole : n % d + d * (n / d) ≡ n = mod-add-div n d in
    let there : n % d + d * q ≡ n = subst (λ (k : ℕ). n % d + d * k ≡ n) same whole in
    let times : (n % d + d * q) * e ≡ n * e = ap (λ (k : ℕ). k * e) there in
    omega (arith, times)

-- where the whole parts are the same, the cross products are as those of the rests turned over
pub turned : (n d m e : ℕ) → n / d ≡ m / e → nat_cmp (e * (n % d)) (d * (m % e)) ≡ nat_cmp (n * e) (m * d)
turned n d m e same =
    let left : n * e ≡ ((m / e) * d) * e + e * (n % d) = cross_is n d e (m / e) same in
    let right : m * d ≡ ((m / e) * e) * d + d * (m % e) = cross_is m e d (m / e) refl in
    let swapped : ((m / e) * e) * d ≡ ((m / e) * d) * e = omega arith in
    rw (left, right, swapped) (sym (cmp_more (((m / e) * d) * e) (e * (n % d)) (d * (m % e))))

-- the lesser whole part has the lesser cross product
lesser_whole : (n d m e : ℕ) → 0 < d → 0 < e → n / d < m / e → n * e < m * d
lesser_whole n d m e some some_too less =
    let left : n * e ≡ ((n / d) * d) * e + e * (n % d) = cross_is n d e (n / d) refl in
    let right : m * d ≡ ((m / e) * e) * d + d * (m % e) = cross_is m e d (m / e) refl in
    let rest : (n % d) + 1 ≤ d = omega (arith, mod-lt n some) in
    let all : e ≤ e = omega arith in
    let rests : e * ((n % d) + 1) ≤ e * d = mul-le-mul all rest in
    let next : (n / d) + 1 ≤ m / e = omega arith in
    let whole : d * e ≤ d * e = omega arith in
    let wholes : ((n / d) + 1) * (d * e) ≤ (m / e) * (d * e) = mul-le-mul next whole in
    omega (arith, left, right, rests, wholes)

ranks_times : (r s d e : ℕ) → 0 < d → 0 < e → (r ≡ 0) ⊎ (s ≡ 0) → (o : Ordering) → MatchOrdering o (r < s) (r ≡ s) (s < r) → MatchOrdering o (e * r < d * s) (e * r ≡ d * s) (d * s < e * r)
ranks_times r s d e some some_too none Less h =
    let r_none : r ≡ 0 = elim none [ inl t ↦ t | inr t ↦ absurd (omega (arith, h, t)) ] in
    let left : e * r ≡ 0 = ap (λ (k : ℕ). e * k) r_none ∙ mul-zero e in
    let d_some : 1 ≤ d = omega arith in
    let s_some : 1 ≤ s = omega (arith, h) in
    let right : 1 * 1 ≤ d * s = mul-le-mul d_some s_some in
    omega (arith, left, right)
ranks_times r s d e some some_too none Equal h =
    let r_none : r ≡ 0 = elim none [ inl t ↦ t | inr t ↦ h ∙ t ] in
    let left : e * r ≡ 0 = ap (λ (k : ℕ). e * k) r_none ∙ mul-zero e in
    let right : d * s ≡ 0 = ap (λ (k : ℕ). d * k) (sym h ∙ r_none) ∙ mul-zero d in
    left ∙ sym right
ranks_times r s d e some some_too none Greater h =
    let s_none : s ≡ 0 = elim none [ inl t ↦ absurd (omega (arith, h, t)) | inr t ↦ t ] in
    let right : d * s ≡ 0 = ap (λ (k : ℕ). d * k) s_none ∙ mul-zero d in
    let e_some : 1 ≤ e = omega arith in
    let r_some : 1 ≤ r = omega (arith, h) in
    let left : 1 * 1 ≤ e * r = mul-le-mul e_some r_some in
    omega (arith, left, right)

parts_by : (n d m e : ℕ) → 0 < d → 0 < e → (n / d ≡ m / e → (n % d ≡ 0) ⊎ (m % e ≡ 0)) → (o : Ordering) → MatchOrdering o (n / d < m / e) (n / d ≡ m / e) (m / e < n / d) → ordering_then o (nat_cmp (n % d) (m % e)) ≡ nat_cmp (n * e) (m * d)
parts_by n d m e some some_too last Less h = nat_cmp_is (n * e) (m * d) Less (lesser_whole n d m e some some_too h)
parts_by n d m e some some_too last Equal h =
    nat_cmp_is (e * (n % d)) (d * (m % e)) (nat_cmp (n % d) (m % e)) (ranks_times (n % d) (m % e) d e some some_too (last h) (nat_cmp (n % d) (m % e)) (ranks (n % d) (m % e)))
    ∙ turned n d m e h
parts_by n d m e some some_too last Greater h = nat_cmp_is (n * e) (m * d) Greater (lesser_whole m e n d some_too some h)

-- whole parts and rests tell the order, where the whole parts differ or one of the rests is 0
pub parts_tell : (n d m e : ℕ) → 0 < d → 0 < e → (n / d ≡ m / e → (n % d ≡ 0) ⊎ (m % e ≡ 0)) → ordering_then (nat_cmp (n / d) (m / e)) (nat_cmp (n % d) (m % e)) ≡ nat_cmp (n * e) (m * d)
parts_tell n d m e some some_too last = parts_by n d m e some some_too last (nat_cmp (n / d) (m / e)) (ranks (n / d) (m / e))

at_most_by : (x y : ℤ) (o : Ordering) → MatchOrdering o (x <ℤ y) (x ≡ y) (y <ℤ x) → IsTrue (is_le o) ↔ (x ≤ℤ y)
at_most_by x y Less h = (λ t. omega (arith, ints), λ l. refl)
at_most_by x y Equal h = (λ t. omega (arith, ints), λ l. refl)
at_most_by x y Greater h = (λ t. absurd cc, λ l. absurd (omega (arith, ints)))

-- the test that the one number is at most the other
pub at_most_tells : (x y : ℤ) (o : Ordering) → o ≡ int_cmp x y → IsTrue (is_le o) ↔ (x ≤ℤ y)
at_most_tells x y o e = at_most_by x y o (int_ranked x y o e)
