-- The numbers at the columns of a row: their divisors and multiples.
use Rattle.std.proofs.Common.{◌≡◌, refl, sym, ◌∙◌, ap, subst, ℕ, suc, Bool, true, false, cond, List, [], ◌∷◌, arith, ℤ, pos, ◌+ℤ◌, ◌*ℤ◌, nat_eq, ne_eqb, eq-eqb, inl, inr}
use Rattle.std.proofs.lemmas.Bool.{cases_eq}
use Rattle.std.proofs.lemmas.Int.{ints}
use Rattle.std.proofs.Math.Nat.{dvd-zero, eq-one_of_dvd-one}
use Rattle.std.specs.Int.{◌∣◌}
use Rattle.std.specs.Int.RustNames.{unsigned_abs}
use Rattle.bz_algebra.specs.Sums.{coef, dot}
use Rattle.bz_algebra.proofs.Ring.{mul_add, mul_zero, *ℤ_assoc}
use Rattle.bz_num.specs.Primitive.{DividesAll, IsRowGcd, times_entries}
use Rattle.bz_num.specs.Row.{IsSparse, IsSparseFrom}
use Rattle.bz_num.proofs.Rows.{coef-before}

-- the number at an entry's own column
pub coef-first : (low : ℕ) (e : ℕ × ℤ) (es : List (ℕ × ℤ)) → IsSparseFrom low (e ∷ es) → coef (e ∷ es) e.0 ≡ e.1
coef-first low e es h =
    let t : nat_eq e.0 e.0 ≡ true = eq-eqb e.0 e.0 refl in
    let rest : coef es e.0 ≡ pos 0 = coef-before (suc e.0) e.0 es h.1 (omega arith) in
    rw t (omega (arith, ints))

-- the number at another column
pub coef-rest : (j : ℕ) (e : ℕ × ℤ) (es : List (ℕ × ℤ)) → (e.0 ≡ j → ⊥) → coef (e ∷ es) j ≡ coef es j
coef-rest j e es other =
    let t : nat_eq e.0 j ≡ false = ne_eqb e.0 j other in
    rw t (omega (arith, ints))

-- a divisor of all entries divides the number at each column
pub divides-coef : (low d j : ℕ) (es : List (ℕ × ℤ)) → IsSparseFrom low es → DividesAll d es → d ∣ unsigned_abs (coef es j)
divides-coef low d j [] h all = dvd-zero d
divides-coef low d j (e ∷ es) h all =
    elim (cases_eq e.0 j) [
      | inl same ↦
          let at : coef (e ∷ es) j ≡ e.1 = subst (λ (k : ℕ). coef (e ∷ es) k ≡ e.1) same (coef-first low e es h) in
          subst (λ (z : ℤ). d ∣ unsigned_abs z) (sym at) all.0
      | inr other ↦ subst (λ (z : ℤ). d ∣ unsigned_abs z) (sym (coef-rest j e es other)) (divides-coef (suc e.0) d j es h.1 all.1)
    ]

-- what divides the number at each column divides all entries
pub divides-from_coef : (low d : ℕ) (es : List (ℕ × ℤ)) → IsSparseFrom low es → ((j : ℕ) → d ∣ unsigned_abs (coef es j)) → DividesAll d es
divides-from_coef low d [] h each = tt
divides-from_coef low d (e ∷ es) h each =
    let later : (j : ℕ) → d ∣ unsigned_abs (coef es j) = λ j. elim (cases_eq e.0 j) [
      | inl same ↦
          let none : coef es j ≡ pos 0 = coef-before (suc e.0) j es h.1 (omega arith) in
          subst (λ (z : ℤ). d ∣ unsigned_abs z) (sym none) (dvd-zero d)
      | inr other ↦ subst (λ (z : ℤ). d ∣ unsigned_abs z) (coef-rest j e es other) (each j)
    ] in
    (subst (λ (z : ℤ). d ∣ unsigned_abs z) (coef-first low e es h) (each e.0), divides-from_coef (suc e.0) d es h.1 later)

scaled : (b : Bool) (g v r : ℤ) → cond b (g *ℤ v) (pos 0) +ℤ (g *ℤ r) ≡ g *ℤ (cond b v (pos 0) +ℤ r)
scaled true g v r = sym (mul_add g v r)
scaled false g v r = ap (λ (z : ℤ). z +ℤ (g *ℤ r)) (sym (mul_zero g)) ∙ sym (mul_add g (pos 0) r)

-- the number at a column of a multiple
pub coef-times_entries : (g : ℤ) (es : List (ℕ × ℤ)) (j : ℕ) → coef (times_entries g es) j ≡ g *ℤ coef es j
coef-times_entries g [] j = sym (mul_zero g)
coef-times_entries g (e ∷ es) j =
    rw (coef-times_entries g es j) (scaled (nat_eq e.0 j) g e.1 (coef es j))

-- a multiple of a row at a point
pub dot-times_entries : (g : ℤ) (es : List (ℕ × ℤ)) (f : ℕ → ℤ) → dot (times_entries g es) f ≡ g *ℤ dot es f
dot-times_entries g [] f = sym (mul_zero g)
dot-times_entries g (e ∷ es) f =
    rw (dot-times_entries g es f, *ℤ_assoc g e.1 (f e.0)) (sym (mul_add g (e.1 *ℤ f e.0) (dot es f)))

-- only 1 divides the number at each column and the side
pub one-from_row_gcd : (es : List (ℕ × ℤ)) (rhs : ℤ) (d : ℕ) → IsSparse es → IsRowGcd 1 es rhs → ((j : ℕ) → d ∣ unsigned_abs (coef es j)) → d ∣ unsigned_abs rhs → d ≡ 1
one-from_row_gcd es rhs d h gcd each side = eq-one_of_dvd-one (gcd.greatest d (divides-from_coef 0 d es h each) side)
