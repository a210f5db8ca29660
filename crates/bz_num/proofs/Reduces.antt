-- Rows, their common divisors, and their division.
use Rattle.std.proofs.Common.{◌≡◌, refl, sym, ap, subst, ℕ, zero, suc, ◌+◌, ◌*◌, ◌<◌, ◌≤◌, arith, ℤ, pos, negsuc, ◌*ℤ◌, ◌<ℤ◌, ◌≤ℤ◌, List, [], ◌∷◌, length, get_or, set, drop, mul-one, mul-zero, mul_comm, add-one}
use Rattle.std.proofs.lemmas.Int.{ints}
use Rattle.std.proofs.Math.Nat.{dvd_trans, dvd_antisymm, dvd-zero, one-dvd, dvd_of_mul-dvd-mul_left, mul-dvd-mul_left, dvd_refl, le-mul_of_pos_right}
use Rattle.std.proofs.Math.Seq.{drop-cons}
use Rattle.std.specs.Int.{IsGcd, ◌∣◌}
use Rattle.std.specs.Int.RustNames.{unsigned_abs}
use Rattle.bz_algebra.specs.Numbers.{IsNarrow}
use Rattle.bz_num.specs.Primitive.{DividesAll, IsRowGcd, times_entries}
use Rattle.bz_num.specs.Row.{IsSparse, IsSparseFrom}
use Rattle.bz_num.proofs.Divisors.{size-product, unit-times}

-- each number of a sparse row is narrow
pub narrow-at : (low : ℕ) (es : List (ℕ × ℤ)) (i : ℕ) (d : ℕ × ℤ) → IsSparseFrom low es → i < length es → IsNarrow (get_or es i d).1
narrow-at low [] i d h inside = absurd (omega arith)
narrow-at low (e ∷ es) zero d h inside = h.0.narrow
narrow-at low (e ∷ es) (suc i) d h inside = narrow-at (suc e.0) es i d h.1 (omega arith)

-- 1 divides all numbers
pub one-divides : (es : List (ℕ × ℤ)) → DividesAll 1 es
one-divides [] = tt
one-divides (e ∷ es) = (one-dvd (unsigned_abs e.1), one-divides es)

-- the divisor of no entries
pub row_gcd-start : (rhs : ℤ) → IsRowGcd (unsigned_abs rhs) [] rhs
row_gcd-start rhs = record { numbers = tt; side = dvd_refl (unsigned_abs rhs); greatest = λ d _ side. side }

-- one entry more
pub row_gcd-cons : (g : ℕ) (a b : ℤ) (e : ℕ × ℤ) (es : List (ℕ × ℤ)) → IsGcd (unsigned_abs a) (unsigned_abs e.1) (unsigned_abs b) → IsRowGcd g es b → IsRowGcd g (e ∷ es) a
row_gcd-cons g a b e es h rest = record {
  numbers = (dvd_trans g rest.side h.1, rest.numbers);
  side = dvd_trans g rest.side h.0;
  greatest = λ d all side. rest.greatest d all.1 (h.2 d side all.0);
}

-- the side in another size
pub row_gcd-side : (g : ℕ) (a b : ℤ) (es : List (ℕ × ℤ)) → unsigned_abs a ≡ unsigned_abs b → IsRowGcd g es a → IsRowGcd g es b
row_gcd-side g a b es same h = record {
  numbers = h.numbers;
  side = subst (λ (n : ℕ). g ∣ n) same h.side;
  greatest = λ d all side. h.greatest d all (subst (λ (n : ℕ). d ∣ n) (sym same) side);
}

-- the greatest common divisor with 0 has the number's size
pub size-gcd_zero : (a b : ℤ) → IsGcd (unsigned_abs a) 0 (unsigned_abs b) → unsigned_abs b ≡ unsigned_abs a
size-gcd_zero a b h = dvd_antisymm h.0 (h.2 (unsigned_abs a) (dvd_refl _) (dvd-zero _))

-- 1 is the divisor of all where one number is 1
pub row_gcd-one : (a : ℤ) (es : List (ℕ × ℤ)) → unsigned_abs a ≡ 1 → IsRowGcd 1 es a
row_gcd-one a es one = record {
  numbers = one-divides es;
  side = one-dvd (unsigned_abs a);
  greatest = λ d all side. subst (λ (n : ℕ). d ∣ n) one side;
}

-- what is left of the entries begins with the one at the place
pub row_gcd-more : (g : ℕ) (a b : ℤ) (es : List (ℕ × ℤ)) (i : ℕ) (d : ℕ × ℤ) → i < length es → IsGcd (unsigned_abs a) (unsigned_abs (get_or es i d).1) (unsigned_abs b) → IsRowGcd g (drop (i + 1) es) b → IsRowGcd g (drop i es) a
row_gcd-more g a b es i d inside h rest =
    rw (drop-cons es i d inside) (row_gcd-cons g a b (get_or es i d) (drop (suc i) es) h (rw add-one at rest))

-- the entries with the first i numbers g times as large
abbrev pub times_first : ℕ → ℤ → List (ℕ × ℤ) → List (ℕ × ℤ)
times_first i g [] = []
times_first zero g (e ∷ es) = e ∷ es
times_first (suc i) g (e ∷ es) = (e.0, g *ℤ e.1) ∷ times_first i g es

pub times_first-none : (g : ℤ) (es : List (ℕ × ℤ)) → times_first 0 g es ≡ es
times_first-none g [] = refl
times_first-none g (e ∷ es) = refl

pub times_first-all : (i : ℕ) (g : ℤ) (es : List (ℕ × ℤ)) → length es ≤ i → times_first i g es ≡ times_entries g es
times_first-all i g [] h = refl
times_first-all zero g (e ∷ es) h = absurd (omega arith)
times_first-all (suc i) g (e ∷ es) h = ap (λ (l : List (ℕ × ℤ)). (e.0, g *ℤ e.1) ∷ l) (times_first-all i g es (omega arith))

first-set : (i : ℕ) (g : ℤ) (es : List (ℕ × ℤ)) (d e : ℕ × ℤ) → i < length es → e.0 ≡ (get_or es i d).0 → g *ℤ e.1 ≡ (get_or es i d).1 → times_first (suc i) g (set es i e) ≡ times_first i g es
first-set i g [] d e inside c n = absurd (omega arith)
first-set zero g (x ∷ xs) d e inside c n = rw (times_first-none g xs, c, n) refl
first-set (suc i) g (x ∷ xs) d e inside c n =
    ap (λ (l : List (ℕ × ℤ)). (x.0, g *ℤ x.1) ∷ l) (first-set i g xs d e (omega arith) c n)

-- the entry at i is divided
pub times_first-set : (i : ℕ) (g : ℤ) (es : List (ℕ × ℤ)) (d e : ℕ × ℤ) → i < length es → e.0 ≡ (get_or es i d).0 → g *ℤ e.1 ≡ (get_or es i d).1 → times_first (i + 1) g (set es i e) ≡ times_first i g es
times_first-set i g es d e inside c n = rw add-one (first-set i g es d e inside c n)

-- what divides all entries divides one that is not yet divided
pub divides-at : (i k : ℕ) (g : ℤ) (es : List (ℕ × ℤ)) (d : ℕ × ℤ) → i < length es → DividesAll k (times_first i g es) → k ∣ unsigned_abs (get_or es i d).1
divides-at i k g [] d inside h = absurd (omega arith)
divides-at zero k g (e ∷ es) d inside h = h.0
divides-at (suc i) k g (e ∷ es) d inside h = divides-at i k g es d (omega arith) h.1

-- a divisor of all numbers is one of all products
divides-times : (d g : ℕ) (es : List (ℕ × ℤ)) → DividesAll d es → DividesAll (g * d) (times_entries (pos g) es)
divides-times d g [] h = tt
divides-times d g (e ∷ es) h =
    (rw (size-product g e.1) (mul-dvd-mul_left _ g h.0), divides-times d g es h.1)

pos-reduced : (g : ℕ) (es : List (ℕ × ℤ)) (rhs : ℤ) → 0 < g → IsRowGcd g (times_entries (pos g) es) (pos g *ℤ rhs) → IsRowGcd 1 es rhs
pos-reduced g es rhs some h = record {
  numbers = one-divides es;
  side = one-dvd (unsigned_abs rhs);
  greatest = λ d all side.
      let product : (g * d) ∣ unsigned_abs (pos g *ℤ rhs) = rw (size-product g rhs) (mul-dvd-mul_left _ g side) in
      let whole : (g * d) ∣ g = h.greatest (g * d) (divides-times d g es all) product in
      dvd_of_mul-dvd-mul_left d some (rw (mul-one g) whole);
}

along-reduced : (g : ℕ) (es xs : List (ℕ × ℤ)) (rhs side : ℤ) → 0 < g → IsRowGcd g xs side → xs ≡ times_entries (pos g) es → side ≡ pos g *ℤ rhs → IsRowGcd 1 es rhs
along-reduced g es xs rhs side some h p q =
    let turned : IsRowGcd g (times_entries (pos g) es) side = rw p at h in
    let whole : IsRowGcd g (times_entries (pos g) es) (pos g *ℤ rhs) = rw q at turned in
    pos-reduced g es rhs some whole

-- what is left after the greatest common divisor is taken out has none but 1
pub row_gcd-reduced : (g : ℤ) (es xs : List (ℕ × ℤ)) (rhs side : ℤ) → pos 0 <ℤ g → IsRowGcd (unsigned_abs g) xs side → xs ≡ times_entries g es → side ≡ g *ℤ rhs → IsRowGcd 1 es rhs
row_gcd-reduced (pos g) es xs rhs side some h p q = along-reduced g es xs rhs side (omega (arith, ints)) h p q
row_gcd-reduced (negsuc g) es xs rhs side some h p q = absurd (omega (arith, ints))

some-part : (g n : ℕ) → 0 < g * n → 0 < n
some-part g zero h = absurd (omega (arith, mul-zero g))
some-part g (suc n) h = omega arith

pos-sparse : (low g : ℕ) (es : List (ℕ × ℤ)) → 0 < g → IsSparseFrom low (times_entries (pos g) es) → IsSparseFrom low es
pos-sparse low g [] some h = tt
pos-sparse low g (e ∷ es) some h =
    let size : unsigned_abs (pos g *ℤ e.1) ≡ g * unsigned_abs e.1 = size-product g e.1 in
    let left : 0 < g * unsigned_abs e.1 = rw size at h.0.some in
    let below : unsigned_abs e.1 ≤ g * unsigned_abs e.1 = rw (mul_comm g (unsigned_abs e.1)) (le-mul_of_pos_right (unsigned_abs e.1) some) in
    let narrow : IsNarrow (pos g *ℤ e.1) = h.0.narrow in
    (record { column = h.0.column; some = some-part g _ left; narrow = omega arith }, pos-sparse (suc e.0) g es some h.1)

-- a sparse row divided is sparse
pub sparse-divided : (g : ℤ) (xs es : List (ℕ × ℤ)) → pos 0 <ℤ g → IsSparse xs → xs ≡ times_entries g es → IsSparse es
sparse-divided (pos g) xs es some h same =
    let sparse : IsSparse (times_entries (pos g) es) = rw same at h in
    pos-sparse 0 g es (omega (arith, ints)) sparse
sparse-divided (negsuc g) xs es some h same = absurd (omega (arith, ints))

-- what 0 or 1 divides is that many times itself
pub unit-times_entries : (g : ℤ) (es : List (ℕ × ℤ)) → pos 0 ≤ℤ g → g ≤ℤ pos 1 → DividesAll (unsigned_abs g) es → es ≡ times_entries g es
unit-times_entries g [] low high h = refl
unit-times_entries g (e ∷ es) low high h =
    let here : e.1 ≡ g *ℤ e.1 = unit-times g e.1 low high h.0 in
    let rest : es ≡ times_entries g es = unit-times_entries g es low high h.1 in
    rw (← here, ← rest) refl

-- the divisor 1
pub row_gcd-unit : (g : ℤ) (es : List (ℕ × ℤ)) (rhs : ℤ) → pos 0 <ℤ g → g ≤ℤ pos 1 → IsRowGcd (unsigned_abs g) es rhs → IsRowGcd 1 es rhs
row_gcd-unit (pos zero) es rhs low high h = absurd (omega (arith, ints))
row_gcd-unit (pos (suc zero)) es rhs low high h = h
row_gcd-unit (pos (suc (suc g))) es rhs low high h = absurd (omega (arith, ints))
row_gcd-unit (negsuc g) es rhs low high h = absurd (omega (arith, ints))
