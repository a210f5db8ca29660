-- Numbers at the columns of a sparse row.
use Rattle.std.proofs.Common.{◌≡◌, refl, ℕ, zero, suc, ◌<◌, ◌≤◌, true, false, List, [], ◌∷◌, length, get_or, arith, ℤ, pos, nat_eq, Err, ne_eqb, eq-eqb}
use Rattle.std.proofs.lemmas.Int.{ints}
use Rattle.std.specs.Ordering.{nat_cmp, ordering_index}
use Rattle.std.specs.declared.cmp.Ordering.TheVariants.{Less, Equal, Greater}
use Rattle.std.specs.List.Sorted.{IsBinarySearchResult}
use Rattle.std.proofs.lemmas.Bool.Decides.{nat_tests}
use Rattle.bz_algebra.specs.Sums.{AllBelow, coef}
use Rattle.bz_num.specs.Row.{IsSparse, IsSparseFrom}

-- a column before the row's first one holds nothing
pub coef-before : (low j : ℕ) (es : List (ℕ × ℤ)) → IsSparseFrom low es → j < low → coef es j ≡ pos 0
coef-before low j [] h before = refl
coef-before low j (e ∷ es) h before =
    let t : nat_eq e.0 j ≡ false = ne_eqb e.0 j (λ same. omega arith) in
    let rest : coef es j ≡ pos 0 = coef-before (suc e.0) j es h.1 (omega arith) in
    rw t (omega (arith, ints))

-- each column is at or after the first
pub column-from : (low : ℕ) (es : List (ℕ × ℤ)) (i : ℕ) (d : ℕ × ℤ) → IsSparseFrom low es → i < length es → low ≤ (get_or es i d).0
column-from low [] i d h inside = absurd (omega arith)
column-from low (e ∷ es) zero d h inside = h.0.column
column-from low (e ∷ es) (suc i) d h inside =
    let later : suc e.0 ≤ (get_or es i d).0 = column-from (suc e.0) es i d h.1 (omega arith) in
    let first : low ≤ e.0 = h.0.column in
    omega arith

-- columns rise
pub columns-rise : (low : ℕ) (es : List (ℕ × ℤ)) (i k : ℕ) (d : ℕ × ℤ) → IsSparseFrom low es → i ≤ k → k < length es → (get_or es i d).0 ≤ (get_or es k d).0
columns-rise low [] i k d h up inside = absurd (omega arith)
columns-rise low (e ∷ es) zero zero d h up inside = omega arith
columns-rise low (e ∷ es) zero (suc k) d h up inside =
    let later : suc e.0 ≤ (get_or es k d).0 = column-from (suc e.0) es k d h.1 (omega arith) in
    omega arith
columns-rise low (e ∷ es) (suc i) zero d h up inside = absurd (omega arith)
columns-rise low (e ∷ es) (suc i) (suc k) d h up inside = columns-rise (suc e.0) es i k d h.1 (omega arith) (omega arith)

-- the number beside its column
pub coef-at : (low j : ℕ) (es : List (ℕ × ℤ)) (i : ℕ) (d : ℕ × ℤ) → IsSparseFrom low es → i < length es → (get_or es i d).0 ≡ j → coef es j ≡ (get_or es i d).1
coef-at low j [] i d h inside at = absurd (omega arith)
coef-at low j (e ∷ es) zero d h inside at =
    let rest : coef es j ≡ pos 0 = coef-before (suc e.0) j es h.1 (omega arith) in
    let t : nat_eq e.0 j ≡ true = eq-eqb e.0 j at in
    rw t (omega (arith, ints))
coef-at low j (e ∷ es) (suc i) d h inside at =
    let later : suc e.0 ≤ (get_or es i d).0 = column-from (suc e.0) es i d h.1 (omega arith) in
    let t : nat_eq e.0 j ≡ false = ne_eqb e.0 j (λ same. omega arith) in
    let rest : coef es j ≡ (get_or es i d).1 = coef-at (suc e.0) j es i d h.1 (omega arith) at in
    rw t (omega (arith, ints))

-- a column that is at no place holds nothing
pub coef-missing : (j : ℕ) (es : List (ℕ × ℤ)) (d : ℕ × ℤ) → ((k : ℕ) → k < length es → (get_or es k d).0 ≡ j → ⊥) → coef es j ≡ pos 0
coef-missing j [] d none = refl
coef-missing j (e ∷ es) d none =
    let t : nat_eq e.0 j ≡ false = ne_eqb e.0 j (λ same. none 0 (omega arith) same) in
    let rest : coef es j ≡ pos 0 = coef-missing j es d (λ k inside same. none (suc k) (omega arith) same) in
    rw t (omega (arith, ints))

pub cmp-rises : (a b c : ℕ) → a ≤ b → ordering_index (nat_cmp a c) ≤ ordering_index (nat_cmp b c)
cmp-rises a b c up = grind (arith, nat_tests)

pub equal-columns : (a b : ℕ) → nat_cmp a b ≡ Equal → a ≡ b
equal-columns a b h = grind (arith, nat_tests)

less-columns : (a b : ℕ) → nat_cmp a b ≡ Less → a ≡ b → ⊥
less-columns a b h same = grind (arith, nat_tests)

greater-columns : (a b : ℕ) → nat_cmp a b ≡ Greater → a ≡ b → ⊥
greater-columns a b h same = grind (arith, nat_tests)

-- a binary search for the column found its place
pub coef-found : (j : ℕ) (es xs : List (ℕ × ℤ)) (i : ℕ) (d : ℕ × ℤ) → IsSparse es → xs ≡ es → i < length xs → ((d : ℕ × ℤ) → nat_cmp (get_or xs i d).0 j ≡ Equal) → coef es j ≡ (get_or es i d).1
coef-found j es xs i d h same range found =
    let inside : i < length es = rw same at range in
    let at : nat_cmp (get_or es i d).0 j ≡ Equal = rw same at (found d) in
    coef-at 0 j es i d h inside (equal-columns _ _ at)

-- a binary search for the column did not find it
pub nowhere : (j : ℕ) (es : List (ℕ × ℤ)) (i : ℕ) → IsSparse es → IsBinarySearchResult (λ (y : ℕ × ℤ). nat_cmp y.0 j) es (Err i) → (k : ℕ) → k < length es → (get_or es k (0, pos 0)).0 ≡ j → ⊥
nowhere j es i h found k inside same =
    let parts = found (λ a b d up inside. cmp-rises (get_or es a d).0 (get_or es b d).0 j (columns-rise 0 es a b d h up inside)) in
    let low : k < i → ⊥ = λ before. less-columns _ _ (parts.0 k (0, pos 0) (omega arith) before) same in
    let high : i ≤ k → ⊥ = λ after. greater-columns _ _ (parts.1 k (0, pos 0) after inside) same in
    omega arith

pub coef-not_found : (j : ℕ) (es xs : List (ℕ × ℤ)) (i : ℕ) → IsSparse es → xs ≡ es → IsBinarySearchResult (λ (y : ℕ × ℤ). nat_cmp y.0 j) xs (Err i) → coef es j ≡ pos 0
coef-not_found j es xs i h same answer =
    let found : IsBinarySearchResult (λ (y : ℕ × ℤ). nat_cmp y.0 j) es (Err i) = rw same at answer in
    coef-missing j es (0, pos 0) (nowhere j es i h found)

-- the column at a place of a row whose columns are below n
pub below_at : (n : ℕ) (es : List (ℕ × ℤ)) (i : ℕ) (d : ℕ × ℤ) → AllBelow n es → i < length es → (get_or es i d).0 < n
below_at n [] i d h l = absurd (omega arith)
below_at n (e ∷ es) zero d h l = h.0
below_at n (e ∷ es) (suc i) d h l = below_at n es i d h.1 (omega arith)
