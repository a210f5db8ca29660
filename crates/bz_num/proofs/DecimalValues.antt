-- The values of decimals: numbers without the zeros at their ends.
use Rattle.std.proofs.Common.{ℕ, zero, suc, ◌+◌, ◌-◌, ◌*◌, ◌/◌, ◌%◌, ◌^◌, ◌<◌, ◌≤◌, ◌≡◌, ◌≢◌, refl, sym, ap, subst, ◌∙◌, ◌⊎◌, inl, inr, List, ℤ, pos, ◌+ℤ◌, ◌*ℤ◌, arith}
use Rattle.std.proofs.Math.IntN.{neg_ℤ, pos-*ℤ-pos}
use Rattle.std.proofs.Math.Nat.{pow-suc, one-le-pow, mul-lt-mul_of_pos_right, dvd-mul_left, eq-zero-or-pos}
use Rattle.std.proofs.Math.Numerals.{add-one}
use Rattle.std.proofs.lemmas.Int.{ints, unsigned_abs-mul}
use Rattle.std.proofs.lemmas.Nat.{pow-add}
use Rattle.std.proofs.lemmas.Nat.Gcd.{mod-eq-zero_of_dvd}
use Rattle.std.specs.Int.{◌∣◌}
use Rattle.std.specs.Int.RustNames.{unsigned_abs}
use Rattle.bz_algebra.proofs.Ring.{cancel_right, neg_mul}
use Rattle.bz_num.specs.declared.decimal.Dec.{Dec}
use Rattle.bz_num.specs.Decimals.{Sign, unsigned, plus, minus, signed, HasZerosMoved, IsReduced, IsDecimal, mantissa, exponent, Spelling}
use Rattle.bz_num.proofs.DecimalFronts.{same_spelling}

pub ten-more : (z : ℕ) → 10 ^ (z + 1) ≡ 10 ^ z * 10
ten-more z = rw add-one (pow-suc 10 z)

pub ten-positive : (z : ℕ) → 0 < 10 ^ z
ten-positive z = one-le-pow z 10 (omega arith)

pub cancel_ten : (m n z : ℕ) → m * 10 ^ z ≡ n * 10 ^ z → m ≡ n
cancel_ten m n z h =
    let not_below : m < n → ⊥ = λ l.
    let less : m * 10 ^ z < n * 10 ^ z = mul-lt-mul_of_pos_right l (ten-positive z) in omega arith in
    let not_above : n < m → ⊥ = λ l.
    let less : n * 10 ^ z < m * 10 ^ z = mul-lt-mul_of_pos_right l (ten-positive z) in omega arith in
    omega arith

ten-divides : (m n z j : ℕ) → m * 10 ^ z ≡ n * 10 ^ ((z + j) + 1) → 10 ∣ m
ten-divides m n z j h =
    let split : 10 ^ ((z + j) + 1) ≡ (10 ^ z * 10 ^ j) * 10 = ten-more (z + j) ∙ ap (λ (t : ℕ). t * 10) (pow-add 10 z j) in
    let moved : m * 10 ^ z ≡ ((n * 10 ^ j) * 10) * 10 ^ z = h ∙ ap (λ (t : ℕ). n * t) split ∙ omega arith in
    let same : m ≡ (n * 10 ^ j) * 10 = cancel_ten m _ z moved in
    subst (λ (t : ℕ). 10 ∣ t) (sym same) (dvd-mul_left 10 (n * 10 ^ j))

-- fewer zeros leave one at the end of the number
fewer-zeros : (m n z y : ℕ) → m * 10 ^ z ≡ n * 10 ^ y → z < y → 10 ∣ m
fewer-zeros m n z y h l =
    let more : y ≡ (z + (y - z - 1)) + 1 = omega arith in
    ten-divides m n z (y - z - 1) (h ∙ ap (λ (t : ℕ). n * 10 ^ t) more)

same_zeros : (m n z y : ℕ) → m * 10 ^ z ≡ n * 10 ^ y → (10 ∣ m → ⊥) → (10 ∣ n → ⊥) → z ≡ y
same_zeros m n z y h p q =
    let not_below : z < y → ⊥ = λ l. p (fewer-zeros m n z y h l) in
    let not_above : y < z → ⊥ = λ l. q (fewer-zeros n m y z (sym h) l) in
    omega arith

pub same_dec : (d e : Dec) → d.mant ≡ e.mant → d.exp ≡ e.exp → d ≡ e
same_dec d e p q =
    ap (λ (m : ℤ). let r : Dec = record { mant = m; exp = d.exp } in r) p
    ∙ ap (λ (x : ℤ). let r : Dec = record { mant = e.mant; exp = x } in r) q

moved-size : (n e : ℤ) (d : Dec) (h : HasZerosMoved n e d) → unsigned_abs n ≡ unsigned_abs d.mant * 10 ^ h.zeros
moved-size n e d h = ap unsigned_abs h.number ∙ unsigned_abs-mul d.mant (pos (10 ^ h.zeros))

ten-divides_zero : 10 ∣ 0
ten-divides_zero = dvd-mul_left 10 0

moved-ne_zero : (n e : ℤ) (d : Dec) → n ≡ pos 0 → HasZerosMoved n e d → ⊥
moved-ne_zero n e d zero_n h =
    let none : unsigned_abs d.mant * 10 ^ h.zeros ≡ 0 * 10 ^ h.zeros = sym (moved-size n e d h) ∙ ap unsigned_abs zero_n ∙ omega arith in
    let size : unsigned_abs d.mant ≡ 0 = cancel_ten _ 0 h.zeros none in
    h.last (subst (λ (t : ℕ). 10 ∣ t) (sym size) ten-divides_zero)

ten-ne_zero : (z : ℕ) → pos (10 ^ z) ≢ pos 0
ten-ne_zero z e =
    let positive : 0 < 10 ^ z = ten-positive z in
    let same : 10 ^ z ≡ 0 = cc in
    absurd (omega arith)

-- a number has one least form
pub same_reduced : (n e : ℤ) (d f : Dec) → IsReduced n e d → IsReduced n e f → d ≡ f
same_reduced n e d f (inl h) (inl k) = same_dec d f (h.mant ∙ sym k.mant) (h.exp ∙ sym k.exp)
same_reduced n e d f (inl h) (inr k) = absurd (moved-ne_zero n e f h.number k)
same_reduced n e d f (inr h) (inl k) = absurd (moved-ne_zero n e d k.number h)
same_reduced n e d f (inr h) (inr k) =
    let sizes : unsigned_abs d.mant * 10 ^ h.zeros ≡ unsigned_abs f.mant * 10 ^ k.zeros = sym (moved-size n e d h) ∙ moved-size n e f k in
    let zeros : h.zeros ≡ k.zeros = same_zeros (unsigned_abs d.mant) (unsigned_abs f.mant) h.zeros k.zeros sizes h.last k.last in
    let products : d.mant *ℤ pos (10 ^ h.zeros) ≡ f.mant *ℤ pos (10 ^ h.zeros) =
    sym h.number ∙ k.number ∙ ap (λ (t : ℕ). f.mant *ℤ pos (10 ^ t)) (sym zeros) in
    let mant : d.mant ≡ f.mant = cancel_right d.mant f.mant (pos (10 ^ h.zeros)) (ten-ne_zero h.zeros) products in
    same_dec d f mant (h.exp ∙ ap (λ (t : ℕ). e +ℤ pos t) zeros ∙ sym k.exp)

of-spelling : (s t : Spelling) (d : Dec) → s ≡ t → IsReduced (mantissa s) (exponent s) d → IsReduced (mantissa t) (exponent t) d
of-spelling s t d e h = subst (λ (u : Spelling). IsReduced (mantissa u) (exponent u) d) e h

-- a text spells at most one decimal
pub same_decimal : (text : List ℕ) (d e : Dec) → IsDecimal text d → IsDecimal text e → d ≡ e
same_decimal text d e h k =
    same_reduced (mantissa k.spelling) (exponent k.spelling) d e
    (of-spelling h.spelling k.spelling d (same_spelling h.spelling k.spelling text h.spells k.spells) h.value)
    k.value

-- n without its z zeros at the end
pub record IsStripped (v n z : ℕ) : Type 0 where
  pub number : v ≡ n * 10 ^ z
  pub last : (n ≡ 0) ⊎ (10 ∣ n → ⊥)

pub signed-mul : (sg : Sign) (n k : ℕ) → signed sg (n * k) ≡ signed sg n *ℤ pos k
signed-mul unsigned n k = sym (pos-*ℤ-pos n k)
signed-mul plus n k = sym (pos-*ℤ-pos n k)
signed-mul minus n k = ap neg_ℤ (sym (pos-*ℤ-pos n k)) ∙ sym (neg_mul (pos n) (pos k))

pub unsigned_abs-signed : (sg : Sign) (n : ℕ) → unsigned_abs (signed sg n) ≡ n
unsigned_abs-signed unsigned n = omega (arith, ints)
unsigned_abs-signed plus n = omega (arith, ints)
unsigned_abs-signed minus n = omega (arith, ints)

signed-zero : (sg : Sign) → signed sg 0 ≡ pos 0
signed-zero unsigned = refl
signed-zero plus = refl
signed-zero minus = refl

-- nothing is left of zero
pub reduced-zero : (sg : Sign) (v z : ℕ) (e : ℤ) → v ≡ 0 * 10 ^ z → IsReduced (signed sg v) e (record { mant = pos 0; exp = pos 0 })
reduced-zero sg v z e h =
    let none : v ≡ 0 = omega arith in
    inl (record { number = ap (signed sg) none ∙ signed-zero sg; mant = refl; exp = refl })

-- what is left of another number, and its exponent
pub reduced-moved : (sg : Sign) (v n z : ℕ) (e : ℤ) → v ≡ n * 10 ^ z → (10 ∣ n → ⊥) → IsReduced (signed sg v) e (record { mant = signed sg n; exp = e +ℤ pos z })
reduced-moved sg v n z e h last = inr (record {
  zeros = z;
  number = ap (signed sg) h ∙ signed-mul sg n (10 ^ z);
  exp = refl;
  last = λ k. last (subst (λ (t : ℕ). 10 ∣ t) (unsigned_abs-signed sg n) k);
})

strip-zero : (v n z : ℕ) → v % 10 ≡ 0 → IsStripped (v / 10) n z → IsStripped v n (z + 1)
strip-zero v n z e h =
    let tenth : v / 10 ≡ n * 10 ^ z = h.number in
    let more : 10 ^ (z + 1) ≡ 10 ^ z * 10 = ten-more z in
    let whole : v ≡ (n * 10 ^ z) * 10 = omega arith in
    record { number = whole ∙ (omega arith ∙ ap (λ (t : ℕ). n * t) (sym more)); last = h.last }

strip-none : (v : ℕ) → 0 < v % 10 → IsStripped v v 0
strip-none v h = record {
  number = omega arith;
  last = inr (λ d.
      let none : v % 10 ≡ 0 = mod-eq-zero_of_dvd 10 d in omega arith);
}

strip-step : (v : ℕ) → (v % 10 ≡ 0) ⊎ (0 < v % 10) → (n : ℕ) × (z : ℕ) × IsStripped (v / 10) n z → (n : ℕ) × (z : ℕ) × IsStripped v n z
strip-step v (inl e) (n, z, h) = (n, z + 1, strip-zero v n z e h)
strip-step v (inr l) _ = (v, 0, strip-none v l)

strip : (fuel v : ℕ) → v ≤ fuel → (n : ℕ) × (z : ℕ) × IsStripped v n z
strip zero v h = (0, 0, record { number = omega arith; last = inl refl })
strip (suc fuel) v h = strip-step v (eq-zero-or-pos (v % 10)) (strip fuel (v / 10) (omega arith))

by_last : (sg : Sign) (v n z : ℕ) (e : ℤ) → v ≡ n * 10 ^ z → (n ≡ 0) ⊎ (10 ∣ n → ⊥) → (d : Dec) × IsReduced (signed sg v) e d
by_last sg v n z e h (inl none) =
    (record { mant = pos 0; exp = pos 0 }, reduced-zero sg v z e (h ∙ ap (λ (t : ℕ). t * 10 ^ z) none))
by_last sg v n z e h (inr last) = (record { mant = signed sg n; exp = e +ℤ pos z }, reduced-moved sg v n z e h last)

of-stripped : (sg : Sign) (v : ℕ) (e : ℤ) → (n : ℕ) × (z : ℕ) × IsStripped v n z → (d : Dec) × IsReduced (signed sg v) e d
of-stripped sg v e (n, z, h) = by_last sg v n z e h.number h.last

-- each number has a least form
pub reduced_of : (sg : Sign) (v : ℕ) (e : ℤ) → (d : Dec) × IsReduced (signed sg v) e d
reduced_of sg v e = of-stripped sg v e (strip v v (omega arith))
