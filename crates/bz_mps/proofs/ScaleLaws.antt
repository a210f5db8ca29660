-- The scale of a row is the least power of ten that makes it whole.
use Rattle.std.proofs.Common.{ℕ, suc, ◌<◌, ◌≤◌, ◌+◌, ◌^◌, ◌≡◌, refl, sym, ap, ◌∙◌, subst, arith, inl, inr, ◌⊎◌, ℤ, pos, negsuc, ◌+ℤ◌, ◌-ℤ◌, ◌*ℤ◌, ◌≤ℤ◌, ◌-◌, ◌≢◌, mul_comm, Bool, true, false, if◌then◌else◌, max, List, [], ◌∷◌, Option, Some, None}
use Rattle.std.specs.Prelude.{IfSome, int_lt}
use Rattle.std.specs.Int.{◌∣◌}
use Rattle.std.specs.Int.RustNames.{unsigned_abs}
use Rattle.std.specs.List.{AllByRecursion}
use Rattle.std.specs.Option.{option_map, option_to_list}
use Rattle.std.proofs.Math.IntN.{neg_ℤ}
use Rattle.std.proofs.lemmas.Bool.{cases_lt}
use Rattle.std.proofs.lemmas.Int.{ints}
use Rattle.std.proofs.lemmas.Nat.{pow-add}
use Rattle.bz_algebra.proofs.Divisors.{divides_multiple}
use Rattle.bz_algebra.proofs.Ring.{*ℤ_assoc, add_mul, cancel_right, mul_left, neg_mul, positive-ne, sub_mul}
use Rattle.bz_num.specs.declared.Dec.{Dec}
use Rattle.bz_num.specs.Decimals.{IsWithinLimits}
use Rattle.bz_facts.specs.declared.Entry.{Entry}
use Rattle.bz_facts.specs.declared.RowType.{RowType}
use Rattle.bz_facts.specs.declared.RowType.TheVariants.{Free, AtMost, AtLeast, Equal}
use Rattle.bz_facts.specs.LineTests.{is_free}
use Rattle.bz_facts.specs.SoundFacts.{IsReadDecimal}
use Rattle.bz_facts.specs.Spellings.{at_thirty}
use Rattle.bz_mps.specs.LeastScale.{AreReadDecimals, AreWholeAt, IsLeastScale, IsWholeAt}
use Rattle.bz_mps.specs.ScaledRows.{decimals_of, digits_behind_point, lower_side, most_digits, scaled, upper_side}
use Rattle.bz_mps.proofs.BoundNumbers.{power_some}
use Rattle.bz_mps.proofs.DigitLemmas.{each_below, most_from}
use Rattle.bz_mps.proofs.ScaledNumbers.{digits_enough}

-- Sums, differences and sizes of whole numbers are whole.

whole_sum : (k : ℕ) (a b : ℤ) → IsWholeAt k a → IsWholeAt k b → IsWholeAt k (a +ℤ b)
whole_sum k a b h g = record {
  whole = h.whole +ℤ g.whole;
  is = add_mul h.whole g.whole (pos (10 ^ 30)) ∙ (λ i. h.is i +ℤ g.is i) ∙ sym (add_mul a b (pos (10 ^ k)));
}

whole_difference : (k : ℕ) (a b : ℤ) → IsWholeAt k a → IsWholeAt k b → IsWholeAt k (a -ℤ b)
whole_difference k a b h g = record {
  whole = h.whole -ℤ g.whole;
  is = sub_mul h.whole g.whole (pos (10 ^ 30)) ∙ (λ i. h.is i -ℤ g.is i) ∙ sym (sub_mul a b (pos (10 ^ k)));
}

whole_negated : (k : ℕ) (a : ℤ) → IsWholeAt k a → IsWholeAt k (neg_ℤ a)
whole_negated k a h = record {
  whole = neg_ℤ h.whole;
  is = neg_mul h.whole (pos (10 ^ 30)) ∙ ap neg_ℤ h.is ∙ sym (neg_mul a (pos (10 ^ k)));
}

whole_size : (k : ℕ) (a : ℤ) → IsWholeAt k a → IsWholeAt k (pos (unsigned_abs a))
whole_size k (pos n) h = h
whole_size k (negsuc n) h = whole_negated k (negsuc n) h

whole_of_size : (k : ℕ) (a : ℤ) → IsWholeAt k (pos (unsigned_abs a)) → IsWholeAt k a
whole_of_size k (pos n) h = h
whole_of_size k (negsuc n) h = whole_negated k (pos (suc n)) h

along : (k : ℕ) (a b : ℤ) → a ≡ b → IsWholeAt k a → IsWholeAt k b
along k a b e h = subst (IsWholeAt k) e h

-- A decimal is whole where it has at most k digits behind its point.
whole_decimal : (k : ℕ) (d : Dec) → IsWithinLimits d → digits_behind_point d ≤ k → IsWholeAt k (at_thirty d)
whole_decimal k d within few = record {
  whole = scaled k d;
  is = *ℤ_assoc d.mant (pos (10 ^ unsigned_abs (d.exp +ℤ pos k))) (pos (10 ^ 30))
      ∙ ap (λ n. d.mant *ℤ pos n) (sym (pow-add 10 (unsigned_abs (d.exp +ℤ pos k)) 30) ∙ ap (λ n. 10 ^ n) (exponents d.exp within.exp (digits_enough d k few)) ∙ pow-add 10 (unsigned_abs (d.exp +ℤ pos 30)) k)
      ∙ sym (*ℤ_assoc d.mant (pos (10 ^ unsigned_abs (d.exp +ℤ pos 30))) (pos (10 ^ k)));
}
  where
    exponents : (e : ℤ) → unsigned_abs e ≤ 30 → (pos 0) ≤ℤ (e +ℤ pos k) → unsigned_abs (e +ℤ pos k) + 30 ≡ unsigned_abs (e +ℤ pos 30) + k
    exponents e h g = omega (arith, ints)

-- A decimal of a text that is whole has at most k digits behind its point.

tenfold : (m w : ℤ) (b k n : ℕ) → b + suc n ≡ 30 → k < suc n → w *ℤ pos (10 ^ 30) ≡ (m *ℤ pos (10 ^ b)) *ℤ pos (10 ^ k) → 10 ∣ unsigned_abs m
tenfold m w b k n f less e = divides_multiple 10 m (w *ℤ pos (10 ^ r)) (sym same ∙ ap (λ n. w *ℤ pos n) (ap (λ n. 10 ^ n) one_more ∙ pow-add 10 1 r) ∙ mul_left w (pos 10) (pos (10 ^ r)))
  where
    r : ℕ
    r = n - k

    sum : (b + k) + suc r ≡ 30
    sum = omega arith

    one_more : suc r ≡ 1 + r
    one_more = omega arith

    left : w *ℤ pos (10 ^ 30) ≡ (w *ℤ pos (10 ^ suc r)) *ℤ pos (10 ^ (b + k))
    left =
        ap (λ n. w *ℤ pos n) (ap (λ n. 10 ^ n) (sym sum) ∙ pow-add 10 (b + k) (suc r) ∙ mul_comm (10 ^ (b + k)) (10 ^ suc r))
        ∙ sym (*ℤ_assoc w (pos (10 ^ suc r)) (pos (10 ^ (b + k))))

    right : (m *ℤ pos (10 ^ b)) *ℤ pos (10 ^ k) ≡ m *ℤ pos (10 ^ (b + k))
    right = *ℤ_assoc m (pos (10 ^ b)) (pos (10 ^ k)) ∙ ap (λ n. m *ℤ pos n) (sym (pow-add 10 b k))

    some : pos (10 ^ (b + k)) ≢ pos 0
    some = let large : 1 ≤ 10 ^ (b + k) = power_some (b + k) in positive-ne (pos (10 ^ (b + k))) (omega (arith, ints))

    same : w *ℤ pos (10 ^ suc r) ≡ m
    same = cancel_right (w *ℤ pos (10 ^ suc r)) m (pos (10 ^ (b + k))) some (sym left ∙ e ∙ right)

few_decimal : (k : ℕ) (d : Dec) → IsReadDecimal d → IsWholeAt k (at_thirty d) → digits_behind_point d ≤ k
few_decimal k d read h = by d.exp refl
  where
    point : (n : ℕ) → d.exp ≡ negsuc n → k < suc n → ⊥
    point n same less = which read.ends
      where
        low : unsigned_abs (d.exp +ℤ pos 30) + suc n ≡ 30
        low = let few : suc n ≤ 30 = subst (λ (z : ℤ). unsigned_abs z ≤ 30) same read.within.exp in rw same (omega (arith, ints))

        which : (d.exp ≡ pos 0) ⊎ (10 ∣ unsigned_abs d.mant → ⊥) → ⊥
        which (inl zero_exp) = let other : negsuc n ≡ pos 0 = sym same ∙ zero_exp in absurd cc
        which (inr last) = last (tenfold d.mant h.whole (unsigned_abs (d.exp +ℤ pos 30)) k n low less h.is)

    by : (z : ℤ) → d.exp ≡ z → digits_behind_point d ≤ k
    by (pos n) same = rw same (grind (arith, ints))
    by (negsuc n) same = rw same (enough (cases_lt k (suc n)))
      where
        enough : (k < suc n) ⊎ (suc n ≤ k) → suc n ≤ k
        enough (inl less) = absurd (point n same less)
        enough (inr more) = more

-- The sides of a row.

lower_whole : (k : ℕ) (t : RowType) (rhs : ℤ) (range : Option ℤ) → IsWholeAt k rhs → IfSome range (IsWholeAt k) → IfSome (lower_side t rhs range) (IsWholeAt k)
lower_whole k Free rhs range h g = tt
lower_whole k AtMost rhs None h g = tt
lower_whole k AtMost rhs (Some r) h g = whole_difference k rhs (pos (unsigned_abs r)) h (whole_size k r g)
lower_whole k AtLeast rhs range h g = h
lower_whole k Equal rhs None h g = h
lower_whole k Equal rhs (Some r) h g = by (int_lt r (pos 0))
  where
    by : (b : Bool) → IsWholeAt k (if b then rhs +ℤ r else rhs)
    by true = whole_sum k rhs r h g
    by false = h

upper_whole : (k : ℕ) (t : RowType) (rhs : ℤ) (range : Option ℤ) → IsWholeAt k rhs → IfSome range (IsWholeAt k) → IfSome (upper_side t rhs range) (IsWholeAt k)
upper_whole k Free rhs range h g = tt
upper_whole k AtMost rhs range h g = h
upper_whole k AtLeast rhs None h g = tt
upper_whole k AtLeast rhs (Some r) h g = whole_sum k rhs (pos (unsigned_abs r)) h (whole_size k r g)
upper_whole k Equal rhs None h g = along k rhs (rhs +ℤ pos 0) (omega (arith, ints)) h
upper_whole k Equal rhs (Some r) h g = by (int_lt r (pos 0))
  where
    by : (b : Bool) → IsWholeAt k (if b then rhs else rhs +ℤ r)
    by true = h
    by false = whole_sum k rhs r h g

-- A row whose sides are whole has a whole right side and a whole range.

whole_rhs : (k : ℕ) (t : RowType) (rhs : ℤ) (range : Option ℤ) → is_free t ≡ false → IfSome (lower_side t rhs range) (IsWholeAt k) → IfSome (upper_side t rhs range) (IsWholeAt k) → IsWholeAt k rhs
whole_rhs k Free rhs range f l u = absurd cc
whole_rhs k AtMost rhs range f l u = u
whole_rhs k AtLeast rhs range f l u = l
whole_rhs k Equal rhs None f l u = l
whole_rhs k Equal rhs (Some r) f l u = by (int_lt r (pos 0)) l u
  where
    by : (b : Bool) → IsWholeAt k (if b then rhs +ℤ r else rhs) → IsWholeAt k (if b then rhs else rhs +ℤ r) → IsWholeAt k rhs
    by true l u = u
    by false l u = l

whole_range : (k : ℕ) (t : RowType) (rhs : ℤ) (range : Option ℤ) → is_free t ≡ false → IsWholeAt k rhs → IfSome (lower_side t rhs range) (IsWholeAt k) → IfSome (upper_side t rhs range) (IsWholeAt k) → IfSome range (IsWholeAt k)
whole_range k t rhs None f h l u = tt
whole_range k Free rhs (Some r) f h l u = absurd cc
whole_range k AtMost rhs (Some r) f h l u =
    whole_of_size k r (along k (rhs -ℤ (rhs -ℤ pos (unsigned_abs r))) (pos (unsigned_abs r)) (omega (arith, ints)) (whole_difference k rhs (rhs -ℤ pos (unsigned_abs r)) h l))
whole_range k AtLeast rhs (Some r) f h l u =
    whole_of_size k r (along k ((rhs +ℤ pos (unsigned_abs r)) -ℤ rhs) (pos (unsigned_abs r)) (omega (arith, ints)) (whole_difference k (rhs +ℤ pos (unsigned_abs r)) rhs u h))
whole_range k Equal rhs (Some r) f h l u = by (int_lt r (pos 0)) l u
  where
    other : IsWholeAt k (rhs +ℤ r) → IsWholeAt k r
    other g = along k ((rhs +ℤ r) -ℤ rhs) r (omega (arith, ints)) (whole_difference k (rhs +ℤ r) rhs g h)

    by : (b : Bool) → IsWholeAt k (if b then rhs +ℤ r else rhs) → IsWholeAt k (if b then rhs else rhs +ℤ r) → IsWholeAt k r
    by true l u = other l
    by false l u = other u

-- The whole row.

row_whole : (k : ℕ) (t : RowType) (entries : List Entry) (rhs : Dec) (range : Option Dec) → AreReadDecimals entries rhs range → AllByRecursion (λ d. digits_behind_point d ≤ k) (decimals_of entries rhs range) → AreWholeAt k t entries rhs range
row_whole k t [] rhs None r f =
    let side = whole_decimal k rhs r.0.within f.0 in
    record { terms = tt; lower = lower_whole k t (at_thirty rhs) None side tt; upper = upper_whole k t (at_thirty rhs) None side tt }
row_whole k t [] rhs (Some d) r f =
    let side = whole_decimal k rhs r.0.within f.0 in
    let range = whole_decimal k d r.1.0.within f.1.0 in
    record { terms = tt; lower = lower_whole k t (at_thirty rhs) (Some (at_thirty d)) side range; upper = upper_whole k t (at_thirty rhs) (Some (at_thirty d)) side range }
row_whole k t (e ∷ es) rhs range r f =
    let rest = row_whole k t es rhs range r.1 f.1 in record { terms = (whole_decimal k e.number r.0.within f.0, rest.terms); lower = rest.lower; upper = rest.upper }

row_few : (k : ℕ) (t : RowType) (entries : List Entry) (rhs : Dec) (range : Option Dec) → is_free t ≡ false → AreReadDecimals entries rhs range → AreWholeAt k t entries rhs range → AllByRecursion (λ d. digits_behind_point d ≤ k) (decimals_of entries rhs range)
row_few k t [] rhs range f r w = (few_decimal k rhs r.0 side, in_range range r.1 (whole_range k t (at_thirty rhs) (option_map at_thirty range) f side w.lower w.upper))
  where
    side : IsWholeAt k (at_thirty rhs)
    side = whole_rhs k t (at_thirty rhs) (option_map at_thirty range) f w.lower w.upper

    in_range : (range : Option Dec) → AllByRecursion IsReadDecimal (option_to_list range) → IfSome (option_map at_thirty range) (IsWholeAt k) → AllByRecursion (λ d. digits_behind_point d ≤ k) (option_to_list range)
    in_range None r g = tt
    in_range (Some d) r g = (few_decimal k d r.0 g, tt)
row_few k t (e ∷ es) rhs range f r w = (few_decimal k e.number r.0 w.terms.0, row_few k t es rhs range f r.1 (record { terms = w.terms.1; lower = w.lower; upper = w.upper }))

most_least : (j k : ℕ) (ds : List Dec) → k ≤ j → AllByRecursion (λ d. digits_behind_point d ≤ j) ds → most_from k ds ≤ j
most_least j k [] h f = h
most_least j k (d ∷ ds) h f = let here = f.0 in most_least j (max k (digits_behind_point d)) ds (omega arith) f.1

pub least_scale : (t : RowType) (entries : List Entry) (rhs : Dec) (range : Option Dec) → is_free t ≡ false → AreReadDecimals entries rhs range → IsLeastScale (most_digits (decimals_of entries rhs range)) t entries rhs range
least_scale t entries rhs range f r = record {
  whole = row_whole (most_digits (decimals_of entries rhs range)) t entries rhs range r (each_below 0 (decimals_of entries rhs range));
  least = λ j w. most_least j 0 (decimals_of entries rhs range) (omega arith) (row_few j t entries rhs range f r w);
}
