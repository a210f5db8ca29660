-- The terms of a row.
use Rattle.std.proofs.Common.{ℕ, zero, suc, ◌<◌, ◌≤◌, ◌+◌, ◌*◌, ◌^◌, ℤ, pos, ◌+ℤ◌, ◌≡◌, refl, ap, ◌∙◌, arith, Bool, true, false, ◌||◌, cond, List, [], ◌∷◌, ◌++◌, map, filter, take, drop, get_or, nat_lt, nat_le}
use Rattle.std.specs.Prelude.{length}
use Rattle.std.specs.Int.RustNames.{unsigned_abs}
use Rattle.std.proofs.lemmas.Int.{unsigned_abs-mul}
use Rattle.std.proofs.lemmas.List.{map-append}
use Rattle.std.proofs.lemmas.List.Elements.{filter-append}
use Rattle.std.proofs.lemmas.List.Folds.{list_any-append}
use Rattle.std.proofs.Math.Nat.{mul-le-mul_left}
use Rattle.bz_algebra.specs.Numbers.{IsNarrow}
use Rattle.bz_num.specs.Fold.{is_wide}
use Rattle.bz_num.specs.Row.{IsSparseFrom}
use Rattle.bz_num.specs.declared.Dec.{Dec}
use Rattle.bz_facts.specs.declared.Entry.{Entry}
use Rattle.bz_mps.specs.NumbersMade.{IsScalable}
use Rattle.bz_mps.specs.RowsMade.{AreScalable, RiseFrom}
use Rattle.bz_mps.specs.ScaledRows.{has_wide_term, scaled, terms_by}
use Rattle.bz_mps.proofs.BoundNumbers.{power_some}
use Rattle.bz_mps.proofs.TestLists.{split_at}

pub scalable_at : (k : ℕ) (es : List Entry) (i : ℕ) (d : Entry) → AreScalable k es → i < length es → IsScalable k (get_or es i d).number
scalable_at k [] i d a h = absurd (omega arith)
scalable_at k (e ∷ es) zero d a h = a.0
scalable_at k (e ∷ es) (suc i) d a h = scalable_at k es i d a.1 (omega arith)

terms_append : (k : ℕ) (xs ys : List Entry) → terms_by k (xs ++ ys) ≡ terms_by k xs ++ terms_by k ys
terms_append k xs ys =
    ap (map (λ e. (e.column, scaled k e.number))) (filter-append (λ e. nat_lt 0 (unsigned_abs e.number.mant)) xs ys)
    ∙ map-append (λ e. (e.column, scaled k e.number)) (filter (λ e. nat_lt 0 (unsigned_abs e.number.mant)) xs) (filter (λ e. nat_lt 0 (unsigned_abs e.number.mant)) ys)

wide_append : (xs ys : List (ℕ × ℤ)) → has_wide_term (xs ++ ys) ≡ (has_wide_term xs || has_wide_term ys)
wide_append xs ys = list_any-append (λ t. is_wide t.1) xs ys

or_right : (a b : Bool) → b ≡ true → (a || b) ≡ true
or_right true b h = refl
or_right false b h = h

or_left : (a b : Bool) → a ≡ true → (a || b) ≡ true
or_left true b h = refl
or_left false b h = absurd cc

-- a row has a wide term where one of its entries makes one
pub wide_at : (k : ℕ) (es : List Entry) (i : ℕ) (d : Entry) → i < length es → has_wide_term (terms_by k (get_or es i d ∷ [])) ≡ true → has_wide_term (terms_by k es) ≡ true
wide_at k es i d h w =
    ap (λ es. has_wide_term (terms_by k es)) (split_at es i d h)
    ∙ ap has_wide_term (terms_append k (take i es) (get_or es i d ∷ drop (i + 1) es) ∙ ap (λ ts. terms_by k (take i es) ++ ts) (terms_append k (get_or es i d ∷ []) (drop (i + 1) es)))
    ∙ wide_append (terms_by k (take i es)) (terms_by k (get_or es i d ∷ []) ++ terms_by k (drop (i + 1) es))
    ∙ or_right (has_wide_term (terms_by k (take i es))) _
    (wide_append (terms_by k (get_or es i d ∷ [])) (terms_by k (drop (i + 1) es)) ∙ or_left _ (has_wide_term (terms_by k (drop (i + 1) es))) w)

rise_below : (low c : ℕ) (es : List Entry) → low ≤ c → RiseFrom (suc c) es → RiseFrom low es
rise_below low c [] le h = tt
rise_below low c (e ∷ es) le h = (let k = h.0 in omega arith, h.1)

-- a scaled number is not 0 where the number is not
scaled_some : (k : ℕ) (d : Dec) → nat_lt 0 (unsigned_abs d.mant) ≡ true → 0 < unsigned_abs (scaled k d)
scaled_some k d h =
    let some : 0 < unsigned_abs d.mant = above (unsigned_abs d.mant) h in
    let power : 1 ≤ 10 ^ unsigned_abs (d.exp +ℤ pos k) = power_some (unsigned_abs (d.exp +ℤ pos k)) in
    let size : unsigned_abs (scaled k d) ≡ unsigned_abs d.mant * 10 ^ unsigned_abs (d.exp +ℤ pos k) = unsigned_abs-mul d.mant (pos (10 ^ unsigned_abs (d.exp +ℤ pos k))) in
    let once : unsigned_abs d.mant * 1 ≤ unsigned_abs d.mant * 10 ^ unsigned_abs (d.exp +ℤ pos k) = mul-le-mul_left (unsigned_abs d.mant) power in
    omega arith
  where
    above : (n : ℕ) → nat_lt 0 n ≡ true → 0 < n
    above n h = grind arith

not_wide : (z : ℤ) → is_wide z ≡ false → IsNarrow z
not_wide z h = below (unsigned_abs z) h
  where
    below : (n : ℕ) → nat_le (2 ^ 127) n ≡ false → n < 2 ^ 127
    below n h = grind arith

-- terms of entries whose columns rise are sparse where none is wide
pub sparse_terms : (k low : ℕ) (es : List Entry) → RiseFrom low es → has_wide_term (terms_by k es) ≡ false → IsSparseFrom low (terms_by k es)
sparse_terms k low [] h n = tt
sparse_terms k low (e ∷ es) h n = by (nat_lt 0 (unsigned_abs e.number.mant)) refl n (λ low. sparse_terms k low es)
  where
    by : (b : Bool) → nat_lt 0 (unsigned_abs e.number.mant) ≡ b
        → has_wide_term (map (λ e. (e.column, scaled k e.number)) (cond b (e ∷ filter (λ e. nat_lt 0 (unsigned_abs e.number.mant)) es) (filter (λ e. nat_lt 0 (unsigned_abs e.number.mant)) es))) ≡ false
        → ((low : ℕ) → RiseFrom low es → has_wide_term (terms_by k es) ≡ false → IsSparseFrom low (terms_by k es))
        → IsSparseFrom low (map (λ e. (e.column, scaled k e.number)) (cond b (e ∷ filter (λ e. nat_lt 0 (unsigned_abs e.number.mant)) es) (filter (λ e. nat_lt 0 (unsigned_abs e.number.mant)) es)))
    by true some n more =
        let here : is_wide (scaled k e.number) ≡ false = first_false (is_wide (scaled k e.number)) (has_wide_term (terms_by k es)) n in
        let rest : has_wide_term (terms_by k es) ≡ false = second_false (is_wide (scaled k e.number)) (has_wide_term (terms_by k es)) n in
        (record { column = h.0; some = scaled_some k e.number some; narrow = not_wide (scaled k e.number) here }, more (suc e.column) h.1 rest)
      where
        first_false : (a b : Bool) → (a || b) ≡ false → a ≡ false
        first_false true b h = absurd cc
        first_false false b h = refl

        second_false : (a b : Bool) → (a || b) ≡ false → b ≡ false
        second_false true b h = absurd cc
        second_false false b h = h
    by false none n more = more low (rise_below low e.column es h.0 h.1) n
