-- The bytes of numbers, each behind one blank.
use Rattle.std.proofs.Common.{◌≡◌, ◌≢◌, ◌==◌, true, false, Bool, cond, ◌||◌, not, ◌∷◌, ◌++◌, ◌∙◌, [], ℕ, suc, ◌+◌, ℤ, pos, negsuc, neg_ℤ, List, length, take, drop, get_or, arith, rules, ◌<◌, ◌≤◌, ◌^◌, append_assoc, append-nil, ap, sym, refl, subst, eq-eqb, Result, Ok, Err, Some, FitsSigned, to_z, of_z, to_z-of_z, length-append}
use Rattle.std.specs.Fmt.{decimal, signed_decimal}
use Rattle.std.specs.Int.{w128}
use Rattle.std.specs.List.{AllByRecursion, flat_map, list_any, position_or_len}
use Rattle.std.specs.Str.{IsUtf8, IsAscii}
use Rattle.std.specs.Str.Parse.{AllDigits, ParsesSigned, digits_value, IsNumeral}
use Rattle.std.proofs.lemmas.Fmt.{decimal_is_IsNumeral_wide, IsAscii-decimal_wide}
use Rattle.std.proofs.lemmas.Str.{IsUtf8-from_ascii}
use Rattle.std.proofs.lemmas.Str.Parse.{IsNumeralModel, digit_from_value, parse_signed_plain, parse_signed_minus}
use Rattle.std.proofs.lemmas.Bool.{eqb-true}
use Rattle.std.proofs.lemmas.Int.{ints}
use Rattle.bz_algebra.specs.Numbers.{IsNarrow}
use Rattle.bz_model.proofs.MeetingParts.{all_append, all_then}
use Rattle.bz_cert.proofs.ListLemmas.{Stops, same_tail, same_until}
use Rattle.bz_cert.specs.CertFaults.{BeginsWith}
use Rattle.bz_cert.specs.CertReading.{AreNumbers, IsSpelled}
use Rattle.bz_cert.specs.CertText.{spelled}

own : IsNumeralModel (AllDigits 10) (digits_value 10)
own = record { to = λ ds h. h; from = λ ds h. h; same = λ ds h. refl }

-- how many digits a number that is not wide has at most
pos_size : (n : ℕ) → IsNarrow (pos n) → n < 10 ^ 64
pos_size n h = omega (arith, ints)

neg_size : (n : ℕ) → IsNarrow (negsuc n) → suc n < 10 ^ 64
neg_size n h = omega (arith, ints)

digits_all : (ds : List ℕ) → AllDigits 10 ds → AllByRecursion (λ b. 48 ≤ b) ds
digits_all [] h = tt
digits_all (d ∷ ds) h = (omega (arith, digit_from_value d h.0), digits_all ds h.1)

-- the bytes of a number are `-` and digits
pub digits_from : (z : ℤ) → IsNarrow z → AllByRecursion (λ b. 45 ≤ b) (signed_decimal z)
digits_from (pos n) h = all_then (λ b. 48 ≤ b) (λ b. 45 ≤ b) (decimal n)
    (digits_all (decimal n) (decimal_is_IsNumeral_wide n (pos_size n h)).0.1) (λ b l. omega arith)
digits_from (negsuc n) h = (
  omega arith,
  all_then (λ b. 48 ≤ b) (λ b. 45 ≤ b) (decimal (suc n))
      (digits_all (decimal (suc n)) (decimal_is_IsNumeral_wide (suc n) (neg_size n h)).0.1) (λ b l. omega arith),
)

-- the first byte of digits
first_digit : (ds : List ℕ) → 0 < length ds → AllByRecursion (λ b. 48 ≤ b) ds → 48 ≤ get_or ds 0 0
first_digit [] some h = absurd (omega arith)
first_digit (d ∷ ds) some h = h.0

first_of : (n : ℕ) → n < 10 ^ 64 → 48 ≤ get_or (decimal n) 0 0
first_of n h = let is : IsNumeral 10 (decimal n) × (digits_value 10 (decimal n) ≡ n) = decimal_is_IsNumeral_wide n h in
    first_digit (decimal n) is.0.0 (digits_all (decimal n) is.0.1)

decimal_same : (m n : ℕ) → m < 10 ^ 64 → n < 10 ^ 64 → decimal m ≡ decimal n → m ≡ n
decimal_same m n h k e = sym (decimal_is_IsNumeral_wide m h).1 ∙ ap (digits_value 10) e ∙ (decimal_is_IsNumeral_wide n k).1

-- numbers of the same bytes are the same
pub signed_same : (y z : ℤ) → IsNarrow y → IsNarrow z → signed_decimal y ≡ signed_decimal z → y ≡ z
signed_same (pos m) (pos n) h k e = ap pos (decimal_same m n (pos_size m h) (pos_size n k) e)
signed_same (pos m) (negsuc n) h k e =
    let first : get_or (decimal m) 0 0 ≡ 45 = ap (λ l. get_or l 0 0) e in absurd (omega (arith, first_of m (pos_size m h)))
signed_same (negsuc m) (pos n) h k e =
    let first : 45 ≡ get_or (decimal n) 0 0 = ap (λ l. get_or l 0 0) e in absurd (omega (arith, first_of n (pos_size n k)))
signed_same (negsuc m) (negsuc n) h k e =
    let same : suc m ≡ suc n = decimal_same (suc m) (suc n) (neg_size m h) (neg_size n k) (same_tail 45 45 _ _ e) in
    let less : m ≡ n = omega arith in ap negsuc less

-- what the digits of a field say that spells a number
pub plain_value : (field : List ℕ) (n : ℕ) → IsSpelled field (pos n) → digits_value 10 field ≡ n
plain_value field n s = ap (digits_value 10) s.spelling ∙ (decimal_is_IsNumeral_wide n (pos_size n s.narrow)).1

pub minus_value : (field : List ℕ) (n : ℕ) → IsSpelled field (negsuc n) → digits_value 10 (drop 1 field) ≡ suc n
minus_value field n s = ap (λ l. digits_value 10 (drop 1 l)) s.spelling ∙ (decimal_is_IsNumeral_wide (suc n) (neg_size n s.narrow)).1

-- what parses where the field spells a number
ok_of : {X E : Type 0} (r : Result X E) (P : Type 0) (v : X) → Rattle.std.specs.Result.OkIff r P v → P → r ≡ Ok v
ok_of (Ok x) P v h p = ap Ok h.1
ok_of (Err e) P v h p = absurd (h p)

pub parses : {E : Type 0} (field text : List ℕ) (r : Result ℤ E) → text ≡ field → ParsesSigned w128 10 text r → (z : ℤ) → IsSpelled field z → r ≡ Ok z
parses field text r e h (pos n) s =
    let size : n < 10 ^ 64 = pos_size n s.narrow in
    let bytes : text ≡ decimal n = e ∙ s.spelling in
    let is : IsNumeral 10 (decimal n) × (digits_value 10 (decimal n) ≡ n) = decimal_is_IsNumeral_wide n size in
    let first : 48 ≤ get_or text 0 0 = rw bytes (first_of n size) in
    let value : digits_value 10 text ≡ n = rw bytes is.1 in
    ok_of r _ _ (parse_signed_plain own w128 text r h (λ s. omega arith) (λ s. omega arith))
    (rw bytes is.0.1, rw bytes is.0.0, rw value (omega (arith, ints, s.narrow)))
    ∙ ap (λ k. Ok (pos k)) value
parses field text r e h (negsuc n) s =
    let size : suc n < 10 ^ 64 = neg_size n s.narrow in
    let bytes : text ≡ 45 ∷ decimal (suc n) = e ∙ s.spelling in
    let is : IsNumeral 10 (decimal (suc n)) × (digits_value 10 (decimal (suc n)) ≡ suc n) = decimal_is_IsNumeral_wide (suc n) size in
    let behind : drop 1 text ≡ decimal (suc n) = ap (drop 1) bytes in
    let value : digits_value 10 (drop 1 text) ≡ suc n = rw behind is.1 in
    ok_of r _ _ (parse_signed_minus own w128 text r h (ap (λ l. get_or l 0 0) bytes))
    (rw behind is.0.1, rw behind is.0.0, rw value (omega (arith, ints, s.narrow)))
    ∙ ap (λ k. Ok (neg_ℤ (pos k))) value

ascii_behind : (b : ℕ) (bs : List ℕ) → b < 128 → IsAscii bs → IsAscii (b ∷ bs)
ascii_behind b bs h k Prim.Native.Nat.zero = h
ascii_behind b bs h k (suc i) = k i

ascii_signed : (n : ℕ) → suc n < 10 ^ 64 → IsAscii (45 ∷ decimal (suc n))
ascii_signed n size = ascii_behind 45 (decimal (suc n)) (omega arith) (IsAscii-decimal_wide (suc n) size)

pub is_text : (field : List ℕ) (z : ℤ) → IsSpelled field z → IsUtf8 field
is_text field (pos n) s = rw s.spelling (IsUtf8-from_ascii _ (IsAscii-decimal_wide n (pos_size n s.narrow)))
is_text field (negsuc n) s = rw s.spelling (IsUtf8-from_ascii _ (ascii_signed n (neg_size n s.narrow)))

fits : (z : ℤ) → IsNarrow z → FitsSigned w128 z
fits (pos n) s = search (rules, ints)
fits (negsuc n) s = search (rules, ints)

pub parsed_is : {E : Type 0} (field : List ℕ) (r : Result ℤ E) (n z : ℤ) → IsSpelled field z → r ≡ Ok z → r ≡ Ok n → Some (to_z w128 (of_z w128 n)) ≡ Some z
parsed_is field r n z s e k =
    let same : n ≡ z = cc in
    let f : FitsSigned w128 z = fits z s.narrow in
    rw same (ap Some (to_z-of_z f))

pub stops_spelled : (ns : List ℤ) (rest : List ℕ) → Stops (λ b. 32 ≤ b) rest → Stops (λ b. 45 ≤ b) (spelled ns ++ rest)
stops_spelled [] [] h = tt
stops_spelled [] (b ∷ bs) h = λ i. h (omega arith)
stops_spelled (n ∷ ns) rest h = λ i. absurd (omega arith)

-- numbers in front of a byte that is neither a blank nor a part of a number, or of the end
pub same_numbers : (xs ys : List ℤ) (r s : List ℕ) → AllByRecursion IsNarrow xs → AllByRecursion IsNarrow ys →
    Stops (λ b. 32 ≤ b) r → Stops (λ b. 32 ≤ b) s → spelled xs ++ r ≡ spelled ys ++ s → (xs ≡ ys) × (r ≡ s)
same_numbers [] [] r s h k a b e = (refl, e)
same_numbers [] (y ∷ ys) r s h k a b e = absurd (subst (Stops (λ b. 32 ≤ b)) e a (omega arith))
same_numbers (x ∷ xs) [] r s h k a b e = absurd (subst (Stops (λ b. 32 ≤ b)) (sym e) b (omega arith))
same_numbers (x ∷ xs) (y ∷ ys) r s h k a b e =
    let e' : signed_decimal x ++ (spelled xs ++ r) ≡ signed_decimal y ++ (spelled ys ++ s) =
    sym (append_assoc (signed_decimal x) (spelled xs) r) ∙ same_tail 32 32 _ _ e ∙ append_assoc (signed_decimal y) (spelled ys) s in
    let first : (signed_decimal x ≡ signed_decimal y) × (spelled xs ++ r ≡ spelled ys ++ s) =
    same_until (λ b. 45 ≤ b) (signed_decimal x) (signed_decimal y) (spelled xs ++ r) (spelled ys ++ s) (digits_from x h.0) (digits_from y k.0)
    (stops_spelled xs r a) (stops_spelled ys s b) e' in
    let more : (xs ≡ ys) × (r ≡ s) = same_numbers xs ys r s h.1 k.1 a b first.1 in
    (ap (λ z. z ∷ xs) (signed_same x y h.0 k.0 first.0) ∙ ap (λ zs. y ∷ zs) more.0, more.1)

-- no numbers are spelled by the bytes
abbrev pub NoNumbers : List ℕ → Type 0
NoNumbers bytes = (ns : List ℤ) → AreNumbers bytes ns → ⊥

pub begins_stops : (byte : ℕ) (bytes : List ℕ) → BeginsWith byte bytes → Stops (λ b. b ≢ byte) bytes
begins_stops byte [] h = tt
begins_stops byte (b ∷ bs) h = λ other. other h

spelled_stops : (ns : List ℤ) → Stops (λ b. b ≢ 32) (spelled ns)
spelled_stops [] = tt
spelled_stops (n ∷ ns) = λ other. other refl

-- the field up to the next blank is the spelling of the first number
field_is : (rest behind field after : List ℕ) (n : ℤ) (ns : List ℤ) → rest ≡ (32 ∷ []) ++ behind → behind ≡ field ++ after →
    AllByRecursion (λ b. b ≢ 32) field → BeginsWith 32 after → AreNumbers rest (n ∷ ns) → (field ≡ signed_decimal n) × (after ≡ spelled ns)
field_is rest behind field after n ns blank cut before from_there are =
    let e : field ++ after ≡ signed_decimal n ++ spelled ns = sym cut ∙ same_tail 32 32 _ _ (sym blank ∙ are.spelling) in
    same_until (λ b. b ≢ 32) field (signed_decimal n) after (spelled ns) before
    (all_then (λ b. 45 ≤ b) (λ b. b ≢ 32) (signed_decimal n) (digits_from n are.narrow.0) (λ b l e. absurd (omega arith)))
    (begins_stops 32 after from_there) (spelled_stops ns) e

pub none_before : (rest behind field after : List ℕ) → rest ≡ (32 ∷ []) ++ behind → behind ≡ field ++ after →
    AllByRecursion (λ b. b ≢ 32) field → BeginsWith 32 after → NoNumbers after → NoNumbers rest
none_before rest behind field after blank cut before from_there none [] are =
    let e : 32 ∷ behind ≡ [] = sym blank ∙ are.spelling in absurd (omega (arith, ap length e))
none_before rest behind field after blank cut before from_there none (n ∷ ns) are =
    none ns (record { spelling = (field_is rest behind field after n ns blank cut before from_there are).1; narrow = are.narrow.1 })

pub none_here : (rest behind field after : List ℕ) → rest ≡ (32 ∷ []) ++ behind → behind ≡ field ++ after →
    AllByRecursion (λ b. b ≢ 32) field → BeginsWith 32 after → ((z : ℤ) → IsSpelled field z → ⊥) → NoNumbers rest
none_here rest behind field after blank cut before from_there none [] are =
    let e : 32 ∷ behind ≡ [] = sym blank ∙ are.spelling in absurd (omega (arith, ap length e))
none_here rest behind field after blank cut before from_there none (n ∷ ns) are =
    none n (record { spelling = (field_is rest behind field after n ns blank cut before from_there are).0; narrow = are.narrow.0 })

pub none_at_end : (rest : List ℕ) → ((behind : List ℕ) → rest ≡ (32 ∷ []) ++ behind → ⊥) → (length rest == 0) ≡ false → NoNumbers rest
none_at_end rest blank some [] are =
    let e : rest ≡ [] = are.spelling in
    let l : (length rest == 0) ≡ true = rw e refl in absurd (cc (l, some))
none_at_end rest blank some (n ∷ ns) are = blank _ are.spelling

pub spelled_clear : (ns : List ℤ) → AllByRecursion IsNarrow ns → AllByRecursion (λ b. b ≢ 10) (spelled ns)
spelled_clear [] h = tt
spelled_clear (n ∷ ns) h =
    all_append _ (32 ∷ signed_decimal n) (spelled ns)
    (λ e. absurd (omega arith), all_then (λ b. 45 ≤ b) (λ b. b ≢ 10) (signed_decimal n) (digits_from n h.0) (λ b l e. absurd (omega arith)))
    (spelled_clear ns h.1)

-- before the first such byte there is none, and from there on the text begins with it
pub clear_before : (byte : ℕ) (bytes : List ℕ) → AllByRecursion (λ b. b ≢ byte) (take (position_or_len (λ b. b == byte) bytes) bytes)
clear_before byte [] = tt
clear_before byte (b ∷ bs) = by (b == byte) refl (clear_before byte bs)
  where
    by : (p : Bool) → (b == byte) ≡ p → AllByRecursion (λ x. x ≢ byte) (take (position_or_len (λ x. x == byte) bs) bs) →
        AllByRecursion (λ x. x ≢ byte) (take (cond (not p) (1 + position_or_len (λ x. x == byte) bs) 0) (b ∷ bs))
    by true e later = tt
    by false e later =
        let one_more : suc (position_or_len (λ x. x == byte) bs) ≡ 1 + position_or_len (λ x. x == byte) bs = omega arith in
        subst (λ (k : ℕ). AllByRecursion (λ x. x ≢ byte) (take k (b ∷ bs))) one_more
        (λ same. let t : (b == byte) ≡ true = eq-eqb b byte same in absurd (cc (t, e)), later)

pub begins_there : (byte : ℕ) (bytes : List ℕ) → BeginsWith byte (drop (position_or_len (λ b. b == byte) bytes) bytes)
begins_there byte [] = tt
begins_there byte (b ∷ bs) = by (b == byte) refl (begins_there byte bs)
  where
    by : (p : Bool) → (b == byte) ≡ p → BeginsWith byte (drop (position_or_len (λ x. x == byte) bs) bs) →
        BeginsWith byte (drop (cond (not p) (1 + position_or_len (λ x. x == byte) bs) 0) (b ∷ bs))
    by true e later = eqb-true b byte e
    by false e later =
        let one_more : suc (position_or_len (λ x. x == byte) bs) ≡ 1 + position_or_len (λ x. x == byte) bs = omega arith in
        subst (λ (k : ℕ). BeginsWith byte (drop k (b ∷ bs))) one_more later

pub shorter_behind : (rest behind field after : List ℕ) → rest ≡ (32 ∷ []) ++ behind → behind ≡ field ++ after → length after < length rest
shorter_behind rest behind field after r b = rw (r, b) (omega (arith, length-append field after))

-- numbers of the same bytes are the same
pub same_spelling : (bytes : List ℕ) (xs ys : List ℤ) → AreNumbers bytes xs → AreNumbers bytes ys → xs ≡ ys
same_spelling bytes xs ys h k =
    (same_numbers xs ys [] [] h.narrow k.narrow tt tt (append-nil _ ∙ sym h.spelling ∙ k.spelling ∙ sym (append-nil _))).0

-- bytes among which a test finds no such byte
pub clear_of : (byte : ℕ) (bytes : List ℕ) → list_any (λ b. b == byte) bytes ≡ false → AllByRecursion (λ b. b ≢ byte) bytes
clear_of byte [] h = tt
clear_of byte (b ∷ bs) h =
    let parts : ((b == byte) ≡ false) × (list_any (λ x. x == byte) bs ≡ false) = neither (b == byte) (list_any (λ x. x == byte) bs) h in
    (λ same. let t : (b == byte) ≡ true = eq-eqb b byte same in absurd (cc (t, parts.0)), clear_of byte bs parts.1)
  where
    neither : (p q : Bool) → (p || q) ≡ false → (p ≡ false) × (q ≡ false)
    neither true q e = absurd (cc)
    neither false q e = (refl, e)
