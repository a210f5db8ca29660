-- What the reader of decimals answers at its end.
use Rattle.std.proofs.Common.{ℕ, ◌+◌, ◌*◌, ◌^◌, ◌<◌, ◌≤◌, ◌≡◌, ◌≢◌, refl, sym, ap, subst, ◌∙◌, ◌⊎◌, inl, inr, Bool, true, false, cond, ◌==◌, nat_lt, Option, Some, None, Result, Ok, Err, List, [], ◌∷◌, ◌++◌, length, take, drop, get_or, append_assoc, append-nil, length-append, ℤ, pos, ◌+ℤ◌, ◌-ℤ◌, arith}
use Rattle.std.proofs.lemmas.Bool.Decides.{nat_tests}
use Rattle.std.proofs.lemmas.Int.{ints}
use Rattle.std.proofs.lemmas.List.{take-append-drop, take_all, take_more}
use Rattle.std.specs.Int.{◌∣◌}
use Rattle.std.specs.Int.RustNames.{unsigned_abs}
use Rattle.std.specs.Str.Parse.{digits_value}
use Rattle.bz_num.specs.declared.decimal.Dec.{Dec}
use Rattle.bz_num.specs.declared.decimal.NumFault.{NumFault}
use Rattle.bz_num.specs.declared.decimal.NumFault.TheVariants.{TooWide}
use Rattle.bz_num.specs.declared.digits.State.{State}
use Rattle.bz_num.specs.declared.digits.Reading.{Reading}
use Rattle.bz_num.specs.Decimals.{Sign, unsigned, plus, minus, signed, Power, Spelling, bytes_of, part_bytes, part_digits, power_of, mantissa, exponent, IsSpelling, Spells, IsDecimalText, IsDecimal, IsReduced, IsWithinLimits, BeginsDecimal, IsStop, IsTooWide, IsNumFault}
use Rattle.bz_num.specs.DecimalSteps.{capped, kind_of, read_on, signed_as, exponent_of, decimal_of, value_of, end_in, end_of}
use Rattle.bz_num.proofs.DecimalFronts.{by_test, Front, at_start, at_sign, at_whole, at_point, at_part, at_mark, at_mark_sign, at_power, spelling_of, front_bytes, IsFront, run, run-none, run-append, end_front, whole_of, run-spells}
use Rattle.bz_num.proofs.DecimalValues.{IsStripped, unsigned_abs-signed, reduced-zero, reduced-moved}
use Rattle.bz_num.proofs.DecimalReadings.{HoldsNumber, is_minus, HoldsPower, Counts, state_of, IsRead, ReadTells, read-more}

-- no decimal begins with bytes that lead nowhere
pub dead : (bytes : List ℕ) → run (Some at_start) bytes ≡ None → BeginsDecimal bytes → ⊥
dead bytes led h =
    let none : run (Some at_start) (bytes ++ h.behind) ≡ None =
    run-append (Some at_start) bytes h.behind ∙ ap (λ (o : Option Front). run o h.behind) led ∙ run-none h.behind in
    let some : run (Some at_start) (bytes ++ h.behind) ≡ Some (whole_of h.whole.spelling) = run-spells h.whole.spelling (bytes ++ h.behind) h.whole.spells in
    absurd cc

begins-with : (bytes behind : List ℕ) (s : Spelling) → IsSpelling s → bytes ++ behind ≡ bytes_of s → BeginsDecimal bytes
begins-with bytes behind s h e = record { behind = behind; whole = record { spelling = s; spells = record { parts = h; bytes = e } } }

-- each front is the beginning of a decimal
pub front-begins : (f : Front) → IsFront f → BeginsDecimal (front_bytes f)
front-begins at_start h =
    begins-with _ (48 ∷ []) (record { sign = unsigned; whole = 48 ∷ []; part = None; power = None })
    (record { whole = (omega arith, tt); part = tt; some = omega arith; power = tt }) refl
front-begins (at_sign sg) h =
    begins-with _ (48 ∷ []) (record { sign = sg; whole = 48 ∷ []; part = None; power = None })
    (record { whole = (omega arith, tt); part = tt; some = omega arith; power = tt }) (simp (append_assoc, append-nil))
front-begins (at_whole sg ds) h =
    begins-with _ [] (record { sign = sg; whole = ds; part = None; power = None })
    (record { whole = h.whole; part = tt; some = h.some; power = tt }) (append-nil _)
front-begins (at_point sg) h =
    begins-with _ (48 ∷ []) (record { sign = sg; whole = []; part = Some (48 ∷ []); power = None })
    (record { whole = tt; part = (omega arith, tt); some = omega arith; power = tt }) (simp (append_assoc, append-nil))
front-begins (at_part sg ds fs) h =
    begins-with _ [] (record { sign = sg; whole = ds; part = Some fs; power = None })
    (record { whole = h.whole; part = h.part; some = h.some; power = tt }) (append-nil _)
front-begins (at_mark sg ds part m) h =
    begins-with _ (48 ∷ []) (record { sign = sg; whole = ds; part = part; power = Some (record { mark = m; sign = unsigned; digits = 48 ∷ [] }) })
    (record { whole = h.0.whole; part = h.0.part; some = h.0.some; power = record { mark = h.1; digits = (omega arith, tt); some = omega arith } })
    (simp (append_assoc, append-nil))
front-begins (at_mark_sign sg ds part m ps) h =
    begins-with _ (48 ∷ []) (record { sign = sg; whole = ds; part = part; power = Some (record { mark = m; sign = ps; digits = 48 ∷ [] }) })
    (record { whole = h.0.whole; part = h.0.part; some = h.0.some; power = record { mark = h.1; digits = (omega arith, tt); some = omega arith } })
    (simp (append_assoc, append-nil))
front-begins (at_power sg ds part m ps es) h =
    begins-with _ [] (record { sign = sg; whole = ds; part = part; power = Some (record { mark = m; sign = ps; digits = es }) })
    (record { whole = h.0.whole; part = h.0.part; some = h.0.some; power = h.1 }) (append-nil _)

pub read-begins : (bytes : List ℕ) (r : Reading) → IsRead bytes r → BeginsDecimal bytes
read-begins bytes r h = subst BeginsDecimal (sym h.spelled) (front-begins h.front h.parts)

-- a byte by which no decimal goes on
pub stop-inside : (text : List ℕ) (at : ℕ) (r : Reading) → at < length text → IsRead (take at text) r → run (Some at_start) (take (at + 1) text) ≡ None → IsStop text at
stop-inside text at r l h led = record {
  none = λ d. dead (take (at + 1) text) led (record {
    behind = drop (at + 1) text;
    whole = subst IsDecimalText (sym (take-append-drop (at + 1) text)) d;
  });
  inside = omega arith;
  begins = read-begins (take at text) r h;
  stops = λ _. dead (take (at + 1) text) led;
}

-- a decimal may end here
abbrev pub is_end : Front → Bool
is_end (at_whole _ _) = true
is_end (at_part _ _ _) = true
is_end (at_power _ _ _ _ _ _) = true
is_end _ = false

end_front-end : (sg : Sign) (ds : List ℕ) (part : Option (List ℕ)) (power : Option Power) → is_end (end_front sg ds part power) ≡ true
end_front-end sg ds None None = refl
end_front-end sg ds (Some fs) None = refl
end_front-end sg ds part (Some p) = refl

-- a text that ends too early
pub stop-end : (text : List ℕ) (f : Front) → run (Some at_start) text ≡ Some f → text ≡ front_bytes f → IsFront f → is_end f ≡ false → IsStop text (length text)
stop-end text f led spelled h e = record {
  none = λ d.
      let some : run (Some at_start) text ≡ Some (whole_of d.spelling) = run-spells d.spelling text d.spells in
      let same : f ≡ whole_of d.spelling = cc in
      let end : is_end (whole_of d.spelling) ≡ true = end_front-end d.spelling.sign d.spelling.whole d.spelling.part d.spelling.power in
      let not_end : is_end (whole_of d.spelling) ≡ false = ap is_end (sym same) ∙ e in
      absurd cc;
  inside = omega arith;
  begins = subst BeginsDecimal (sym (take_all (length text) text (omega arith))) (subst BeginsDecimal (sym spelled) (front-begins f h));
  stops = λ l. absurd (omega arith);
}

-- what is answered of the whole text
abbrev pub EndTells : List ℕ → Result Dec NumFault → Type 0
EndTells text (Ok d) = IsDecimal text d × IsWithinLimits d
EndTells text (Err fault) = IsNumFault text fault

-- the number of the digits behind a power, held up to a limit
cap-cases : (p : ℕ) → (capped p ≡ p) ⊎ ((capped p ≡ 10 ^ 20) × (10 ^ 20 ≤ p))
cap-cases p =
    by_test (λ (q : ℕ). (q ≡ p) ⊎ ((q ≡ 10 ^ 20) × (10 ^ 20 ≤ p))) (nat_lt p (10 ^ 20)) p (10 ^ 20) (λ _. inl refl)
    (λ t. let above : 10 ^ 20 ≤ p = grind (arith, nat_tests) in inr (refl, above))

signed_as-same : (sg : Sign) (m : Bool) (n : ℕ) → m ≡ is_minus sg → signed_as m n ≡ signed sg n
signed_as-same unsigned m n e = ap (λ (b : Bool). signed_as b n) e
signed_as-same plus m n e = ap (λ (b : Bool). signed_as b n) e
signed_as-same minus m n e = ap (λ (b : Bool). signed_as b n) e

-- a power that is too large stays too large
far : (sg : Sign) (p places z : ℕ) → 10 ^ 20 ≤ p → places < 2 ^ 64 → z < 2 ^ 64 → 30 < unsigned_abs ((signed sg p -ℤ pos places) +ℤ pos z)
far unsigned p places z h f g = omega (arith, ints)
far plus p places z h f g = omega (arith, ints)
far minus p places z h f g = omega (arith, ints)

-- two exponents that are the same or both too large
abbrev pub SameOrFar : ℤ → ℤ → Type 0
SameOrFar e f = (e ≡ f) ⊎ ((30 < unsigned_abs e) × (30 < unsigned_abs f))

by_cap : (sg : Sign) (p q places z : ℕ) → q ≡ capped p → places < 2 ^ 64 → z < 2 ^ 64 → (capped p ≡ p) ⊎ ((capped p ≡ 10 ^ 20) × (10 ^ 20 ≤ p)) → SameOrFar ((signed sg q -ℤ pos places) +ℤ pos z) ((signed sg p -ℤ pos places) +ℤ pos z)
by_cap sg p q places z e f g (inl same) = inl (ap (λ (t : ℕ). (signed sg t -ℤ pos places) +ℤ pos z) (e ∙ same))
by_cap sg p q places z e f g (inr large) =
    let least : 10 ^ 20 ≤ q = omega (arith, large.0, e) in
    inr (far sg q places z least f g, far sg p places z large.1 f g)

same-or-far : (sg : Sign) (p q places z : ℕ) → q ≡ capped p → places < 2 ^ 64 → z < 2 ^ 64 → SameOrFar ((signed sg q -ℤ pos places) +ℤ pos z) ((signed sg p -ℤ pos places) +ℤ pos z)
same-or-far sg p q places z e f g =
    by_cap sg p q places z e f g (cap-cases p)

power-same-or-far : (power : Option Power) (m : Bool) (q places z : ℕ) → HoldsPower power m q → places < 2 ^ 64 → z < 2 ^ 64 → SameOrFar ((signed_as m q -ℤ pos places) +ℤ pos z) ((power_of power -ℤ pos places) +ℤ pos z)
power-same-or-far None m q places z h f g =
    let none : signed_as m q ≡ pos 0 = signed_as-same unsigned m q h.0 ∙ ap pos h.1 in
    inl (ap (λ (t : ℤ). (t -ℤ pos places) +ℤ pos z) none)
power-same-or-far (Some p) m q places z h f g =
    subst (λ (t : ℤ). SameOrFar ((t -ℤ pos places) +ℤ pos z) ((power_of (Some p) -ℤ pos places) +ℤ pos z)) (sym (signed_as-same p.sign m q h.0))
    (same-or-far p.sign (digits_value 10 p.digits) q places z h.1 f g)

exponent-same-or-far : (s : Spelling) (r : Reading) → Counts s r → r.places < 2 ^ 64 → r.mantissa.zeros < 2 ^ 64 → SameOrFar (exponent_of r) (exponent s +ℤ pos r.mantissa.zeros)
exponent-same-or-far s r h f g =
    subst (λ (t : ℕ). SameOrFar (exponent_of r) ((power_of s.power -ℤ pos t) +ℤ pos r.mantissa.zeros)) h.places
    (power-same-or-far s.power r.power_minus r.power r.places r.mantissa.zeros h.power f g)

-- the mantissa without its zeros, and the exponent with them
abbrev moved : Sign → ℕ → ℤ → Dec
moved sg n e = record { mant = signed sg n; exp = e }

too-wide : (text : List ℕ) (d : Dec) → IsDecimal text d → (IsWithinLimits d → ⊥) → IsTooWide text
too-wide text d h out = record { decimal = d; spelled = h; outside = out }

-- by the exponent that was counted, e, and the true one, f
by_exponent : (text : List ℕ) (sg : Sign) (m : Bool) (n : ℕ) (e f : ℤ) → IsDecimal text (moved sg n f) → m ≡ is_minus sg → n < 10 ^ 30 → SameOrFar e f → EndTells text (cond (nat_lt 30 (unsigned_abs e)) (Err TooWide) (Ok (record { mant = signed_as m n; exp = e })))
by_exponent text sg m n e f h minus_is below near =
    by_test (EndTells text) (nat_lt 30 (unsigned_abs e)) (Err TooWide) (Ok (record { mant = signed_as m n; exp = e }))
    (λ t.
    let large : 30 < unsigned_abs e = grind (arith, nat_tests) in
    let larger : 30 < unsigned_abs f = elim near [ inl same ↦ subst (λ (x : ℤ). 30 < unsigned_abs x) same large | inr both ↦ both.1 ] in
    too-wide text (moved sg n f) h (λ w. absurd (omega (arith, w.exp))))
    (λ t.
    let small : unsigned_abs e ≤ 30 = grind (arith, nat_tests) in
    let same : e ≡ f = elim near [ inl same ↦ same | inr both ↦ absurd (omega (arith, both.0)) ] in
    let decimal : IsDecimal text (record { mant = signed_as m n; exp = e }) =
    subst (λ (x : ℤ). IsDecimal text (record { mant = signed_as m n; exp = x })) (sym same)
    (subst (λ (x : ℤ). IsDecimal text (record { mant = x; exp = f })) (sym (signed_as-same sg m n minus_is)) h) in
    let size : unsigned_abs (signed_as m n) ≡ n = ap unsigned_abs (signed_as-same sg m n minus_is) ∙ unsigned_abs-signed sg n in
    (decimal, record { mant = omega (arith, size); exp = small }))

decimal-by : (text : List ℕ) (s : Spelling) (d : Dec) → Spells s text → IsReduced (mantissa s) (exponent s) d → IsDecimal text d
decimal-by text s d h v = record { spelling = s; spells = h; value = v }

by_number : (text : List ℕ) (s : Spelling) (o : Option ℕ) (m : Bool) (e : ℤ) (n z : ℕ) → Spells s text → HoldsNumber o n → m ≡ is_minus s.sign → IsStripped (digits_value 10 (s.whole ++ part_digits s.part)) n z → SameOrFar e (exponent s +ℤ pos z) → EndTells text (decimal_of o m e)
by_number text s None m e n z h holds minus_is stripped near =
    let last : 10 ∣ n → ⊥ = elim stripped.last [ inl none ↦ absurd (omega arith) | inr last ↦ last ] in
    too-wide text (moved s.sign n (exponent s +ℤ pos z))
    (decimal-by text s _ h (reduced-moved s.sign _ n z (exponent s) stripped.number last))
    (λ w. absurd (omega (arith, w.mant, unsigned_abs-signed s.sign n)))
by_number text s (Some x) m e n z h holds minus_is stripped near =
    by_test (EndTells text) (x == 0) (Ok (record { mant = pos 0; exp = pos 0 })) (cond (nat_lt 30 (unsigned_abs e)) (Err TooWide) (Ok (record { mant = signed_as m x; exp = e })))
    (λ t.
    let none : x ≡ 0 = grind (arith, nat_tests) in
    let same : n ≡ 0 = omega (arith, holds.0) in (
      decimal-by text s _ h (reduced-zero s.sign _ z (exponent s) (stripped.number ∙ ap (λ (t : ℕ). t * 10 ^ z) same)),
      record { mant = omega (arith, ints); exp = omega (arith, ints) },
    ))
    (λ t.
    let some : x ≢ 0 = grind (arith, nat_tests) in
    let last : 10 ∣ n → ⊥ = elim stripped.last [ inl none ↦ absurd (omega (arith, holds.0)) | inr last ↦ last ] in
    by_exponent text s.sign m x e (exponent s +ℤ pos z)
    (subst (λ (t : ℕ). IsDecimal text (moved s.sign t (exponent s +ℤ pos z))) (sym holds.0)
    (decimal-by text s _ h (reduced-moved s.sign _ n z (exponent s) stripped.number last)))
    minus_is holds.1 near)

value-tells : (text : List ℕ) (s : Spelling) (r : Reading) → Spells s text → Counts s r → r.places < 2 ^ 64 → r.mantissa.zeros < 2 ^ 64 → EndTells text (value_of r)
value-tells text s r h c f g =
    by_number text s r.mantissa.number r.minus (exponent_of r) c.mantissa.n r.mantissa.zeros h c.mantissa.number c.minus c.mantissa.stripped
    (exponent-same-or-far s r c f g)

part-within : (part : Option (List ℕ)) → length (part_digits part) ≤ length (part_bytes part)
part-within None = omega arith
part-within (Some fs) = omega arith

-- the digits are some of the bytes
pub digits-within : (s : Spelling) → length (s.whole ++ part_digits s.part) ≤ length (bytes_of s)
digits-within s =
    let within : length (part_digits s.part) ≤ length (part_bytes s.part) = part-within s.part in
    omega (arith, length-append {A = ℕ})

pub places-within : (s : Spelling) → length (part_digits s.part) ≤ length (s.whole ++ part_digits s.part)
places-within s = omega (arith, length-append {A = ℕ})

end-front : (f : Front) (text : List ℕ) (r : Reading) → run (Some at_start) text ≡ Some f → text ≡ front_bytes f → IsFront f → Counts (spelling_of f) r → r.places < 2 ^ 64 → r.mantissa.zeros < 2 ^ 64 → EndTells text (end_in (state_of f) r (length text))
end-front at_start text r led e h c f g = stop-end text at_start led e h refl
end-front (at_sign sg) text r led e h c f g = stop-end text (at_sign sg) led e h refl
end-front (at_whole sg ds) text r led e h c f g =
    value-tells text (spelling_of (at_whole sg ds)) r
    (record { parts = record { whole = h.whole; part = h.part; some = h.some; power = tt }; bytes = e }) c f g
end-front (at_point sg) text r led e h c f g = stop-end text (at_point sg) led e h refl
end-front (at_part sg ds fs) text r led e h c f g =
    value-tells text (spelling_of (at_part sg ds fs)) r
    (record { parts = record { whole = h.whole; part = h.part; some = h.some; power = tt }; bytes = e }) c f g
end-front (at_mark sg ds part m) text r led e h c f g = stop-end text (at_mark sg ds part m) led e h refl
end-front (at_mark_sign sg ds part m ps) text r led e h c f g = stop-end text (at_mark_sign sg ds part m ps) led e h refl
end-front (at_power sg ds part m ps es) text r led e h c f g =
    value-tells text (spelling_of (at_power sg ds part m ps es)) r
    (record { parts = record { whole = h.0.whole; part = h.0.part; some = h.0.some; power = h.1 }; bytes = e }) c f g

-- the counts stay below the length of the bytes
pub zeros-within : (bytes : List ℕ) (r : Reading) → IsRead bytes r → r.mantissa.zeros ≤ length bytes
zeros-within bytes r h =
    let few : r.mantissa.zeros ≤ length ((spelling_of h.front).whole ++ part_digits (spelling_of h.front).part) = h.counted.counts.mantissa.few in
    let within : length ((spelling_of h.front).whole ++ part_digits (spelling_of h.front).part) ≤ length (front_bytes h.front) = digits-within (spelling_of h.front) in
    let same : length bytes ≡ length (front_bytes h.front) = ap length h.spelled in
    omega arith

pub read_places-within : (bytes : List ℕ) (r : Reading) → IsRead bytes r → r.places ≤ length bytes
read_places-within bytes r h =
    let few : r.places ≡ length (part_digits (spelling_of h.front).part) = h.counted.counts.places in
    let fewer : length (part_digits (spelling_of h.front).part) ≤ length ((spelling_of h.front).whole ++ part_digits (spelling_of h.front).part) = places-within (spelling_of h.front) in
    let within : length ((spelling_of h.front).whole ++ part_digits (spelling_of h.front).part) ≤ length (front_bytes h.front) = digits-within (spelling_of h.front) in
    let same : length bytes ≡ length (front_bytes h.front) = ap length h.spelled in
    omega arith

capped-small : (p : ℕ) → capped p < 2 ^ 100
capped-small p =
    by_test (λ (q : ℕ). q < 2 ^ 100) (nat_lt p (10 ^ 20)) p (10 ^ 20)
    (λ t. let below : p < 10 ^ 20 = grind (arith, nat_tests) in omega arith) (λ _. omega arith)

power-small : (power : Option Power) (m : Bool) (q : ℕ) → HoldsPower power m q → q < 2 ^ 100
power-small None m q h = omega (arith, h.1)
power-small (Some p) m q h = omega (arith, h.1, capped-small (digits_value 10 p.digits))

pub read-power : (bytes : List ℕ) (r : Reading) → IsRead bytes r → r.power < 2 ^ 100
read-power bytes r h = power-small (spelling_of h.front).power r.power_minus r.power h.counted.counts.power

number-narrow : (o : Option ℕ) (n : ℕ) → HoldsNumber o n → (x : ℕ) → o ≡ Some x → x < 10 ^ 30
number-narrow None n h x e = absurd cc
number-narrow (Some y) n h x e =
    let same : y ≡ x = cc in omega (arith, h.1)

pub read-number : (bytes : List ℕ) (r : Reading) → IsRead bytes r → (x : ℕ) → r.mantissa.number ≡ Some x → x < 10 ^ 30
read-number bytes r h = number-narrow r.mantissa.number h.counted.counts.mantissa.n h.counted.counts.mantissa.number

-- what is answered of a text that was read to its end
pub end-tells : (text : List ℕ) (r : Reading) → IsRead text r → length text < 2 ^ 64 → EndTells text (end_of r (length text))
end-tells text r h l =
    let few : r.places < 2 ^ 64 = omega (arith, read_places-within text r h) in
    let fewer : r.mantissa.zeros < 2 ^ 64 = omega (arith, zeros-within text r h) in
    subst (λ (q : State). EndTells text (end_in q r (length text))) (sym h.counted.state)
    (end-front h.front text r h.led h.spelled h.parts h.counted.counts few fewer)

-- the loop's steps over a text
pub stop-at : (text : List ℕ) (at : ℕ) (r : Reading) → at < length text → IsRead (take at text) r → None ≡ read_on r (kind_of (get_or text at 0)) → IsStop text at
stop-at text at r l h e =
    let more : take (at + 1) text ≡ take at text ++ get_or text at 0 ∷ [] = take_more text at 0 l in
    let tells : ReadTells (take at text ++ get_or text at 0 ∷ []) None =
    subst (ReadTells (take at text ++ get_or text at 0 ∷ [])) (sym e) (read-more (take at text) (get_or text at 0) r h) in
    stop-inside text at r l h (ap (run (Some at_start)) more ∙ tells)

pub read-at : (text : List ℕ) (at : ℕ) (r q : Reading) → at < length text → IsRead (take at text) r → Some q ≡ read_on r (kind_of (get_or text at 0)) → IsRead (take (at + 1) text) q
read-at text at r q l h e =
    let more : take (at + 1) text ≡ take at text ++ get_or text at 0 ∷ [] = take_more text at 0 l in
    let tells : ReadTells (take at text ++ get_or text at 0 ∷ []) (Some q) =
    subst (ReadTells (take at text ++ get_or text at 0 ∷ [])) (sym e) (read-more (take at text) (get_or text at 0) r h) in
    subst (λ (l : List ℕ). IsRead l q) (sym more) tells

pub end-at : (text : List ℕ) (at : ℕ) (r : Reading) (result : Result Dec NumFault) → length text ≤ at → IsRead (take at text) r → length text < 2 ^ 64 → result ≡ end_of r (length text) → EndTells text result
end-at text at r result l h f e =
    let whole : IsRead text r = subst (λ (l : List ℕ). IsRead l r) (take_all at text l) h in
    subst (EndTells text) (sym e) (end-tells text r whole f)
