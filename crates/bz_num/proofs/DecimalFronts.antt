-- The fronts of decimals: what was read, and which byte may come next.
use Rattle.std.proofs.Common.{ℕ, ◌+◌, ◌-◌, ◌<◌, ◌≡◌, refl, sym, ap, ◌∙◌, inl, inr, Bool, true, false, cond, ◌&&◌, ◌||◌, nat_le, ◌==◌, Option, Some, None, List, [], ◌∷◌, ◌++◌, length, append_assoc, append-nil, length-append, arith}
use Rattle.std.proofs.lemmas.Int.Digits.{digits_push}
use Rattle.std.proofs.lemmas.Bool.Decides.{nat_tests}
use Rattle.std.proofs.lemmas.Str.{digit_value_digit}
use Rattle.std.proofs.lemmas.Str.Parse.{digit_from_value}
use Rattle.std.specs.Char.{digit_value}
use Rattle.std.specs.Int.{IsInRange}
use Rattle.std.specs.Str.Parse.{AllDigits}
use Rattle.bz_num.specs.declared.digits.Kind.{Kind}
use Rattle.bz_num.specs.declared.digits.Kind.TheVariants.{Digit, PlusMinus, Point, Mark}
use Rattle.bz_num.specs.Decimals.{Sign, unsigned, plus, minus, sign_bytes, Power, Spelling, part_bytes, power_bytes, bytes_of, part_digits, IsMark, IsPower, MayBePower, IsSpelling, Spells}
use Rattle.bz_num.specs.DecimalSteps.{kind_of}

-- what was read of a decimal, by what stands last
pub data Front : Type 0 where
  at_start : Front
  at_sign : Sign → Front
  at_whole : Sign → List ℕ → Front
  at_point : Sign → Front
  at_part : Sign → List ℕ → List ℕ → Front
  at_mark : Sign → List ℕ → Option (List ℕ) → ℕ → Front
  at_mark_sign : Sign → List ℕ → Option (List ℕ) → ℕ → Sign → Front
  at_power : Sign → List ℕ → Option (List ℕ) → ℕ → Sign → List ℕ → Front

-- its parts
abbrev pub spelling_of : Front → Spelling
spelling_of at_start = record { sign = unsigned; whole = []; part = None; power = None }
spelling_of (at_sign sg) = record { sign = sg; whole = []; part = None; power = None }
spelling_of (at_whole sg ds) = record { sign = sg; whole = ds; part = None; power = None }
spelling_of (at_point sg) = record { sign = sg; whole = []; part = Some []; power = None }
spelling_of (at_part sg ds fs) = record { sign = sg; whole = ds; part = Some fs; power = None }
spelling_of (at_mark sg ds part m) = record {
  sign = sg;
  whole = ds;
  part = part;
  power = Some (record { mark = m; sign = unsigned; digits = [] });
}
spelling_of (at_mark_sign sg ds part m ps) = record {
  sign = sg;
  whole = ds;
  part = part;
  power = Some (record { mark = m; sign = ps; digits = [] });
}
spelling_of (at_power sg ds part m ps es) = record {
  sign = sg;
  whole = ds;
  part = part;
  power = Some (record { mark = m; sign = ps; digits = es });
}

abbrev pub front_bytes : Front → List ℕ
front_bytes f = bytes_of (spelling_of f)

-- digits, at least one before or behind the point
pub record AreDigits (ds : List ℕ) (fs : Option (List ℕ)) : Type 0 where
  pub whole : AllDigits 10 ds
  pub part : AllDigits 10 (part_digits fs)
  pub some : 0 < length ds + length (part_digits fs)

-- its parts are those of a decimal so far
abbrev pub IsFront : Front → Type 0
IsFront at_start = Unit {0}
IsFront (at_sign sg) = Unit {0}
IsFront (at_whole sg ds) = AreDigits ds None
IsFront (at_point sg) = Unit {0}
IsFront (at_part sg ds fs) = AreDigits ds (Some fs)
IsFront (at_mark sg ds part m) = AreDigits ds part × IsMark m
IsFront (at_mark_sign sg ds part m ps) = AreDigits ds part × IsMark m
IsFront (at_power sg ds part m ps es) = AreDigits ds part × IsPower (record { mark = m; sign = ps; digits = es })

abbrev pub sign_of : Bool → Sign
sign_of true = minus
sign_of false = plus

-- with one more byte, of a kind
abbrev pub go : Front → Kind → ℕ → Option Front
go at_start (Digit d) b = Some (at_whole unsigned (b ∷ []))
go (at_sign sg) (Digit d) b = Some (at_whole sg (b ∷ []))
go (at_whole sg ds) (Digit d) b = Some (at_whole sg (ds ++ b ∷ []))
go (at_point sg) (Digit d) b = Some (at_part sg [] (b ∷ []))
go (at_part sg ds fs) (Digit d) b = Some (at_part sg ds (fs ++ b ∷ []))
go (at_mark sg ds part m) (Digit d) b = Some (at_power sg ds part m unsigned (b ∷ []))
go (at_mark_sign sg ds part m ps) (Digit d) b = Some (at_power sg ds part m ps (b ∷ []))
go (at_power sg ds part m ps es) (Digit d) b = Some (at_power sg ds part m ps (es ++ b ∷ []))
go at_start (PlusMinus s) b = Some (at_sign (sign_of s))
go (at_mark sg ds part m) (PlusMinus s) b = Some (at_mark_sign sg ds part m (sign_of s))
go _ (PlusMinus s) b = None
go at_start Point b = Some (at_point unsigned)
go (at_sign sg) Point b = Some (at_point sg)
go (at_whole sg ds) Point b = Some (at_part sg ds [])
go _ Point b = None
go (at_whole sg ds) Mark b = Some (at_mark sg ds None b)
go (at_part sg ds fs) Mark b = Some (at_mark sg ds (Some fs) b)
go _ Mark b = None

abbrev pub step : Front → Option Kind → ℕ → Option Front
step f None b = None
step f (Some k) b = go f k b

abbrev pub step_over : Option Front → ℕ → Option Front
step_over None b = None
step_over (Some f) b = step f (kind_of b) b

-- with more bytes
abbrev pub run : Option Front → List ℕ → Option Front
run o [] = o
run o (b ∷ bs) = run (step_over o b) bs

pub run-none : (bs : List ℕ) → run None bs ≡ None
run-none [] = refl
run-none (b ∷ bs) = run-none bs

pub run-append : (o : Option Front) (xs ys : List ℕ) → run o (xs ++ ys) ≡ run (run o xs) ys
run-append o [] ys = refl
run-append o (x ∷ xs) ys = run-append (step_over o x) xs ys

-- what the kind of a byte tells of it
abbrev pub IsKind : ℕ → Option Kind → Type 0
IsKind b None = Unit {0}
IsKind b (Some (Digit d)) = (digit_value b ≡ d) × (d < 10)
IsKind b (Some (PlusMinus s)) = sign_bytes (sign_of s) ≡ b ∷ []
IsKind b (Some Point) = b ≡ 46
IsKind b (Some Mark) = IsMark b

-- what holds of both answers of a test
pub by_test : {A : Type 0} (P : A → Type 0) (t : Bool) (x y : A) → (t ≡ true → P x) → (t ≡ false → P y) → P (cond t x y)
by_test P true x y h k = h refl
by_test P false x y h k = k refl

pub digit-kind : (b : ℕ) → digit_value b < 10 → kind_of b ≡ Some (Digit (digit_value b))
digit-kind b l =
    let range : IsInRange 48 57 b = digit_from_value b l in
    let same : digit_value b + 48 ≡ b = digit_value_digit b range in
    let less : b - 48 ≡ digit_value b = omega arith in
    let test : (nat_le 48 b && nat_le b 57) ≡ true = grind (arith, nat_tests) in
    rw test (ap (λ (n : ℕ). Some (Digit n)) less)

kind-digit : (b : ℕ) → (nat_le 48 b && nat_le b 57) ≡ true → IsKind b (Some (Digit (b - 48)))
kind-digit b h =
    let range : IsInRange 48 57 b = grind (arith, nat_tests) in
    let same : digit_value b + 48 ≡ b = digit_value_digit b range in
    (omega arith, omega arith)

kind-mark : (b : ℕ) → ((b == 101) || (b == 69) || (b == 100) || (b == 68)) ≡ true → IsMark b
kind-mark b h = grind (arith, nat_tests)

kind-byte : (b c : ℕ) → (b == c) ≡ true → b ≡ c
kind-byte b c h = grind (arith, nat_tests)

pub kind_of-tells : (b : ℕ) → IsKind b (kind_of b)
kind_of-tells b =
    by_test (IsKind b) _ _ _ (kind-digit b) (λ _.
    by_test (IsKind b) _ _ _ (λ e. ap (λ (n : ℕ). n ∷ []) (sym (kind-byte b 43 e))) (λ _.
    by_test (IsKind b) _ _ _ (λ e. ap (λ (n : ℕ). n ∷ []) (sym (kind-byte b 45 e))) (λ _.
    by_test (IsKind b) _ _ _ (kind-byte b 46) (λ _.
    by_test (IsKind b) _ _ _ (kind-mark b) (λ _. tt)))))

pub mark-kind : (b : ℕ) → IsMark b → kind_of b ≡ Some Mark
mark-kind b (inl h) = ap kind_of h
mark-kind b (inr (inl h)) = ap kind_of h
mark-kind b (inr (inr (inl h))) = ap kind_of h
mark-kind b (inr (inr (inr h))) = ap kind_of h

-- one more byte: the bytes, and the parts
pub record IsNextFront (f : Front) (b : ℕ) (g : Front) : Type 0 where
  pub bytes : front_bytes g ≡ front_bytes f ++ b ∷ []
  pub parts : IsFront g

abbrev pub StepTells : Front → ℕ → Option Front → Type 0
StepTells f b None = Unit {0}
StepTells f b (Some g) = IsNextFront f b g

digits-push : (ds : List ℕ) (b : ℕ) → AllDigits 10 ds → digit_value b < 10 → AllDigits 10 (ds ++ b ∷ [])
digits-push ds b h l = digits_push 10 ds b h l

some-push : (ds : List ℕ) (b : ℕ) → 0 < length (ds ++ b ∷ [])
some-push ds b = omega (arith, length-append {A = ℕ})

value-small : (b d : ℕ) → IsKind b (Some (Digit d)) → digit_value b < 10
value-small b d h = omega (arith, h.0, h.1)

pub go-tells : (f : Front) (k : Kind) (b : ℕ) → IsKind b (Some k) → IsFront f → StepTells f b (go f k b)
go-tells at_start (Digit d) b h v = record {
  bytes = refl;
  parts = record { whole = (value-small b d h, tt); part = tt; some = omega arith };
}
go-tells (at_sign sg) (Digit d) b h v = record {
  bytes = simp (append_assoc, append-nil);
  parts = record { whole = (value-small b d h, tt); part = tt; some = omega arith };
}
go-tells (at_whole sg ds) (Digit d) b h v = record {
  bytes = simp (append_assoc, append-nil);
  parts = record { whole = digits-push ds b v.whole (value-small b d h); part = tt; some = omega (arith, some-push ds b) };
}
go-tells (at_point sg) (Digit d) b h v = record {
  bytes = simp (append_assoc, append-nil);
  parts = record { whole = tt; part = (value-small b d h, tt); some = omega arith };
}
go-tells (at_part sg ds fs) (Digit d) b h v = record {
  bytes = simp (append_assoc, append-nil);
  parts = record { whole = v.whole; part = digits-push fs b v.part (value-small b d h); some = omega (arith, some-push fs b) };
}
go-tells (at_mark sg ds part m) (Digit d) b h v = record {
  bytes = simp (append_assoc, append-nil);
  parts = (v.0, record { mark = v.1; digits = (value-small b d h, tt); some = omega arith });
}
go-tells (at_mark_sign sg ds part m ps) (Digit d) b h v = record {
  bytes = simp (append_assoc, append-nil);
  parts = (v.0, record { mark = v.1; digits = (value-small b d h, tt); some = omega arith });
}
go-tells (at_power sg ds part m ps es) (Digit d) b h v = record {
  bytes = simp append_assoc;
  parts = (v.0, record { mark = v.1.mark; digits = digits-push es b v.1.digits (value-small b d h); some = some-push es b });
}
go-tells at_start (PlusMinus s) b h v = record { bytes = simp append-nil h; parts = tt }
go-tells (at_mark sg ds part m) (PlusMinus s) b h v = record {
  bytes = rw h (simp (append_assoc, append-nil));
  parts = v;
}
go-tells (at_sign _) (PlusMinus s) b h v = tt
go-tells (at_whole _ _) (PlusMinus s) b h v = tt
go-tells (at_point _) (PlusMinus s) b h v = tt
go-tells (at_part _ _ _) (PlusMinus s) b h v = tt
go-tells (at_mark_sign _ _ _ _ _) (PlusMinus s) b h v = tt
go-tells (at_power _ _ _ _ _ _) (PlusMinus s) b h v = tt
go-tells at_start Point b h v = record { bytes = ap (λ (n : ℕ). n ∷ []) (sym h); parts = tt }
go-tells (at_sign sg) Point b h v = record { bytes = rw h (simp (append_assoc, append-nil)); parts = tt }
go-tells (at_whole sg ds) Point b h v = record {
  bytes = rw h (simp (append_assoc, append-nil));
  parts = record { whole = v.whole; part = tt; some = v.some };
}
go-tells (at_point _) Point b h v = tt
go-tells (at_part _ _ _) Point b h v = tt
go-tells (at_mark _ _ _ _) Point b h v = tt
go-tells (at_mark_sign _ _ _ _ _) Point b h v = tt
go-tells (at_power _ _ _ _ _ _) Point b h v = tt
go-tells (at_whole sg ds) Mark b h v = record { bytes = simp (append_assoc, append-nil); parts = (v, h) }
go-tells (at_part sg ds fs) Mark b h v = record { bytes = simp (append_assoc, append-nil); parts = (v, h) }
go-tells at_start Mark b h v = tt
go-tells (at_sign _) Mark b h v = tt
go-tells (at_point _) Mark b h v = tt
go-tells (at_mark _ _ _ _) Mark b h v = tt
go-tells (at_mark_sign _ _ _ _ _) Mark b h v = tt
go-tells (at_power _ _ _ _ _ _) Mark b h v = tt

-- the front of a sign, and of a sign and digits
abbrev pub sign_front : Sign → Front
sign_front unsigned = at_start
sign_front plus = at_sign plus
sign_front minus = at_sign minus

abbrev pub whole_front : Sign → List ℕ → Front
whole_front sg [] = sign_front sg
whole_front sg (d ∷ ds) = at_whole sg (d ∷ ds)

-- the front of all parts of a decimal
abbrev pub end_front : Sign → List ℕ → Option (List ℕ) → Option Power → Front
end_front sg ds None None = at_whole sg ds
end_front sg ds (Some fs) None = at_part sg ds fs
end_front sg ds part (Some p) = at_power sg ds part p.mark p.sign p.digits

run-sign : (sg : Sign) → run (Some at_start) (sign_bytes sg) ≡ Some (sign_front sg)
run-sign unsigned = refl
run-sign plus = refl
run-sign minus = refl

run-digits : (make : List ℕ → Front) → ((ds : List ℕ) (d b : ℕ) → go (make ds) (Digit d) b ≡ Some (make (ds ++ b ∷ []))) → (ds es : List ℕ) → AllDigits 10 es → run (Some (make ds)) es ≡ Some (make (ds ++ es))
run-digits make one ds [] h = ap (λ (l : List ℕ). Some (make l)) (sym (append-nil ds))
run-digits make one ds (e ∷ es) h =
    ap (λ (k : Option Kind). run (step (make ds) k e) es) (digit-kind e h.0)
    ∙ ap (λ (o : Option Front). run o es) (one ds (digit_value e) e)
    ∙ run-digits make one (ds ++ e ∷ []) es h.1
    ∙ ap (λ (l : List ℕ). Some (make l)) (append_assoc ds (e ∷ []) es)

run-first : (f : Front) (make : List ℕ → Front) → ((ds : List ℕ) (d b : ℕ) → go (make ds) (Digit d) b ≡ Some (make (ds ++ b ∷ []))) → ((d b : ℕ) → go f (Digit d) b ≡ Some (make (b ∷ []))) → (e : ℕ) (es : List ℕ) → AllDigits 10 (e ∷ es) → run (Some f) (e ∷ es) ≡ Some (make (e ∷ es))
run-first f make one first e es h =
    ap (λ (k : Option Kind). run (step f k e) es) (digit-kind e h.0)
    ∙ ap (λ (o : Option Front). run o es) (first (digit_value e) e)
    ∙ run-digits make one (e ∷ []) es h.1

run-whole : (sg : Sign) (ds : List ℕ) → AllDigits 10 ds → run (Some (sign_front sg)) ds ≡ Some (whole_front sg ds)
run-whole sg [] h = refl
run-whole unsigned (d ∷ ds) h = run-first at_start (at_whole unsigned) (λ _ _ _. refl) (λ _ _. refl) d ds h
run-whole plus (d ∷ ds) h = run-first (at_sign plus) (at_whole plus) (λ _ _ _. refl) (λ _ _. refl) d ds h
run-whole minus (d ∷ ds) h = run-first (at_sign minus) (at_whole minus) (λ _ _ _. refl) (λ _ _. refl) d ds h

after-point : (sg : Sign) → step_over (Some (sign_front sg)) 46 ≡ Some (at_point sg)
after-point unsigned = refl
after-point plus = refl
after-point minus = refl

run-part : (sg : Sign) (ds : List ℕ) (part : Option (List ℕ)) → AreDigits ds part → run (Some (whole_front sg ds)) (part_bytes part) ≡ Some (end_front sg ds part None)
run-part sg [] None h = absurd (omega (arith, h.some))
run-part sg (d ∷ ds) None h = refl
run-part sg [] (Some []) h = absurd (omega (arith, h.some))
run-part sg [] (Some (f ∷ fs)) h =
    ap (λ (o : Option Front). run o (f ∷ fs)) (after-point sg)
    ∙ run-first (at_point sg) (at_part sg []) (λ _ _ _. refl) (λ _ _. refl) f fs h.part
run-part sg (d ∷ ds) (Some fs) h = run-digits (at_part sg (d ∷ ds)) (λ _ _ _. refl) [] fs h.part

after-mark : (sg : Sign) (ds : List ℕ) (part : Option (List ℕ)) (m : ℕ) → IsMark m → step_over (Some (end_front sg ds part None)) m ≡ Some (at_mark sg ds part m)
after-mark sg ds None m h = ap (λ (k : Option Kind). step (at_whole sg ds) k m) (mark-kind m h)
after-mark sg ds (Some fs) m h = ap (λ (k : Option Kind). step (at_part sg ds fs) k m) (mark-kind m h)

abbrev power_front : Sign → List ℕ → Option (List ℕ) → ℕ → Sign → Front
power_front sg ds part m unsigned = at_mark sg ds part m
power_front sg ds part m plus = at_mark_sign sg ds part m plus
power_front sg ds part m minus = at_mark_sign sg ds part m minus

run-power_sign : (sg : Sign) (ds : List ℕ) (part : Option (List ℕ)) (m : ℕ) (ps : Sign) → run (Some (at_mark sg ds part m)) (sign_bytes ps) ≡ Some (power_front sg ds part m ps)
run-power_sign sg ds part m unsigned = refl
run-power_sign sg ds part m plus = refl
run-power_sign sg ds part m minus = refl

run-power_digits : (sg : Sign) (ds : List ℕ) (part : Option (List ℕ)) (m : ℕ) (ps : Sign) (es : List ℕ) → AllDigits 10 es → 0 < length es → run (Some (power_front sg ds part m ps)) es ≡ Some (at_power sg ds part m ps es)
run-power_digits sg ds part m ps [] h l = absurd (omega arith)
run-power_digits sg ds part m unsigned (e ∷ es) h l = run-first (at_mark sg ds part m) (at_power sg ds part m unsigned) (λ _ _ _. refl) (λ _ _. refl) e es h
run-power_digits sg ds part m plus (e ∷ es) h l = run-first (at_mark_sign sg ds part m plus) (at_power sg ds part m plus) (λ _ _ _. refl) (λ _ _. refl) e es h
run-power_digits sg ds part m minus (e ∷ es) h l = run-first (at_mark_sign sg ds part m minus) (at_power sg ds part m minus) (λ _ _ _. refl) (λ _ _. refl) e es h

run-power : (sg : Sign) (ds : List ℕ) (part : Option (List ℕ)) (power : Option Power) → MayBePower power → run (Some (end_front sg ds part None)) (power_bytes power) ≡ Some (end_front sg ds part power)
run-power sg ds part None h = refl
run-power sg ds part (Some p) h =
    ap (λ (o : Option Front). run o (sign_bytes p.sign ++ p.digits)) (after-mark sg ds part p.mark h.mark)
    ∙ run-append (Some (at_mark sg ds part p.mark)) (sign_bytes p.sign) p.digits
    ∙ ap (λ (o : Option Front). run o p.digits) (run-power_sign sg ds part p.mark p.sign)
    ∙ run-power_digits sg ds part p.mark p.sign p.digits h.digits h.some

-- the front of the whole spelling
abbrev pub whole_of : Spelling → Front
whole_of s = end_front s.sign s.whole s.part s.power

-- the bytes of a spelling lead to its front
pub run-spelling : (s : Spelling) → IsSpelling s → run (Some at_start) (bytes_of s) ≡ Some (whole_of s)
run-spelling s h =
    run-append (Some at_start) ((sign_bytes s.sign ++ s.whole) ++ part_bytes s.part) (power_bytes s.power)
    ∙ ap (λ (o : Option Front). run o (power_bytes s.power)) (run-append (Some at_start) (sign_bytes s.sign ++ s.whole) (part_bytes s.part)
    ∙ ap (λ (o : Option Front). run o (part_bytes s.part)) (run-append (Some at_start) (sign_bytes s.sign) s.whole
    ∙ ap (λ (o : Option Front). run o s.whole) (run-sign s.sign)
    ∙ run-whole s.sign s.whole h.whole)
    ∙ run-part s.sign s.whole s.part (record { whole = h.whole; part = h.part; some = h.some }))
    ∙ run-power s.sign s.whole s.part s.power h.power

end_front-spelling : (sg : Sign) (ds : List ℕ) (part : Option (List ℕ)) (power : Option Power) → spelling_of (end_front sg ds part power) ≡ record { sign = sg; whole = ds; part = part; power = power }
end_front-spelling sg ds None None = refl
end_front-spelling sg ds (Some fs) None = refl
end_front-spelling sg ds part (Some p) = refl

pub whole_of-spelling : (s : Spelling) → spelling_of (whole_of s) ≡ s
whole_of-spelling s = end_front-spelling s.sign s.whole s.part s.power

pub run-spells : (s : Spelling) (text : List ℕ) → Spells s text → run (Some at_start) text ≡ Some (whole_of s)
run-spells s text h = ap (run (Some at_start)) h.bytes ∙ run-spelling s h.parts

some-same : {A : Type 0} (x y : A) → Some x ≡ Some y → x ≡ y
some-same x y e = cc

-- a text has at most one spelling
pub same_spelling : (s t : Spelling) (text : List ℕ) → Spells s text → Spells t text → s ≡ t
same_spelling s t text h k =
    let same : whole_of s ≡ whole_of t = some-same _ _ (sym (run-spells s text h) ∙ run-spells t text k) in
    sym (whole_of-spelling s) ∙ ap spelling_of same ∙ whole_of-spelling t
