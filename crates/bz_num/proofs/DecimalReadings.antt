-- What the reader of decimals holds of the bytes that it has read.
use Rattle.std.proofs.Common.{ℕ, ◌+◌, ◌*◌, ◌%◌, ◌^◌, ◌<◌, ◌≤◌, ◌≡◌, ◌≢◌, refl, sym, ap, subst, ◌∙◌, inl, inr, Bool, true, false, ◌==◌, nat_lt, Option, Some, None, List, [], ◌∷◌, ◌++◌, length, append_assoc, append-nil, length-append, arith}
use Rattle.std.proofs.Math.Nat.{le-mul_of_pos_right}
use Rattle.std.proofs.lemmas.Bool.Decides.{nat_tests}
use Rattle.std.proofs.lemmas.Int.Digits.{digits_value_push}
use Rattle.std.proofs.lemmas.Nat.Gcd.{mod-eq-zero_of_dvd}
use Rattle.std.specs.Char.{digit_value}
use Rattle.std.specs.Str.Parse.{digits_value}
use Rattle.bz_num.specs.declared.digits.Kind.{Kind}
use Rattle.bz_num.specs.declared.digits.Kind.TheVariants.{Digit, PlusMinus, Point, Mark}
use Rattle.bz_num.specs.declared.digits.State.{State}
use Rattle.bz_num.specs.declared.digits.State.TheVariants.{Start, Signed, Whole, Pointed, Part, Marked, MarkSigned, Powered}
use Rattle.bz_num.specs.declared.digits.Mantissa.{Mantissa}
use Rattle.bz_num.specs.declared.digits.Reading.{Reading}
use Rattle.bz_num.specs.Decimals.{Sign, unsigned, plus, minus, Power, Spelling, part_digits}
use Rattle.bz_num.specs.DecimalSteps.{kind_of, if_narrow, shifted_on, pushed, capped, read_in, read_on, start}
use Rattle.bz_num.proofs.DecimalFronts.{by_test, Front, at_start, at_sign, at_whole, at_point, at_part, at_mark, at_mark_sign, at_power, spelling_of, front_bytes, IsFront, sign_of, go, step, run, run-append, IsKind, kind_of-tells, StepTells, go-tells}
use Rattle.bz_num.proofs.DecimalValues.{ten-more, ten-positive, IsStripped}

-- the number that is held, or that it is too wide
abbrev pub HoldsNumber : Option ℕ → ℕ → Type 0
HoldsNumber None n = 10 ^ 30 ≤ n
HoldsNumber (Some x) n = (x ≡ n) × (x < 10 ^ 30)

-- the mantissa holds the number of the digits
pub record IsMantissa (m : Mantissa) (ds : List ℕ) : Type 0 where
  pub n : ℕ
  pub stripped : IsStripped (digits_value 10 ds) n m.zeros
  pub number : HoldsNumber m.number n
  pub few : m.zeros ≤ length ds

push-zero : (m : Mantissa) (ds : List ℕ) (b : ℕ) → IsMantissa m ds → (digit_value b == 0) ≡ true → IsMantissa (record { number = m.number; zeros = m.zeros + 1 }) (ds ++ b ∷ [])
push-zero m ds b h t =
    let none : digit_value b ≡ 0 = grind (arith, nat_tests) in
    let value : digits_value 10 (ds ++ b ∷ []) ≡ digits_value 10 ds * 10 + digit_value b = digits_value_push 10 ds b in
    let before : digits_value 10 ds ≡ h.n * 10 ^ m.zeros = h.stripped.number in
    let whole : digits_value 10 (ds ++ b ∷ []) ≡ (h.n * 10 ^ m.zeros) * 10 = omega arith in
    record {
      n = h.n;
      stripped = record {
        number = whole ∙ (omega arith ∙ ap (λ (t : ℕ). h.n * t) (sym (ten-more m.zeros)));
        last = h.stripped.last;
      };
      number = h.number;
      few = omega (arith, h.few, length-append {A = ℕ});
    }

narrow-holds : (x n : ℕ) → x ≡ n → HoldsNumber (if_narrow x) n
narrow-holds x n e =
    by_test (λ (o : Option ℕ). HoldsNumber o n) (nat_lt x (10 ^ 30)) (Some x) None
    (λ t. let below : x < 10 ^ 30 = grind (arith, nat_tests) in (e, below))
    (λ t. let above : 10 ^ 30 ≤ x = grind (arith, nat_tests) in omega arith)

shifted-holds : (o : Option ℕ) (n z d : ℕ) → HoldsNumber o n → HoldsNumber (shifted_on o z d) (n * 10 ^ (z + 1) + d)
shifted-holds None n z d h =
    let more : n ≤ n * 10 ^ (z + 1) = le-mul_of_pos_right n (ten-positive (z + 1)) in
    omega arith
shifted-holds (Some x) n z d h =
    narrow-holds (x * 10 ^ (z + 1) + d) (n * 10 ^ (z + 1) + d) (ap (λ (t : ℕ). t * 10 ^ (z + 1) + d) h.0)

push-digit : (m : Mantissa) (ds : List ℕ) (b : ℕ) → IsMantissa m ds → digit_value b < 10 → (digit_value b == 0) ≡ false → IsMantissa (record { number = shifted_on m.number m.zeros (digit_value b); zeros = 0 }) (ds ++ b ∷ [])
push-digit m ds b h l t =
    let some : digit_value b ≢ 0 = grind (arith, nat_tests) in
    let value : digits_value 10 (ds ++ b ∷ []) ≡ digits_value 10 ds * 10 + digit_value b = digits_value_push 10 ds b in
    let before : digits_value 10 ds ≡ h.n * 10 ^ m.zeros = h.stripped.number in
    let tens : h.n * 10 ^ (m.zeros + 1) ≡ (h.n * 10 ^ m.zeros) * 10 = ap (λ (t : ℕ). h.n * t) (ten-more m.zeros) ∙ omega arith in
    record {
      n = h.n * 10 ^ (m.zeros + 1) + digit_value b;
      stripped = record {
        number = omega arith;
        last = inr (λ d.
            let rest : (h.n * 10 ^ (m.zeros + 1) + digit_value b) % 10 ≡ 0 = mod-eq-zero_of_dvd 10 d in omega arith);
      };
      number = shifted-holds m.number h.n m.zeros (digit_value b) h.number;
      few = omega arith;
    }

pub mantissa-push : (m : Mantissa) (ds : List ℕ) (b : ℕ) → digit_value b < 10 → IsMantissa m ds → IsMantissa (pushed m (digit_value b)) (ds ++ b ∷ [])
mantissa-push m ds b l h =
    by_test (λ (x : Mantissa). IsMantissa x (ds ++ b ∷ [])) (digit_value b == 0) _ _ (push-zero m ds b h) (push-digit m ds b h l)

abbrev pub is_minus : Sign → Bool
is_minus unsigned = false
is_minus plus = false
is_minus minus = true

abbrev pub HoldsPower : Option Power → Bool → ℕ → Type 0
HoldsPower None m p = (m ≡ false) × (p ≡ 0)
HoldsPower (Some q) m p = (m ≡ is_minus q.sign) × (p ≡ capped (digits_value 10 q.digits))

-- the reading holds the numbers of the parts
pub record Counts (s : Spelling) (r : Reading) : Type 0 where
  pub minus : r.minus ≡ is_minus s.sign
  pub mantissa : IsMantissa r.mantissa (s.whole ++ part_digits s.part)
  pub places : r.places ≡ length (part_digits s.part)
  pub power : HoldsPower s.power r.power_minus r.power

abbrev pub state_of : Front → State
state_of at_start = Start
state_of (at_sign _) = Signed
state_of (at_whole _ _) = Whole
state_of (at_point _) = Pointed
state_of (at_part _ _ _) = Part
state_of (at_mark _ _ _ _) = Marked
state_of (at_mark_sign _ _ _ _ _) = MarkSigned
state_of (at_power _ _ _ _ _ _) = Powered

pub record IsCounted (f : Front) (r : Reading) : Type 0 where
  pub state : r.state ≡ state_of f
  pub counts : Counts (spelling_of f) r

abbrev pub Agree : Option Front → Option Reading → Type 0
Agree None None = Unit {0}
Agree None (Some r) = ⊥
Agree (Some f) None = ⊥
Agree (Some f) (Some r) = IsCounted f r

-- one more digit
mantissa-digit : (m : Mantissa) (ds : List ℕ) (b d : ℕ) → IsKind b (Some (Digit d)) → IsMantissa m ds → IsMantissa (pushed m d) (ds ++ b ∷ [])
mantissa-digit m ds b d k h =
    subst (λ (t : ℕ). IsMantissa (pushed m t) (ds ++ b ∷ [])) k.0 (mantissa-push m ds b (omega (arith, k.0, k.1)) h)

mantissa-along : (m : Mantissa) (ds es : List ℕ) → ds ≡ es → IsMantissa m ds → IsMantissa m es
mantissa-along m ds es e h = subst (IsMantissa m) e h

-- one more digit before the point, and one behind it
mantissa-whole : (m : Mantissa) (ds : List ℕ) (b d : ℕ) → IsKind b (Some (Digit d)) → IsMantissa m (ds ++ []) → IsMantissa (pushed m d) ((ds ++ b ∷ []) ++ [])
mantissa-whole m ds b d k h =
    mantissa-along _ _ _ (simp (append_assoc, append-nil)) (mantissa-digit m (ds ++ []) b d k h)

mantissa-part : (m : Mantissa) (ds fs : List ℕ) (b d : ℕ) → IsKind b (Some (Digit d)) → IsMantissa m (ds ++ fs) → IsMantissa (pushed m d) (ds ++ (fs ++ b ∷ []))
mantissa-part m ds fs b d k h =
    mantissa-along _ _ _ (append_assoc ds fs (b ∷ [])) (mantissa-digit m (ds ++ fs) b d k h)

capped-more : (p d : ℕ) → capped (10 * capped p + d) ≡ capped (p * 10 + d)
capped-more p d = grind (arith, nat_tests)

-- one more digit of the power
power-digit : (p : ℕ) (es : List ℕ) (b d : ℕ) → IsKind b (Some (Digit d)) → p ≡ capped (digits_value 10 es) → capped (10 * p + d) ≡ capped (digits_value 10 (es ++ b ∷ []))
power-digit p es b d k h =
    let value : digits_value 10 (es ++ b ∷ []) ≡ digits_value 10 es * 10 + digit_value b = digits_value_push 10 es b in
    ap (λ (t : ℕ). capped (10 * t + d)) h ∙ capped-more (digits_value 10 es) d
    ∙ ap (λ (t : ℕ). capped (digits_value 10 es * 10 + t)) (sym k.0) ∙ ap capped (sym value)

sign-minus : (s : Bool) → s ≡ is_minus (sign_of s)
sign-minus true = refl
sign-minus false = refl

pub go-counts : (f : Front) (k : Kind) (b : ℕ) (r : Reading) → IsKind b (Some k) → Counts (spelling_of f) r → Agree (go f k b) (read_in (state_of f) r k)
go-counts at_start (Digit d) b r k h = record {
  state = refl;
  counts = record { minus = h.minus; mantissa = mantissa-whole r.mantissa [] b d k h.mantissa; places = h.places; power = h.power };
}
go-counts (at_sign sg) (Digit d) b r k h = record {
  state = refl;
  counts = record { minus = h.minus; mantissa = mantissa-whole r.mantissa [] b d k h.mantissa; places = h.places; power = h.power };
}
go-counts (at_whole sg ds) (Digit d) b r k h = record {
  state = refl;
  counts = record { minus = h.minus; mantissa = mantissa-whole r.mantissa ds b d k h.mantissa; places = h.places; power = h.power };
}
go-counts (at_point sg) (Digit d) b r k h = record {
  state = refl;
  counts = record { minus = h.minus; mantissa = mantissa-part r.mantissa [] [] b d k h.mantissa; places = omega (arith, h.places); power = h.power };
}
go-counts (at_part sg ds fs) (Digit d) b r k h = record {
  state = refl;
  counts = record {
    minus = h.minus;
    mantissa = mantissa-part r.mantissa ds fs b d k h.mantissa;
    places = omega (arith, h.places, length-append {A = ℕ});
    power = h.power;
  };
}
go-counts (at_mark sg ds part m) (Digit d) b r k h = record {
  state = refl;
  counts = record { minus = h.minus; mantissa = h.mantissa; places = h.places; power = (h.power.0, power-digit r.power [] b d k h.power.1) };
}
go-counts (at_mark_sign sg ds part m ps) (Digit d) b r k h = record {
  state = refl;
  counts = record { minus = h.minus; mantissa = h.mantissa; places = h.places; power = (h.power.0, power-digit r.power [] b d k h.power.1) };
}
go-counts (at_power sg ds part m ps es) (Digit d) b r k h = record {
  state = refl;
  counts = record { minus = h.minus; mantissa = h.mantissa; places = h.places; power = (h.power.0, power-digit r.power es b d k h.power.1) };
}
go-counts at_start (PlusMinus s) b r k h = record {
  state = refl;
  counts = record { minus = sign-minus s; mantissa = h.mantissa; places = h.places; power = h.power };
}
go-counts (at_mark sg ds part m) (PlusMinus s) b r k h = record {
  state = refl;
  counts = record { minus = h.minus; mantissa = h.mantissa; places = h.places; power = (sign-minus s, h.power.1) };
}
go-counts (at_sign _) (PlusMinus s) b r k h = tt
go-counts (at_whole _ _) (PlusMinus s) b r k h = tt
go-counts (at_point _) (PlusMinus s) b r k h = tt
go-counts (at_part _ _ _) (PlusMinus s) b r k h = tt
go-counts (at_mark_sign _ _ _ _ _) (PlusMinus s) b r k h = tt
go-counts (at_power _ _ _ _ _ _) (PlusMinus s) b r k h = tt
go-counts at_start Point b r k h = record {
  state = refl;
  counts = record { minus = h.minus; mantissa = h.mantissa; places = h.places; power = h.power };
}
go-counts (at_sign sg) Point b r k h = record {
  state = refl;
  counts = record { minus = h.minus; mantissa = h.mantissa; places = h.places; power = h.power };
}
go-counts (at_whole sg ds) Point b r k h = record {
  state = refl;
  counts = record { minus = h.minus; mantissa = h.mantissa; places = h.places; power = h.power };
}
go-counts (at_point _) Point b r k h = tt
go-counts (at_part _ _ _) Point b r k h = tt
go-counts (at_mark _ _ _ _) Point b r k h = tt
go-counts (at_mark_sign _ _ _ _ _) Point b r k h = tt
go-counts (at_power _ _ _ _ _ _) Point b r k h = tt
go-counts (at_whole sg ds) Mark b r k h = record {
  state = refl;
  counts = record { minus = h.minus; mantissa = h.mantissa; places = h.places; power = h.power };
}
go-counts (at_part sg ds fs) Mark b r k h = record {
  state = refl;
  counts = record { minus = h.minus; mantissa = h.mantissa; places = h.places; power = h.power };
}
go-counts at_start Mark b r k h = tt
go-counts (at_sign _) Mark b r k h = tt
go-counts (at_point _) Mark b r k h = tt
go-counts (at_mark _ _ _ _) Mark b r k h = tt
go-counts (at_mark_sign _ _ _ _ _) Mark b r k h = tt
go-counts (at_power _ _ _ _ _ _) Mark b r k h = tt

-- the bytes are the front of a decimal, and the reading holds its numbers
pub record IsRead (bytes : List ℕ) (r : Reading) : Type 0 where
  pub front : Front
  pub led : run (Some at_start) bytes ≡ Some front
  pub spelled : bytes ≡ front_bytes front
  pub parts : IsFront front
  pub counted : IsCounted front r

pub read-start : IsRead [] start
read-start = record {
  front = at_start;
  led = refl;
  spelled = refl;
  parts = tt;
  counted = record {
    state = refl;
    counts = record {
      minus = refl;
      mantissa = record { n = 0; stripped = record { number = refl; last = inl refl }; number = (refl, omega arith); few = omega arith };
      places = refl;
      power = (refl, refl);
    };
  };
}

-- one more byte was read, or no decimal goes on so
abbrev pub ReadTells : List ℕ → Option Reading → Type 0
ReadTells bytes None = run (Some at_start) bytes ≡ None
ReadTells bytes (Some r) = IsRead bytes r

join : (bytes : List ℕ) (b : ℕ) (f : Front) (o : Option Front) (p : Option Reading) → bytes ≡ front_bytes f → run (Some at_start) (bytes ++ b ∷ []) ≡ o → StepTells f b o → Agree o p → ReadTells (bytes ++ b ∷ []) p
join bytes b f None None e led t a = led
join bytes b f None (Some r) e led t a = absurd a
join bytes b f (Some g) None e led t a = absurd a
join bytes b f (Some g) (Some r) e led t a = record {
  front = g;
  led = led;
  spelled = ap (λ (l : List ℕ). l ++ b ∷ []) e ∙ sym t.bytes;
  parts = t.parts;
  counted = a;
}

led-on : (bytes : List ℕ) (b : ℕ) (f : Front) (k : Option Kind) → run (Some at_start) bytes ≡ Some f → kind_of b ≡ k → run (Some at_start) (bytes ++ b ∷ []) ≡ step f k b
led-on bytes b f k led e =
    run-append (Some at_start) bytes (b ∷ [])
    ∙ ap (λ (o : Option Front). run o (b ∷ [])) led
    ∙ ap (λ (k : Option Kind). step f k b) e

read-kind : (bytes : List ℕ) (b : ℕ) (r : Reading) (k : Option Kind) → IsKind b k → kind_of b ≡ k → IsRead bytes r → ReadTells (bytes ++ b ∷ []) (read_on r k)
read-kind bytes b r None is e h = led-on bytes b h.front None h.led e
read-kind bytes b r (Some k) is e h =
    join bytes b h.front (go h.front k b) (read_in r.state r k) h.spelled (led-on bytes b h.front (Some k) h.led e)
    (go-tells h.front k b is h.parts)
    (subst (λ (q : State). Agree (go h.front k b) (read_in q r k)) (sym h.counted.state) (go-counts h.front k b r is h.counted.counts))

pub read-more : (bytes : List ℕ) (b : ℕ) (r : Reading) → IsRead bytes r → ReadTells (bytes ++ b ∷ []) (read_on r (kind_of b))
read-more bytes b r h = read-kind bytes b r (kind_of b) (kind_of-tells b) refl h
