-- The bounds of a column and their tests.
use Rattle.std.proofs.Common.{ℕ, zero, suc, ◌<◌, ◌+◌, ◌-◌, ◌^◌, ℤ, pos, ◌*ℤ◌, ◌<ℤ◌, ◌≡◌, refl, sym, ap, ◌∙◌, subst, arith, Bool, true, false, List, [], ◌∷◌, take, get_or, Option, Some, None, Ordering, Less, Equal, Greater, fold}
use Rattle.std.specs.Prelude.{length, int_lt, slice_get}
use Rattle.std.specs.List.{AllByRecursion, last_or}
use Rattle.std.specs.Option.{ForSome}
use Rattle.std.specs.Ordering.{int_cmp, is_gt, MatchOrdering}
use Rattle.std.proofs.lemmas.Cmp.{int_ranked}
use Rattle.std.proofs.lemmas.Int.{ints}
use Rattle.std.proofs.lemmas.List.Sums.{fold_more}
use Rattle.bz_algebra.proofs.Ring.{*ℤ_assoc, cancel_lt_right, cancel_right, mul_lt_right, mul_positive, mul_right, positive-ne}
use Rattle.std.proofs.Math.IntN.{*ℤ_comm}
use Rattle.bz_lines.specs.FirstFault.{IsFirstFailing}
use Rattle.bz_num.specs.declared.Dec.{Dec}
use Rattle.bz_num.specs.declared.Frac.{Frac}
use Rattle.bz_facts.specs.declared.BoundLine.{BoundLine}
use Rattle.bz_facts.specs.declared.BoundType.{BoundType}
use Rattle.bz_facts.specs.declared.BoundType.TheVariants.{Up, Lo, Fx, Fr, Mi, Pl, Bv, Li, Ui}
use Rattle.bz_facts.specs.SoundFacts.{IsFinite}
use Rattle.bz_facts.specs.Spellings.{at_thirty, zero_dec}
use Rattle.bz_mps.specs.declared.column_ends.Ends.{Ends}
use Rattle.bz_mps.specs.ColumnEnds.{IsFractionOf, bounded, one_dec, starting}
use Rattle.bz_mps.specs.TestAnswers.{AreFinite}

-- a and b are x / p and y / p, and compare as x and y do
scaled_lt : (x y p ta tb D : ℤ) → (pos 0) <ℤ p → (pos 0) <ℤ D → x *ℤ p ≡ ta *ℤ D → y *ℤ p ≡ tb *ℤ D → x <ℤ y → ta <ℤ tb
scaled_lt x y p ta tb D some more e f h =
    let less : (x *ℤ p) <ℤ (y *ℤ p) = mul_lt_right x y p some h in
    cancel_lt_right ta tb D (omega (arith, ints)) (subst (λ (t : ℤ). t <ℤ (tb *ℤ D)) e (subst (λ (t : ℤ). (x *ℤ p) <ℤ t) f less))

-- two fractions are in the order of their decimals
pub greater_by : (a b : Dec) (f g : Frac) → IsFractionOf a f → IsFractionOf b g → (o : Ordering) → o ≡ int_cmp (f.num *ℤ g.den) (g.num *ℤ f.den) → is_gt o ≡ int_lt (at_thirty b) (at_thirty a)
greater_by a b f g h k o e = by o (int_ranked (f.num *ℤ g.den) (g.num *ℤ f.den) o e)
  where
    both : (pos 0) <ℤ (f.den *ℤ g.den)
    both = mul_positive f.den g.den f.positive g.positive

    some : (pos 0) <ℤ (pos (10 ^ 30))
    some = omega (arith, ints)

    first : (f.num *ℤ g.den) *ℤ pos (10 ^ 30) ≡ at_thirty a *ℤ (f.den *ℤ g.den)
    first = mul_right f.num g.den (pos (10 ^ 30)) ∙ ap (λ (t : ℤ). t *ℤ g.den) h.value ∙ *ℤ_assoc (at_thirty a) f.den g.den

    second : (g.num *ℤ f.den) *ℤ pos (10 ^ 30) ≡ at_thirty b *ℤ (f.den *ℤ g.den)
    second = mul_right g.num f.den (pos (10 ^ 30)) ∙ ap (λ (t : ℤ). t *ℤ f.den) k.value ∙ *ℤ_assoc (at_thirty b) g.den f.den ∙ ap (λ (t : ℤ). at_thirty b *ℤ t) (*ℤ_comm g.den f.den)

    by : (o : Ordering) → MatchOrdering o ((f.num *ℤ g.den) <ℤ (g.num *ℤ f.den)) (f.num *ℤ g.den ≡ g.num *ℤ f.den) ((g.num *ℤ f.den) <ℤ (f.num *ℤ g.den)) → is_gt o ≡ int_lt (at_thirty b) (at_thirty a)
    by Less m =
        let less : at_thirty a <ℤ at_thirty b = scaled_lt _ _ (pos (10 ^ 30)) (at_thirty a) (at_thirty b) (f.den *ℤ g.den) some both first second m in
        not_above (at_thirty a) (at_thirty b) less
      where
        not_above : (x y : ℤ) → x <ℤ y → false ≡ int_lt y x
        not_above x y h = grind (arith, ints)
    by Equal m =
        let same : at_thirty a ≡ at_thirty b = cancel_right (at_thirty a) (at_thirty b) (f.den *ℤ g.den) (positive-ne _ both) (sym first ∙ ap (λ (t : ℤ). t *ℤ pos (10 ^ 30)) m ∙ second) in
        not_itself (at_thirty a) (at_thirty b) same
      where
        not_itself : (x y : ℤ) → x ≡ y → false ≡ int_lt y x
        not_itself x y h = grind (arith, ints)
    by Greater m =
        let less : at_thirty b <ℤ at_thirty a = scaled_lt _ _ (pos (10 ^ 30)) (at_thirty b) (at_thirty a) (f.den *ℤ g.den) some both second first m in
        above (at_thirty b) (at_thirty a) less
      where
        above : (x y : ℤ) → x <ℤ y → true ≡ int_lt x y
        above x y h = grind (arith, ints)

-- the last of some lines
pub last_is : {X : Type 0} (o : Option X) (xs : List X) (x : X) → slice_get xs (length xs - 1) ≡ Some x → last_or o xs ≡ Some x
last_is o [] x e = absurd cc
last_is o (y ∷ []) x e = e
last_is o (y ∷ z ∷ zs) x e = last_is (Some y) (z ∷ zs) x (shorter e)
  where
    shorter : slice_get (y ∷ z ∷ zs) (length (y ∷ z ∷ zs) - 1) ≡ Some x → slice_get (z ∷ zs) (length (z ∷ zs) - 1) ≡ Some x
    shorter e =
        let longer : length (y ∷ z ∷ zs) - 1 ≡ suc (length (z ∷ zs) - 1) = omega arith in
        subst (λ n. slice_get (y ∷ z ∷ zs) n ≡ Some x) longer e

-- Bounds that are finite stay so.

zero_is_finite : IsFinite zero_dec
zero_is_finite = record { within = record { mant = omega arith; exp = omega arith }; finite = refl }

one_is_finite : IsFinite one_dec
one_is_finite = record { within = record { mant = omega arith; exp = omega arith }; finite = refl }

some_finite : (d : Dec) → IsFinite d → ForSome (Some d) IsFinite
some_finite d h = λ x e. let same : d ≡ x = cc in subst IsFinite same h

none_finite : ForSome None IsFinite
none_finite = λ x e. absurd cc

pub starting_finite : AreFinite starting
starting_finite = record { lower = some_finite zero_dec zero_is_finite; upper = none_finite }

pub binary_finite : AreFinite (record { lower = Some zero_dec; upper = Some one_dec })
binary_finite = record { lower = some_finite zero_dec zero_is_finite; upper = some_finite one_dec one_is_finite }

pub bounded_finite : (k : BoundType) (n : Option Dec) (e : Ends) → ForSome n IsFinite → AreFinite e → AreFinite (bounded k n e)
bounded_finite Up n e h f = record { lower = f.lower; upper = h }
bounded_finite Ui n e h f = record { lower = f.lower; upper = h }
bounded_finite Lo n e h f = record { lower = h; upper = f.upper }
bounded_finite Li n e h f = record { lower = h; upper = f.upper }
bounded_finite Fx n e h f = record { lower = h; upper = h }
bounded_finite Fr n e h f = record { lower = none_finite; upper = none_finite }
bounded_finite Mi n e h f = record { lower = none_finite; upper = f.upper }
bounded_finite Pl n e h f = record { lower = f.lower; upper = none_finite }
bounded_finite Bv n e h f = binary_finite

finite_at : (lines : List BoundLine) (i : ℕ) (d : BoundLine) → i < length lines → AllByRecursion (λ b. ForSome b.number IsFinite) lines → ForSome (get_or lines i d).number IsFinite
finite_at [] i d h a = absurd (omega arith)
finite_at (b ∷ bs) zero d h a = a.0
finite_at (b ∷ bs) (suc i) d h a = finite_at bs i d (omega arith) a.1

pub bounded_step : (lines : List BoundLine) (i : ℕ) (d : BoundLine) (old new : Ends) → i < length lines → AllByRecursion (λ b. ForSome b.number IsFinite) lines
    → new ≡ bounded (get_or lines i d).kind (get_or lines i d).number old → AreFinite old → AreFinite new
bounded_step lines i d old new h a n f =
    subst AreFinite (sym n) (bounded_finite (get_or lines i d).kind (get_or lines i d).number old (finite_at lines i d h a) f)

pub bounds_step : (lines : List BoundLine) (i : ℕ) (d : BoundLine) (old new : Ends) → i < length lines → old ≡ fold (λ e b. bounded b.kind b.number e) starting (take i lines)
    → new ≡ bounded (get_or lines i d).kind (get_or lines i d).number old → new ≡ fold (λ e b. bounded b.kind b.number e) starting (take (i + 1) lines)
bounds_step lines i d old new h e n =
    n ∙ ap (bounded (get_or lines i d).kind (get_or lines i d).number) e ∙ sym (fold_more (λ e b. bounded b.kind b.number e) starting lines i d h)

-- The first of some tests that fails.

pub fails_first : {K : Type 0} (b : Bool) (k : K) (ts : List (Bool × K)) → b ≡ true → IsFirstFailing ((b, k) ∷ ts) k
fails_first b k ts e = record { before = []; behind = ts; are = ap (λ b. (b, k) ∷ ts) e; passed = tt }

pub fails_later : {K : Type 0} (b : Bool) (k j : K) (ts : List (Bool × K)) → b ≡ false → IsFirstFailing ts j → IsFirstFailing ((b, k) ∷ ts) j
fails_later b k j ts e h = record { before = (b, k) ∷ h.before; behind = h.behind; are = ap (λ ts. (b, k) ∷ ts) h.are; passed = (e, h.passed) }
