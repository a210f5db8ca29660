-- The box of the whole model is one, and so is the integer column at a position.
use Rattle.std.specs.Prelude.{ℕ, zero, suc, ◌+◌, ◌<◌, ◌≤◌, ◌≡◌, ◌==◌, Bool, true, false, ℤ, pos, ◌+ℤ◌, ◌-ℤ◌, ◌*ℤ◌, ◌<ℤ◌, ◌≤ℤ◌, List, [], ◌∷◌, length, filter, get_or, slice_get, Option, Some, None, IfSome, IsSome}
use Rattle.std.specs.List.{AllByRecursion, enumerate_from}
use Rattle.std.proofs.Common.{refl, ap, sym, ◌∙◌, arith, inl, inr}
use Rattle.std.proofs.lemmas.Bool.{cases_Bool, eq-eqb, ne_eqb}
use Rattle.std.proofs.lemmas.Int.{ints}
use Rattle.std.proofs.lemmas.List.Sums.{position_or_len_is}
use Rattle.bz_algebra.proofs.Ring.{cancel_lt_right, le_antisym}
use Rattle.bz_num.specs.declared.Frac.{Frac}
use Rattle.bz_model.specs.declared.Column.{Column}
use Rattle.bz_model.specs.declared.Model.{Model}
use Rattle.bz_model.specs.Parting.{column_at, integers_of, position_of}
use Rattle.bz_model.specs.Points.{coordinate}
use Rattle.bz_model.proofs.MeetingParts.{all_both}
use Rattle.bz_num.specs.Rounding.{IsCeiling, IsFloor}
use Rattle.bz_tree.specs.Boxes.{Box, IsRootBox}
use Rattle.bz_tree.specs.Trees.{IsSplitOf}
use Rattle.bz_model.specs.Decomposed.{IsDecomposed}
use Rattle.bz_model.proofs.BoundedIntegers.{IsBoundedInMaster, integers_bounded}
use Rattle.bz_model.proofs.Numbered.{all_numbered, each_number}
use Rattle.bz_tree.specs.Integers.{integer_at}
use Rattle.bz_first.proofs.Facts.{all_at}

-- ---- the box
ceiling_least : (f : Frac) (a b : ℤ) → IsCeiling f a → IsCeiling f b → a ≤ℤ b
ceiling_least f a b h k =
    let some : pos 0 <ℤ f.den = f.positive in
    let low : ((a -ℤ pos 1) *ℤ f.den) <ℤ f.num = h.least in
    let high : f.num ≤ℤ (b *ℤ f.den) = k.at_least in
    let less : (a -ℤ pos 1) <ℤ b = cancel_lt_right (a -ℤ pos 1) b f.den (omega (arith, ints)) (omega (arith, ints)) in
    omega (arith, ints)

floor_greatest : (f : Frac) (a b : ℤ) → IsFloor f a → IsFloor f b → a ≤ℤ b
floor_greatest f a b h k =
    let some : pos 0 <ℤ f.den = f.positive in
    let low : (a *ℤ f.den) ≤ℤ f.num = h.at_most in
    let high : f.num <ℤ ((b +ℤ pos 1) *ℤ f.den) = k.greatest in
    let less : a <ℤ (b +ℤ pos 1) = cancel_lt_right a (b +ℤ pos 1) f.den (omega (arith, ints)) (omega (arith, ints)) in
    omega (arith, ints)

same_lower : (bound : Option Frac) (a b : ℤ) → IsSome bound → IfSome bound (λ f. IsCeiling f a) → IfSome bound (λ f. IsCeiling f b) → a ≡ b
same_lower (Some f) a b s h k = le_antisym a b (ceiling_least f a b h k) (ceiling_least f b a k h)
same_lower None a b s h k = absurd cc

same_upper : (bound : Option Frac) (a b : ℤ) → IsSome bound → IfSome bound (λ f. IsFloor f a) → IfSome bound (λ f. IsFloor f b) → a ≡ b
same_upper (Some f) a b s h k = le_antisym a b (floor_greatest f a b h k) (floor_greatest f b a k h)
same_upper None a b s h k = absurd cc

-- two lists of one length with the same number at each place
same_list : (xs ys : List ℤ) → length xs ≡ length ys → ((i : ℕ) → i < length xs → coordinate xs i ≡ coordinate ys i) → xs ≡ ys
same_list [] [] l h = refl
same_list [] (y ∷ ys) l h = absurd (omega arith)
same_list (x ∷ xs) [] l h = absurd (omega arith)
same_list (x ∷ xs) (y ∷ ys) l h =
    let first : x ≡ y = h 0 (omega arith) in
    let rest : xs ≡ ys = same_list xs ys (omega arith) (λ i b. h (suc i) (omega arith)) in
    λ k. first k ∷ rest k

-- the ends of a number are the same in both
abbrev SameEnds : Box → Box → ℕ → Type 0
SameEnds a b i = (coordinate a.lower i ≡ coordinate b.lower i) × (coordinate a.upper i ≡ coordinate b.upper i)

module _ (m : Model) (part : List ℕ) (d : IsDecomposed m part) where
  same_ends : (a b : Box) → IsRootBox m a → IsRootBox m b → AllByRecursion (λ e. SameEnds a b e.0) (enumerate_from 0 (integers_of m))
  same_ends a b r s = all_both (λ e. IsBoundedInMaster part e.1) (λ e. (IfSome e.1.1.lower (λ f. IsCeiling f (coordinate a.lower e.0)) × IfSome e.1.1.upper (λ f. IsFloor f (coordinate a.upper e.0))) × (IfSome e.1.1.lower (λ f. IsCeiling f (coordinate b.lower e.0)) × IfSome e.1.1.upper (λ f. IsFloor f (coordinate b.upper e.0)))) (λ e. SameEnds a b e.0) (enumerate_from 0 (integers_of m))
      (all_numbered (IsBoundedInMaster part) 0 (integers_of m) (integers_bounded m part d))
      (all_both _ _ _ (enumerate_from 0 (integers_of m)) r.rounded s.rounded (λ e g h. (g, h)))
      (λ e k g. (same_lower e.1.1.lower (coordinate a.lower e.0) (coordinate b.lower e.0) k.lower g.0.0 g.1.0, same_upper e.1.1.upper (coordinate a.upper e.0) (coordinate b.upper e.0) k.upper g.0.1 g.1.1))

  ends_at : (a b : Box) → IsRootBox m a → IsRootBox m b → (i : ℕ) → i < length (integers_of m) → SameEnds a b i
  ends_at a b r s i l = each_number (SameEnds a b) 0 (integers_of m) (same_ends a b r s) i (omega arith) (omega arith)

  pub one_root : (a b : Box) → IsRootBox m a → IsRootBox m b → a ≡ b
  one_root a b r s =
      let lower : a.lower ≡ b.lower = same_list a.lower b.lower (r.lowers ∙ sym s.lowers) (λ i l. (ends_at a b r s i (omega (arith, r.lowers))).0) in
      let upper : a.upper ≡ b.upper = same_list a.upper b.upper (r.uppers ∙ sym s.uppers) (λ i l. (ends_at a b r s i (omega (arith, r.uppers))).1) in
      λ k. record { lower = lower k; upper = upper k }

-- ---- the integer column at a position
-- the numbers rise, from n on
abbrev Rises : {X : Type 0} → ℕ → List (ℕ × X) → Type 0
Rises n [] = Unit {0}
Rises n (e ∷ es) = (n ≤ e.0) × Rises (suc e.0) es

rises_lower : {X : Type 0} (n k : ℕ) (es : List (ℕ × X)) → n ≤ k → Rises k es → Rises n es
rises_lower n k [] l h = tt
rises_lower n k (e ∷ es) l h = (omega (arith, h.0), h.1)

rises_kept : {X : Type 0} (p : ℕ × X → Bool) (n : ℕ) (xs : List X) → Rises n (filter p (enumerate_from n xs))
rises_kept p n [] = tt
rises_kept p n (x ∷ xs) =
    let rest : Rises (suc n) (filter p (enumerate_from (n + 1) xs)) = rises_lower (suc n) (n + 1) _ (omega arith) (rises_kept p (n + 1) xs) in
    elim (cases_Bool (p (n, x))) [
      | inl t ↦ rw t (omega arith, rest)
      | inr t ↦ rw t (rises_lower n (suc n) _ (omega arith) rest)
    ]

rises_at : {X : Type 0} (n : ℕ) (es : List (ℕ × X)) (i : ℕ) (d : ℕ × X) → Rises n es → i < length es → n ≤ (get_or es i d).0
rises_at n [] i d h l = absurd (omega arith)
rises_at n (e ∷ es) zero d h l = h.0
rises_at n (e ∷ es) (suc i) d h l = omega (arith, h.0, rises_at (suc e.0) es i d h.1 (omega arith))

rises_before : {X : Type 0} (n : ℕ) (es : List (ℕ × X)) (i k : ℕ) (d : ℕ × X) → Rises n es → i < k → k < length es → (get_or es i d).0 < (get_or es k d).0
rises_before n [] i k d h l b = absurd (omega arith)
rises_before n (e ∷ es) i zero d h l b = absurd (omega arith)
rises_before n (e ∷ es) zero (suc k) d h l b = omega (arith, rises_at (suc e.0) es k d h.1 (omega arith))
rises_before n (e ∷ es) (suc i) (suc k) d h l b = rises_before (suc e.0) es i k d h.1 (omega arith) (omega arith)

some_within : {X : Type 0} (xs : List X) (k : ℕ) (x : X) → slice_get xs k ≡ Some x → k < length xs
some_within [] k x h = absurd cc
some_within (y ∷ ys) zero x h = omega arith
some_within (y ∷ ys) (suc k) x h = let l : k < length ys = some_within ys k x h in omega arith

some_at : {X : Type 0} (xs : List X) (k : ℕ) (x d : X) → slice_get xs k ≡ Some x → get_or xs k d ≡ x
some_at [] k x d h = absurd cc
some_at (y ∷ ys) zero x d h = cc
some_at (y ∷ ys) (suc k) x d h = some_at ys k x d h

pub one_integer : (m : Model) (part : List ℕ) (k position : ℕ) (left right : ℤ) → IsDecomposed m part → IsSplitOf m part k position left right → integer_at m part position ≡ k
one_integer m part k position left right d s = position_or_len_is (λ e. position_of part e.0 == position) es k s.column (omega (arith, within)) others (λ l. here)
  where
    es : List (ℕ × Column)
    es = integers_of m

    within : k < length es
    within = some_within es k s.column s.is_column

    same : get_or es k s.column ≡ s.column
    same = some_at es k s.column s.column s.is_column

    here : (position_of part (get_or es k s.column).0 == position) ≡ true
    here = eq-eqb (position_of part (get_or es k s.column).0) position (ap (λ (e : ℕ × Column). position_of part e.0) same ∙ s.at_position)

    number : (i : ℕ) → i < length es → position_of part (get_or es i s.column).0 ≡ position → column_at part 0 position ≡ (get_or es i s.column).0
    number i l e = ap (column_at part 0) (sym e) ∙ (all_at (IsBoundedInMaster part) es i s.column (integers_bounded m part d) l).column

    others : (i : ℕ) → i < k → (position_of part (get_or es i s.column).0 == position) ≡ false
    others i l = ne_eqb (position_of part (get_or es i s.column).0) position (λ e.
        let one = number i (omega (arith, within)) e in
        let other = number k within (ap (λ (x : ℕ × Column). position_of part x.0) same ∙ s.at_position) in
        let less = rises_before 0 es i k s.column (rises_kept (λ e. e.1.integer) 0 m.columns) l within in
        omega arith)
