-- A sum over columns, part by part: the sums over the positions of each part.
use Rattle.std.specs.Prelude.{ℕ, suc, ◌<◌, ◌≤◌, ◌≡◌, ◌⊎◌, cond, eqb, ℤ, pos, ◌+ℤ◌, ◌*ℤ◌, neg_ℤ, List, [], ◌∷◌, length, filter, if◌then◌else◌, ◌==◌}
use Rattle.std.specs.List.{AllByRecursion}
use Rattle.std.proofs.Common.{refl, ap, sym, subst, ◌∙◌, arith, inl, inr}
use Rattle.std.proofs.lemmas.Int.{ints}
use Rattle.std.proofs.lemmas.Bool.{cases_Bool, cases_eq, eq-eqb, eqb-true, ne_eqb}
use Rattle.bz_algebra.specs.Sums.{dot, coef, upto, AllBelow}
use Rattle.bz_algebra.proofs.Ring.{neg_mul, add_zero, zero_add}
use Rattle.bz_algebra.proofs.SumLemmas.{upto_add, upto_only, upto_zeros, upto_same}
use Rattle.bz_model.specs.Parting.{part_of, blocks_of, column_at, width_of, position_of, terms_in, negated}
use Rattle.bz_model.proofs.Positions.{column_at_is, column_of_position_in, position_within_part, part_within_blocks}

-- what f gives at the columns of a part, by position
abbrev pub at_part : List ℕ → ℕ → (ℕ → ℤ) → ℕ → ℤ
at_part part b f k = f (column_at part b k)

-- ---- the terms of a part
pub terms_in-here : (part : List ℕ) (b : ℕ) (e : ℕ × ℤ) (es : List (ℕ × ℤ)) → part_of part e.0 ≡ b → terms_in part b (e ∷ es) ≡ (position_of part e.0, e.1) ∷ terms_in part b es
terms_in-here part b e es h = rw (eq-eqb (part_of part e.0) b h)

pub terms_in-there : (part : List ℕ) (b : ℕ) (e : ℕ × ℤ) (es : List (ℕ × ℤ)) → (part_of part e.0 ≡ b → ⊥) → terms_in part b (e ∷ es) ≡ terms_in part b es
terms_in-there part b e es h = rw (ne_eqb (part_of part e.0) b h)

-- a part's terms have positions of the part
pub terms_in_within : (part : List ℕ) (b : ℕ) (es : List (ℕ × ℤ)) → AllBelow (length part) es → AllBelow (width_of part b) (terms_in part b es)
terms_in_within part b [] h = tt
terms_in_within part b (e ∷ es) h = elim (cases_eq (part_of part e.0) b) [
  | inl t ↦ rw (terms_in-here part b e es t) (position_within_part part b e.0 h.0 t, terms_in_within part b es h.1)
  | inr t ↦ rw (terms_in-there part b e es t) (terms_in_within part b es h.1)
]

-- ---- the sum of a part's terms at its positions
-- the entry's share of the sum of part b
share : List ℕ → (ℕ → ℤ) → ℕ × ℤ → ℕ → ℤ
share part f e b = cond (eqb (part_of part e.0) b) (e.1 *ℤ f e.0) (pos 0)

share-here : (part : List ℕ) (f : ℕ → ℤ) (e : ℕ × ℤ) (b : ℕ) → part_of part e.0 ≡ b → share part f e b ≡ e.1 *ℤ f e.0
unfolding share
share-here part f e b h = rw (eq-eqb (part_of part e.0) b h)

share-there : (part : List ℕ) (f : ℕ → ℤ) (e : ℕ × ℤ) (b : ℕ) → (part_of part e.0 ≡ b → ⊥) → share part f e b ≡ pos 0
unfolding share
share-there part f e b h = rw (ne_eqb (part_of part e.0) b h)

-- the sum of a part
part_sum : List ℕ → ℕ → List (ℕ × ℤ) → (ℕ → ℤ) → ℤ
part_sum part b es f = dot (terms_in part b es) (at_part part b f)

part_sum-cons : (part : List ℕ) (b : ℕ) (e : ℕ × ℤ) (es : List (ℕ × ℤ)) (f : ℕ → ℤ) → e.0 < length part → part_sum part b (e ∷ es) f ≡ share part f e b +ℤ part_sum part b es f
unfolding part_sum
part_sum-cons part b e es f h = elim (cases_eq (part_of part e.0) b) [
  | inl t ↦ rw (terms_in-here part b e es t, share-here part f e b t, column_of_position_in part b e.0 h t)
  | inr t ↦ rw (terms_in-there part b e es t, share-there part f e b t) (sym (zero_add _))
]

part_sum-nil : (part : List ℕ) (b : ℕ) (f : ℕ → ℤ) → part_sum part b [] f ≡ pos 0
unfolding part_sum
part_sum-nil part b f = refl

-- the sum of the terms of a part at its positions is the sum of these terms at their columns
pub dot_terms_in : (part : List ℕ) (b : ℕ) (es : List (ℕ × ℤ)) (f : ℕ → ℤ) → AllBelow (length part) es → dot (terms_in part b es) (at_part part b f) ≡ dot (filter (λ e. part_of part e.0 == b) es) f
dot_terms_in part b [] f h = refl
dot_terms_in part b (e ∷ es) f h = elim (cases_Bool (eqb (part_of part e.0) b)) [
  | inl t ↦ rw (t, column_of_position_in part b e.0 h.0 (eqb-true (part_of part e.0) b t)) (ap (λ (s : ℤ). (e.1 *ℤ f e.0) +ℤ s) (dot_terms_in part b es f h.1))
  | inr t ↦ rw t (dot_terms_in part b es f h.1)
]

-- a sum is the sum of the sums of all parts
sum_of_parts : (part : List ℕ) (es : List (ℕ × ℤ)) (f : ℕ → ℤ) → AllBelow (length part) es → dot es f ≡ upto (suc (blocks_of part)) (λ b. part_sum part b es f)
sum_of_parts part [] f h = sym (upto_zeros (suc (blocks_of part)) _ (λ b l. part_sum-nil part b f))
sum_of_parts part (e ∷ es) f h =
    let n = suc (blocks_of part) in
    let own : upto n (share part f e) ≡ e.1 *ℤ f e.0 =
    upto_only n (part_of part e.0) (share part f e) (let l : part_of part e.0 ≤ blocks_of part = part_within_blocks part e.0 in omega arith) (λ b l d. share-there part f e b (λ g. d (sym g)))
    ∙ share-here part f e (part_of part e.0) refl in
    rw (sum_of_parts part es f h.1, ← own)
    (sym (upto_add n (share part f e) (λ b. part_sum part b es f))
    ∙ upto_same n _ _ (λ b l. sym (part_sum-cons part b e es f h.0)))

pub dot_by_parts : (part : List ℕ) (es : List (ℕ × ℤ)) (f : ℕ → ℤ) → AllBelow (length part) es → dot es f ≡ upto (suc (blocks_of part)) (λ b. dot (terms_in part b es) (at_part part b f))
unfolding part_sum
dot_by_parts part es f h = sum_of_parts part es f h

-- ---- terms of the master and of one block
-- each term is in the master or in part b
abbrev pub AreIn : List ℕ → ℕ → List (ℕ × ℤ) → Type 0
AreIn part b es = AllByRecursion (λ e. (part_of part e.0 ≡ 0) ⊎ (part_of part e.0 ≡ b)) es

-- the master's terms, where b is a block
abbrev pub beside : List ℕ → ℕ → List (ℕ × ℤ) → List (ℕ × ℤ)
beside part b es = (if b == 0 then [] else terms_in part 0 es)

beside-block : (part : List ℕ) (b : ℕ) (es : List (ℕ × ℤ)) → (b ≡ 0 → ⊥) → beside part b es ≡ terms_in part 0 es
beside-block part b es d = rw (ne_eqb b 0 d)

in_master : (part : List ℕ) (es : List (ℕ × ℤ)) (f : ℕ → ℤ) → AllBelow (length part) es → AreIn part 0 es → dot es f ≡ part_sum part 0 es f
in_master part [] f h i = sym (part_sum-nil part 0 f)
in_master part (e ∷ es) f h i =
    let t : part_of part e.0 ≡ 0 = elim i.0 [ inl t ↦ t | inr t ↦ t ] in
    rw (part_sum-cons part 0 e es f h.0, share-here part f e 0 t, in_master part es f h.1 i.1)

in_block : (part : List ℕ) (b : ℕ) (es : List (ℕ × ℤ)) (f : ℕ → ℤ) → (b ≡ 0 → ⊥) → AllBelow (length part) es → AreIn part b es → dot es f ≡ part_sum part b es f +ℤ part_sum part 0 es f
in_block part b [] f d h i = rw (part_sum-nil part b f, part_sum-nil part 0 f)
in_block part b (e ∷ es) f d h i =
    let more = in_block part b es f d h.1 i.1 in
    rw (part_sum-cons part b e es f h.0, part_sum-cons part 0 e es f h.0)
    (elim i.0 [
      | inl t ↦ rw (share-here part f e 0 t, share-there part f e b (λ g. d (sym g ∙ t))) (omega (arith, ints))
      | inr t ↦ rw (share-here part f e b t, share-there part f e 0 (λ g. d (sym t ∙ g))) (omega (arith, ints))
    ])

-- the sum of terms of the master and of part b
pub dot_beside : (part : List ℕ) (b : ℕ) (es : List (ℕ × ℤ)) (f : ℕ → ℤ) → AllBelow (length part) es → AreIn part b es → dot (terms_in part b es) (at_part part b f) +ℤ dot (beside part b es) (at_part part 0 f) ≡ dot es f
unfolding part_sum
dot_beside part b es f h i = elim (cases_eq b 0) [
  | inl z ↦ subst (λ (c : ℕ). dot (terms_in part c es) (at_part part c f) +ℤ dot (beside part c es) (at_part part 0 f) ≡ dot es f) (sym z) (add_zero _ ∙ sym (in_master part es f h (subst (λ (c : ℕ). AreIn part c es) z i)))
  | inr d ↦ rw (beside-block part b es d) (sym (in_block part b es f d h i))
]

-- ---- the same terms the other way round
pub dot_negated : (es : List (ℕ × ℤ)) (f : ℕ → ℤ) → dot (negated es) f ≡ neg_ℤ (dot es f)
dot_negated [] f = refl
dot_negated (e ∷ es) f = let h = dot_negated es f in rw (neg_mul e.1 (f e.0)) (omega (arith, ints))

pub negated_within : (n : ℕ) (es : List (ℕ × ℤ)) → AllBelow n es → AllBelow n (negated es)
negated_within n [] h = tt
negated_within n (e ∷ es) h = (h.0, negated_within n es h.1)

pub negated_in : (part : List ℕ) (b : ℕ) (es : List (ℕ × ℤ)) → AreIn part b es → AreIn part b (negated es)
negated_in part b [] h = tt
negated_in part b (e ∷ es) h = (h.0, negated_in part b es h.1)

-- ---- the number at a position
-- the entry's share of the number at index j
mark : ℕ → ℤ → ℕ → ℤ
mark k v j = cond (eqb k j) v (pos 0)

mark-same : (k l : ℕ) (v : ℤ) (i j : ℕ) → (k ≡ i → l ≡ j) → (l ≡ j → k ≡ i) → mark k v i ≡ mark l v j
unfolding mark
mark-same k l v i j f g = elim (cases_eq k i) [
  | inl t ↦ rw (eq-eqb k i t, eq-eqb l j (f t))
  | inr d ↦ rw (ne_eqb k i d, ne_eqb l j (λ t. d (g t)))
]

mark-off : (k : ℕ) (v : ℤ) (j : ℕ) → (k ≡ j → ⊥) → mark k v j ≡ pos 0
unfolding mark
mark-off k v j d = rw (ne_eqb k j d)

coef-cons : (e : ℕ × ℤ) (es : List (ℕ × ℤ)) (j : ℕ) → coef (e ∷ es) j ≡ mark e.0 e.1 j +ℤ coef es j
unfolding mark
coef-cons e es j = refl

-- the number at a position of a part is the number at the column there
pub coef_terms_in : (part : List ℕ) (b : ℕ) (es : List (ℕ × ℤ)) (i : ℕ) → AllBelow (length part) es → i < width_of part b → coef (terms_in part b es) i ≡ coef es (column_at part b i)
coef_terms_in part b [] i h l = refl
coef_terms_in part b (e ∷ es) i h l =
    let at = column_at_is part b i l in
    let more = coef_terms_in part b es i h.1 l in
    rw (coef-cons e es (column_at part b i)) (elim (cases_eq (part_of part e.0) b) [
      | inl t ↦
          rw (terms_in-here part b e es t, coef-cons (position_of part e.0, e.1) (terms_in part b es) i, more, mark-same (position_of part e.0) e.0 e.1 i (column_at part b i) (λ g. sym (column_of_position_in part b e.0 h.0 t) ∙ ap (column_at part b) g) (λ g. ap (position_of part) g ∙ at.position))
      | inr d ↦
          rw (terms_in-there part b e es d, more, mark-off e.0 e.1 (column_at part b i) (λ g. d (ap (part_of part) g ∙ at.part_is))) (sym (zero_add _))
    ])
