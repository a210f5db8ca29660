-- The direction over all columns while the block's numbers are put at their columns one by one.
use Rattle.std.specs.Prelude.{ℕ, ◌+◌, ◌<◌, ◌≤◌, ◌≡◌, ◌≢◌, ℤ, pos, List, length, get_or, replicate}
use Rattle.std.proofs.Common.{ap, sym, subst, ◌∙◌, arith, inl, inr, set}
use Rattle.std.proofs.lemmas.Bool.{cases_eq}
use Rattle.std.proofs.lemmas.List.{ext_get_or, get_or-replicate, get_or-set_other, get_or-set_same, length-replicate, length-set}
use Rattle.bz_model.specs.Parting.{column_at, part_of, position_of, width_of}
use Rattle.bz_model.specs.Points.{coordinate}
use Rattle.bz_model.proofs.Positions.{column_at_is, column_of_position_in, position_within_part}
use Rattle.bz_event.specs.Floors.{placed}
use Rattle.bz_event.proofs.PlacedRays.{length-placed, placed_here, placed_there}

-- the first i numbers stand at their columns, and 0 elsewhere
pub record IsPlacedTo (part : List ℕ) (b : ℕ) (d : List ℤ) (i : ℕ) (ray : List ℤ) : Type 0 where
  pub count : length ray ≡ length part
  pub here : (j : ℕ) → j < length part → part_of part j ≡ b → position_of part j < i → coordinate ray j ≡ coordinate d (position_of part j)
  pub there : (j : ℕ) → j < length part → (part_of part j ≡ b → position_of part j < i → ⊥) → coordinate ray j ≡ pos 0

pub none_placed : (part : List ℕ) (b : ℕ) (d : List ℤ) (n : ℕ) (ray : List ℤ) → ray ≡ replicate n (pos 0) → n ≡ length part → IsPlacedTo part b d 0 ray
none_placed part b d n ray e l = record {
  count = ap length e ∙ length-replicate n (pos 0) ∙ l;
  here = λ j k p q. absurd (omega arith);
  there = λ j k p. ap (λ (xs : List ℤ). coordinate xs j) e ∙ get_or-replicate n j (pos 0) (pos 0) (omega arith);
}

pub one_placed : (part : List ℕ) (b : ℕ) (d : List ℤ) (i : ℕ) (ray : List ℤ) (column : ℕ) (x : ℤ) → i < width_of part b → column ≡ column_at part b i → x ≡ coordinate d i → IsPlacedTo part b d i ray → IsPlacedTo part b d (i + 1) (set ray column x)
one_placed part b d i ray column x l e v h = record {
  count = length-set ray column x ∙ h.count;
  here = λ j k p q. elim (cases_eq j column) [
    | inl t ↦ subst (λ (n : ℕ). coordinate (set ray column x) n ≡ coordinate d (position_of part n)) (sym t)
        (get_or-set_same ray column x (pos 0) (omega (arith, within, h.count)) ∙ v ∙ ap (coordinate d) (sym position))
    | inr n ↦ get_or-set_other ray column j x (pos 0) n ∙ h.here j k p (before j k p q n)
  ];
  there = λ j k p. get_or-set_other ray column j x (pos 0) (other j k p) ∙ h.there j k (λ g q. p g (omega arith));
}
  where
    within : column < length part
    within = subst (λ (n : ℕ). n < length part) (sym e) (column_at_is part b i l).within

    part_is : part_of part column ≡ b
    part_is = ap (part_of part) e ∙ (column_at_is part b i l).part_is

    position : position_of part column ≡ i
    position = ap (position_of part) e ∙ (column_at_is part b i l).position

    before : (j : ℕ) → j < length part → part_of part j ≡ b → position_of part j < i + 1 → j ≢ column → position_of part j < i
    before j k p q n = elim (cases_eq (position_of part j) i) [
      | inl t ↦ absurd (n (sym (column_of_position_in part b j k p) ∙ ap (column_at part b) t ∙ sym e))
      | inr m ↦ omega arith
    ]

    other : (j : ℕ) → j < length part → (part_of part j ≡ b → position_of part j < i + 1 → ⊥) → j ≢ column
    other j k p t = p (ap (part_of part) t ∙ part_is) (let q : position_of part j ≡ i = ap (position_of part) t ∙ position in omega arith)

pub all_placed : (part : List ℕ) (b : ℕ) (d : List ℤ) (i : ℕ) (ray : List ℤ) → width_of part b ≤ i → IsPlacedTo part b d i ray → ray ≡ placed part b d
all_placed part b d i ray l h = ext_get_or (pos 0) ray (placed part b d) (h.count ∙ sym (length-placed part b d)) each
  where
    each : (j : ℕ) → j < length ray → get_or ray j (pos 0) ≡ get_or (placed part b d) j (pos 0)
    each j k = let inside : j < length part = omega (arith, h.count) in elim (cases_eq (part_of part j) b) [
      | inl t ↦ h.here j inside t (let w : position_of part j < width_of part b = position_within_part part b j inside t in omega arith) ∙ sym (placed_here part b d j inside t)
      | inr n ↦ h.there j inside (λ t q. n t) ∙ sym (placed_there part b d j inside n)
    ]
