-- The pivot: its rows are the tableau of the new basis, what it made of each row, and that each nonzero entry has its pivot over the whole numbers.
use Rattle.std.specs.Prelude.{ℕ, ◌<◌, ◌≤◌, ◌≡◌, ◌≢◌, ℤ, pos, ◌-ℤ◌, ◌*ℤ◌, neg_ℤ, ◌<ℤ◌}
use Rattle.std.proofs.Common.{refl, ap, sym, subst, ◌∙◌, arith, inl, inr}
use Rattle.std.proofs.Math.IntN.{*ℤ_comm}
use Rattle.std.proofs.lemmas.Bool.{cases_eq, eq-eqb, ne_eqb}
use Rattle.std.proofs.lemmas.Int.{ints}
use Rattle.bz_algebra.specs.Tableaus.{Equations, side, IsRow, AreColumns, IsTableau, IsBasis, put, IsNewRow, IsMoved, IsPivot, Made}
use Rattle.bz_algebra.proofs.Bounded.{choose}
use Rattle.bz_algebra.proofs.Combinations.{combination_sub, combination_scale, combination_divide}
use Rattle.bz_algebra.proofs.Divisors.{PrimitivePart, primitive_part, primitive_equal}
use Rattle.bz_algebra.proofs.Ring.{mul_zero, neg_mul, one_mul, other_zero, mul-ne, by_sign, positive-ne, neg_positive, cancel_lt_left, mul_positive}
use Rattle.bz_algebra.proofs.Uniqueness.{tableau_basis}

-- ---- the new basis
pub put_at : (basis : ℕ → ℕ) (r e : ℕ) → put basis r e r ≡ e
put_at basis r e = rw (eq-eqb r r refl)

pub put_off : (basis : ℕ → ℕ) (r e k : ℕ) → (k ≡ r → ⊥) → put basis r e k ≡ basis k
put_off basis r e k n = rw (ne_eqb k r n)

-- a property of each column of the new basis: of the new column, and of the others
put_each : (basis : ℕ → ℕ) (r e : ℕ) (P : ℕ → ℕ → Type 0) → P r e → ((k : ℕ) → (k ≡ r → ⊥) → P k (basis k)) → (k : ℕ) → P k (put basis r e k)
put_each basis r e P here off k = elim (cases_eq k r) [
  | inl g ↦ subst (λ (l : ℕ). P l (put basis r e l)) (sym g) (subst (P r) (sym (put_at basis r e)) here)
  | inr n ↦ subst (P k) (sym (put_off basis r e k n)) (off k n)
]

-- ---- numbers
same_sign : (h x a y : ℤ) → h *ℤ x ≡ a *ℤ y → (pos 0) <ℤ x → (pos 0) <ℤ a → (pos 0) <ℤ y → (pos 0) <ℤ h
same_sign h x a y e px pa py = cancel_lt_left x (pos 0) h (omega (arith, ints)) (omega (arith, ints, mul_positive a y pa py, mul_zero x, *ℤ_comm x h))

drop_zero : (h x a y b z : ℤ) → h *ℤ x ≡ (a *ℤ y) -ℤ (b *ℤ z) → z ≡ pos 0 → h *ℤ x ≡ a *ℤ y
drop_zero h x a y b z e f = omega (arith, ints, mul_zero b, ap (λ (t : ℤ). b *ℤ t) f)

no_difference : (h x a y b z : ℤ) → h ≢ pos 0 → h *ℤ x ≡ (a *ℤ y) -ℤ (b *ℤ z) → a *ℤ y ≡ b *ℤ z → x ≡ pos 0
no_difference h x a y b z n e f = other_zero h x n (omega (arith, ints))

both_zero : (a y b z : ℤ) → y ≡ pos 0 → z ≡ pos 0 → a *ℤ y ≡ b *ℤ z
both_zero a y b z e f = rw (e, f, mul_zero a, mul_zero b)

negated : (h x a y b z : ℤ) → h *ℤ x ≡ (a *ℤ y) -ℤ (b *ℤ z) → neg_ℤ h *ℤ x ≡ (neg_ℤ a *ℤ y) -ℤ (neg_ℤ b *ℤ z)
negated h x a y b z e = omega (arith, ints, neg_mul h x, neg_mul a y, neg_mul b z)

negated_two : (a y b z : ℤ) → a *ℤ y ≡ b *ℤ z → neg_ℤ a *ℤ y ≡ neg_ℤ b *ℤ z
negated_two a y b z e = omega (arith, ints, neg_mul a y, neg_mul b z)

-- ---- the new rows are the new basis's
module _ (s : Equations) (basis : ℕ → ℕ) (w : ℕ → ℕ → ℤ) (t : IsTableau s basis w) (r e : ℕ) (v : ℕ → ℕ → ℤ) (p : IsPivot s basis w r e v) where
  -- the new column stood at no other place
  fresh : (k : ℕ) → k < s.rows → (k ≡ r → ⊥) → (basis k ≡ e → ⊥)
  fresh k b n g = p.entry_nonzero (subst (λ (c : ℕ). w r c ≡ pos 0) g ((t.rows r p.row_in_range).cleared k b n))

  new_columns : AreColumns s (put basis r e)
  new_columns = record {
    in_range = λ i b. put_each basis r e (λ k c. k < s.rows → c < side s) (λ l. p.column_in_range) (λ k n l. t.columns.in_range k l) i b;
    different = λ i k b c g. put_each basis r e (λ l x. l < s.rows → x ≡ put basis r e k → l ≡ k)
        (λ l h. put_each basis r e (λ m y. m < s.rows → e ≡ y → r ≡ m) (λ m f. refl) (λ m n q f. absurd (fresh m q n (sym f))) k c h)
        (λ l n q h. put_each basis r e (λ m y. m < s.rows → basis l ≡ y → l ≡ m) (λ m f. absurd (fresh l q n f)) (λ m o u f. t.columns.different l m q u f) k c h)
        i b g;
  }

  -- a row at another place
  new_row : (i : ℕ) → i < s.rows → (i ≡ r → ⊥) → IsRow s (put basis r e) i (v i)
  new_row i b n = record {
    combination = combination_divide s q.times _ (v i) q.times_nonzero q.cleared.made (combination_sub s q.kept q.taken (w i) (w r) (t.rows i b).combination (t.rows r p.row_in_range).combination);
    primitive = q.primitive;
    positive = subst (λ (c : ℕ). (pos 0) <ℤ (v i c)) (sym (put_off basis r e i n)) q.positive;
    cleared = put_each basis r e (λ k c. k < s.rows → k ≢ i → v i c ≡ pos 0)
        (λ l m. no_difference q.times (v i e) q.kept (w i e) q.taken (w r e) q.times_nonzero (q.cleared.made e (omega (arith, p.column_in_range))) q.cleared.clears)
        (λ k o l m. no_difference q.times (v i (basis k)) q.kept (w i (basis k)) q.taken (w r (basis k)) q.times_nonzero
        (q.cleared.made (basis k) (omega (arith, t.columns.in_range k l)))
        (both_zero q.kept (w i (basis k)) q.taken (w r (basis k)) ((t.rows i b).cleared k l m) ((t.rows r p.row_in_range).cleared k l o)));
  }
    where
      q : IsNewRow s (w i) (w r) e (basis i) (v i)
      q = p.others i b n

  -- the pivot row
  moved_row : IsRow s (put basis r e) r (v r)
  moved_row = record {
    combination = combination_divide s q.times _ (v r) q.times_nonzero q.multiple (combination_scale s q.kept (w r) (t.rows r p.row_in_range).combination);
    primitive = q.primitive;
    positive = subst (λ (c : ℕ). (pos 0) <ℤ (v r c)) (sym (put_at basis r e)) q.positive;
    cleared = put_each basis r e (λ k c. k < s.rows → k ≢ r → v r c ≡ pos 0)
        (λ l m. absurd (m refl))
        (λ k o l m. other_zero q.times (v r (basis k)) q.times_nonzero (q.multiple (basis k) (omega (arith, t.columns.in_range k l)) ∙ ap (λ (x : ℤ). q.kept *ℤ x) ((t.rows r p.row_in_range).cleared k l m) ∙ mul_zero q.kept));
  }
    where
      q : IsMoved s (w r) e (v r)
      q = p.moved

  new_tableau : IsTableau s (put basis r e) v
  new_tableau = record {
    columns = new_columns;
    rows = λ i b. elim (cases_eq i r) [ inl g ↦ subst (λ (k : ℕ). IsRow s (put basis r e) k (v k)) (sym g) moved_row | inr n ↦ new_row i b n ];
  }

  -- what was made of another row
  made_of : (i : ℕ) → i < s.rows → (i ≡ r → ⊥) → Made s (w i) (w r) e (v i)
  made_of i b n = by_sign q.kept
      (λ h. record {
        times = neg_ℤ q.times;
        kept = neg_ℤ q.kept;
        taken = neg_ℤ q.taken;
        times_positive = same_sign (neg_ℤ q.times) (v i (basis i)) (neg_ℤ q.kept) (w i (basis i)) (negated_two q.times (v i (basis i)) q.kept (w i (basis i)) own) q.positive (neg_positive q.kept h) (t.rows i b).positive;
        kept_positive = neg_positive q.kept h;
        cleared = record {
          clears = negated_two q.kept (w i e) q.taken (w r e) q.cleared.clears;
          made = λ j l. negated q.times (v i j) q.kept (w i j) q.taken (w r j) (q.cleared.made j l);
        };
      })
      (λ z. absurd (q.kept_nonzero z))
      (λ h. record {
        times = q.times;
        kept = q.kept;
        taken = q.taken;
        times_positive = same_sign q.times (v i (basis i)) q.kept (w i (basis i)) own q.positive h (t.rows i b).positive;
        kept_positive = h;
        cleared = q.cleared;
      })
    where
      q : IsNewRow s (w i) (w r) e (basis i) (v i)
      q = p.others i b n

      own : q.times *ℤ v i (basis i) ≡ q.kept *ℤ w i (basis i)
      own = drop_zero q.times (v i (basis i)) q.kept (w i (basis i)) q.taken (w r (basis i))
          (q.cleared.made (basis i) (omega (arith, t.columns.in_range i b)))
          ((t.rows r p.row_in_range).cleared i b n)

-- the rows that a pivot gives are the tableau of the basis with the new column at the pivot's place
pub pivot : (s : Equations) (basis : ℕ → ℕ) (w : ℕ → ℕ → ℤ) (r e : ℕ) (v : ℕ → ℕ → ℤ) → IsTableau s basis w → IsPivot s basis w r e v → IsTableau s (put basis r e) v
pivot s basis w r e v t p = new_tableau s basis w t r e v p

-- with positive multipliers
pub made : (s : Equations) (basis : ℕ → ℕ) (w : ℕ → ℕ → ℤ) (r e : ℕ) (v : ℕ → ℕ → ℤ) → IsTableau s basis w → IsPivot s basis w r e v → (i : ℕ) → i < s.rows → i ≢ r → Made s (w i) (w r) e (v i)
made s basis w r e v t p i b n = made_of s basis w t r e v p i b n

-- where its entry is positive the pivot row stays as it is
pub moved_same : (s : Equations) (basis : ℕ → ℕ) (w : ℕ → ℕ → ℤ) (r e : ℕ) (v : ℕ → ℕ → ℤ) → IsTableau s basis w → IsPivot s basis w r e v → (pos 0) <ℤ (w r e) → (j : ℕ) → j ≤ side s → v r j ≡ w r j
moved_same s basis w r e v t p h = by_sign q.kept
    (λ n. primitive_equal s (v r) (w r) (neg_ℤ q.times) (neg_ℤ q.kept) q.primitive (t.rows r p.row_in_range).primitive
    (same_sign (neg_ℤ q.times) (v r e) (neg_ℤ q.kept) (w r e) (flipped e (omega (arith, p.column_in_range))) q.positive (neg_positive q.kept n) h)
    (neg_positive q.kept n) flipped)
    (λ z. absurd (q.kept_nonzero z))
    (λ n. primitive_equal s (v r) (w r) q.times q.kept q.primitive (t.rows r p.row_in_range).primitive
    (same_sign q.times (v r e) q.kept (w r e) (q.multiple e (omega (arith, p.column_in_range))) q.positive n h)
    n q.multiple)
  where
    q : IsMoved s (w r) e (v r)
    q = p.moved

    flipped : (j : ℕ) → j ≤ side s → neg_ℤ q.times *ℤ v r j ≡ neg_ℤ q.kept *ℤ w r j
    flipped j l = negated_two q.times (v r j) q.kept (w r j) (q.multiple j l)

-- ---- each nonzero entry has its pivot
own_entry : (a x b y : ℤ) → a ≢ pos 0 → (pos 0) <ℤ x → y ≡ pos 0 → (a *ℤ x) -ℤ (b *ℤ y) ≢ pos 0
own_entry a x b y n h e g = mul-ne a x n (positive-ne x h) (sym (omega (arith, ints, mul_zero b, ap (λ (t : ℤ). b *ℤ t) e)) ∙ g)

-- the rows of the basis with e at place r, whatever their size
pub pivot_exists : (s : Equations) (basis : ℕ → ℕ) (w : ℕ → ℕ → ℤ) (r e : ℕ) → IsTableau s basis w → r < s.rows → e < side s → w r e ≢ pos 0 → (v : ℕ → ℕ → ℤ) × IsPivot s basis w r e v
pivot_exists s basis w r e t b c n = (
  rows.0,
  record {
    row_in_range = b;
    column_in_range = c;
    entry_nonzero = n;
    others = λ i l o. (rows.1 i l).0 o;
    moved = (rows.1 r b).1 refl;
  },
)
  where
    other : (i : ℕ) → i < s.rows → (i ≡ r → ⊥) → PrimitivePart s (λ j. (w r e *ℤ w i j) -ℤ (w i e *ℤ w r j)) (basis i)
    other i l o = primitive_part s _ (basis i) (omega (arith, t.columns.in_range i l)) (own_entry (w r e) (w i (basis i)) (w i e) (w r (basis i)) n (t.rows i l).positive ((t.rows r b).cleared i l o))

    one : PrimitivePart s (w r) e
    one = primitive_part s (w r) e (omega arith) n

    is_moved : IsMoved s (w r) e one.vector
    is_moved = record {
      times = one.times;
      kept = pos 1;
      times_nonzero = one.nonzero;
      kept_nonzero = λ g. omega (arith, ints);
      multiple = λ j l. one.multiple j l ∙ sym (one_mul (w r j));
      primitive = one.primitive;
      positive = one.positive;
    }

    is_new : (i : ℕ) (l : i < s.rows) (o : i ≡ r → ⊥) → IsNewRow s (w i) (w r) e (basis i) (other i l o).vector
    is_new i l o = record {
      times = (other i l o).times;
      kept = w r e;
      taken = w i e;
      times_nonzero = (other i l o).nonzero;
      kept_nonzero = n;
      cleared = record { clears = *ℤ_comm (w r e) (w i e); made = (other i l o).multiple };
      primitive = (other i l o).primitive;
      positive = (other i l o).positive;
    }

    IsNew : ℕ → (ℕ → ℤ) → Type 0
    IsNew i x = ((i ≡ r → ⊥) → IsNewRow s (w i) (w r) e (basis i) x) × (i ≡ r → IsMoved s (w r) e x)

    rows : (v : ℕ → ℕ → ℤ) × ((i : ℕ) → i < s.rows → IsNew i (v i))
    rows = choose s.rows (λ j. pos 0) IsNew (λ i l. elim (cases_eq i r) [ inl g ↦ (one.vector, (λ o. absurd (o g), λ h. is_moved)) | inr o ↦ ((other i l o).vector, (λ m. is_new i l o, λ g. absurd (o g))) ])

-- the columns with e at place r are a basis
pub pivot_basis : (s : Equations) (basis : ℕ → ℕ) (w : ℕ → ℕ → ℤ) (r e : ℕ) → IsTableau s basis w → r < s.rows → e < side s → w r e ≢ pos 0 → IsBasis s (put basis r e)
pivot_basis s basis w r e t b c n = let f = pivot_exists s basis w r e t b c n in tableau_basis s (put basis r e) f.0 (pivot s basis w r e f.0 t f.1)
