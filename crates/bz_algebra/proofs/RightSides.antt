-- Programs that differ in their right sides alone have the same bases and objective rows: of a row only its last entry moves, and it is primitive by its multipliers.
use Rattle.std.specs.Prelude.{ℕ, suc, ◌+◌, ◌<◌, ◌≡◌, ℤ, pos, ◌+ℤ◌, ◌*ℤ◌, ◌<ℤ◌, Bool, true, false, unsigned_abs}
use Rattle.std.specs.Int.{◌∣◌}
use Rattle.std.proofs.Common.{refl, ap, sym, subst, ◌∙◌, arith, inl, inr}
use Rattle.std.proofs.lemmas.Bool.{cases_eq, eq-eqb, ne_eqb}
use Rattle.bz_algebra.specs.Sums.{upto}
use Rattle.bz_algebra.specs.Tableaus.{Program, Equations, side, row_entry, objective_entry, equations_of, rows_of, IsCombination, IsRow, AreColumns, IsBasis, IsObjectiveRow, DifferInRightSides}
use Rattle.bz_algebra.proofs.Bounded.{with_last, with_last_at, with_last_before}
use Rattle.bz_algebra.proofs.Divisors.{multipliers_primitive}
use Rattle.bz_algebra.proofs.SumLemmas.{upto_same}

-- ---- equations that differ in their right sides
record HaveSameEntries (s t : Equations) : Type 0 where
  pub rows : t.rows ≡ s.rows
  pub slack : t.slack ≡ s.slack
  pub entries : (i j : ℕ) → i < s.rows → j < s.slack → t.entry i j ≡ s.entry i j

module _ (s t : Equations) (same : HaveSameEntries s t) where
  -- the row with the same multipliers
  moved : (ℕ → ℤ) → ℕ → ℤ
  moved v = with_last (side t) v (upto t.rows (λ i. v (t.slack + i) *ℤ t.right i))

  side_is : side t ≡ side s
  side_is k = same.slack k + same.rows k

  moved_before : (v : ℕ → ℤ) (j : ℕ) → j < side t → moved v j ≡ v j
  unfolding moved
  moved_before v j b = with_last_before (side t) v (upto t.rows (λ i. v (t.slack + i) *ℤ t.right i)) j b

  moved_slack : (v : ℕ → ℤ) (i : ℕ) → i < t.rows → moved v (t.slack + i) ≡ v (s.slack + i)
  moved_slack v i b = moved_before v (t.slack + i) (omega arith) ∙ (λ k. v (same.slack k + i))

  moved_combination : (v : ℕ → ℤ) → IsCombination s v → IsCombination t (moved v)
  unfolding moved
  moved_combination v c = record {
    columns = λ j b. moved_before v j (omega arith) ∙ c.columns j (omega (arith, same.slack))
        ∙ ap (λ (n : ℕ). upto n (λ i. v (s.slack + i) *ℤ s.entry i j)) (sym same.rows)
        ∙ upto_same t.rows (λ i. v (s.slack + i) *ℤ s.entry i j) (λ i. moved v (t.slack + i) *ℤ t.entry i j)
        (λ i l k. sym (moved_slack v i l) k *ℤ sym (same.entries i j (omega (arith, same.rows)) (omega (arith, same.slack))) k);
    right = with_last_at (side t) v (upto t.rows (λ i. v (t.slack + i) *ℤ t.right i))
        ∙ upto_same t.rows (λ i. v (t.slack + i) *ℤ t.right i) (λ i. moved v (t.slack + i) *ℤ t.right i) (λ i l k. sym (moved_before v (t.slack + i) (omega arith)) k *ℤ t.right i);
  }

  moved_row : (basis : ℕ → ℕ) (i : ℕ) (v : ℕ → ℤ) → AreColumns s basis → i < s.rows → IsRow s basis i v → IsRow t basis i (moved v)
  moved_row basis i v a b r = record {
    combination = moved_combination v r.combination;
    primitive = λ d h. multipliers_primitive s v r.combination r.primitive d (λ k l. subst (λ (x : ℤ). d ∣ unsigned_abs x) (moved_slack v k (omega (arith, same.rows))) (h (t.slack + k) (omega (arith, same.rows))));
    positive = subst (λ (x : ℤ). (pos 0) <ℤ x) (sym (basic i b)) r.positive;
    cleared = λ k l n. basic k (omega (arith, same.rows)) ∙ r.cleared k (omega (arith, same.rows)) n;
  }
    where
      basic : (k : ℕ) → k < s.rows → moved v (basis k) ≡ v (basis k)
      basic k l = moved_before v (basis k) (omega (arith, side_is, a.in_range k l))

  moved_basis : (basis : ℕ → ℕ) → IsBasis s basis → IsBasis t basis
  moved_basis basis b = record {
    columns = record {
      in_range = λ i l. omega (arith, side_is, b.columns.in_range i (omega (arith, same.rows)));
      different = λ i k l m e. b.columns.different i k (omega (arith, same.rows)) (omega (arith, same.rows)) e;
    };
    has_row = λ i l. let r = b.has_row i (omega (arith, same.rows)) in (moved r.0, moved_row basis i r.0 b.columns (omega (arith, same.rows)) r.1);
  }

-- ---- programs
slack_same : (relaxed : Bool) (p q : Program) → DifferInRightSides p q → (rows_of relaxed q).slack ≡ (rows_of relaxed p).slack
slack_same true p q h = ap suc h.columns
slack_same false p q h = h.columns

entry_same : (relaxed : Bool) (p q : Program) → DifferInRightSides p q → (i j : ℕ) → i < p.rows → j < (rows_of relaxed p).slack → row_entry relaxed q i j ≡ row_entry relaxed p i j
entry_same true p q h i j b l = elim (cases_eq j p.columns) [
  | inl e ↦ rw (eq-eqb j p.columns e, eq-eqb j q.columns (e ∙ sym h.columns)) refl
  | inr n ↦ rw (ne_eqb j p.columns n, ne_eqb j q.columns (λ e. n (e ∙ h.columns))) (h.terms i j b (omega arith))
]
entry_same false p q h i j b l = h.terms i j b l

objective_entry_same : (relaxed : Bool) (p q : Program) → DifferInRightSides p q → (j : ℕ) → j < (rows_of relaxed p).slack → objective_entry relaxed q j ≡ objective_entry relaxed p j
objective_entry_same true p q h j l = elim (cases_eq j p.columns) [
  | inl e ↦ rw (eq-eqb j p.columns e, eq-eqb j q.columns (e ∙ sym h.columns)) refl
  | inr n ↦ rw (ne_eqb j p.columns n, ne_eqb j q.columns (λ e. n (e ∙ h.columns))) refl
]
objective_entry_same false p q h j l = h.cost j l

-- a basis of the one program is a basis of the other
pub basis_of_other : (relaxed : Bool) (p q : Program) (basis : ℕ → ℕ) → DifferInRightSides p q → IsBasis (rows_of relaxed p) basis → IsBasis (rows_of relaxed q) basis
basis_of_other relaxed p q basis h b = moved_basis (rows_of relaxed p) (rows_of relaxed q) (record { rows = h.rows; slack = slack_same relaxed p q h; entries = entry_same relaxed p q h }) basis b

pub differ_back : (p q : Program) → DifferInRightSides p q → DifferInRightSides q p
differ_back p q h = record {
  columns = sym h.columns;
  rows = sym h.rows;
  terms = λ i j b l. sym (h.terms i j (omega (arith, h.rows)) (omega (arith, h.columns)));
  cost = λ j l. sym (h.cost j (omega (arith, h.columns)));
}

-- and so is an objective row
pub objective_of_other : (relaxed : Bool) (p q : Program) (basis : ℕ → ℕ) (d : ℤ) (y : ℕ → ℤ) → DifferInRightSides p q → IsObjectiveRow relaxed p basis d y → IsObjectiveRow relaxed q basis d y
objective_of_other relaxed p q basis d y h o = record {
  positive = o.positive;
  primitive = λ g l m. o.primitive g l (λ i b. m i (omega (arith, h.rows)));
  columns = λ k b l. (λ i. terms_same k b l i +ℤ (d *ℤ objective_entry_same relaxed p q h (basis k) (inside k l) i)) ∙ o.columns k (omega (arith, h.rows)) (inside k l);
  slacks = λ k i b c e. o.slacks k i (omega (arith, h.rows)) (omega (arith, h.rows)) (e ∙ (λ n. slack_same relaxed p q h n + i));
}
  where
    inside : (k : ℕ) → basis k < (equations_of relaxed q).slack → basis k < (rows_of relaxed p).slack
    inside k l = subst (λ (n : ℕ). basis k < n) (slack_same relaxed p q h) l

    terms_same : (k : ℕ) → k < q.rows → basis k < (equations_of relaxed q).slack → upto q.rows (λ i. y i *ℤ row_entry relaxed q i (basis k)) ≡ upto p.rows (λ i. y i *ℤ row_entry relaxed p i (basis k))
    terms_same k b l = upto_same q.rows (λ i. y i *ℤ row_entry relaxed q i (basis k)) (λ i. y i *ℤ row_entry relaxed p i (basis k)) (λ i c n. y i *ℤ entry_same relaxed p q h i (basis k) (omega (arith, h.rows)) (inside k l) n)
        ∙ ap (λ (n : ℕ). upto n (λ i. y i *ℤ row_entry relaxed p i (basis k))) h.rows
