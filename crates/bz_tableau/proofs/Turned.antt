-- The table after a pivot.
use Rattle.std.proofs.Common.{◌≡◌, ◌≢◌, refl, ap, sym, subst, ◌∙◌, inl, inr, ℕ, suc, ◌+◌, ◌<◌, arith, ℤ, pos, Bool, List, length, set}
use Rattle.std.proofs.lemmas.Bool.{cases_eq, ne_eqb}
use Rattle.std.proofs.lemmas.List.{get_or-set_same, get_or-set_other, length-set}
use Rattle.bz_algebra.specs.Tableaus.{Equations, side, put, IsPivot, Made}
use Rattle.bz_algebra.proofs.Agreement.{tableau_same}
use Rattle.bz_algebra.proofs.Pivoting.{pivot, made, put_at, put_off}
use Rattle.bz_tableau.specs.Dense.{entry}
use Rattle.bz_tableau.specs.Pivots.{AreNextLines, IsPivoted}
use Rattle.bz_tableau.specs.Tables.{line, number, own, IsTableOf, IsSound}

-- the columns of the places after the pivot
own_put : (slack : ℕ) (basis : List ℕ) (r e i : ℕ) → r < length basis → own slack (set basis r e) i ≡ put (own slack basis) r e i
own_put slack basis r e i l = elim (cases_eq i r) [
  | inl t ↦ subst (λ (k : ℕ). own slack (set basis r e) k ≡ put (own slack basis) r e k) (sym t) (at_row ∙ sym (put_at (own slack basis) r e))
  | inr n ↦ off_row n ∙ sym (put_off (own slack basis) r e i n)
]
  where
    at_row : own slack (set basis r e) r ≡ e
    at_row = rw (length-set basis r e, ne_eqb r (length basis) (λ t. omega arith)) (get_or-set_same basis r e 0 l)

    off_row : (i ≡ r → ⊥) → own slack (set basis r e) i ≡ own slack basis i
    off_row n = rw (length-set basis r e, get_or-set_other basis r i e 0 n) refl

module _ (s : Equations) (slack : ℕ) (basis : List ℕ) (rows : List (List ℤ)) (r e : ℕ) (new : List (List ℤ)) (t : IsTableOf s slack basis rows) (h : AreNextLines slack basis rows r e new) (place : r < length basis) (column : e < slack + length basis) (nonzero : number rows r e ≢ pos 0) where
  pub is_pivot : IsPivot s (own slack basis) (number rows) r e (number new)
  is_pivot = record {
    row_in_range = omega (arith, t.count);
    column_in_range = omega (arith, t.slack_is, t.count);
    entry_nonzero = nonzero;
    others = λ i b n. ((h.each i (omega (arith, t.count, t.lines))).other n).made s (t.widths i (omega (arith, t.count, t.lines)));
    moved = ((h.each r (omega (arith, t.lines))).moved refl).moved s (t.widths r (omega (arith, t.lines)));
  }

  width_after : (i : ℕ) → i < length rows → length (line new i) ≡ suc (side s)
  width_after i l = elim (cases_eq i r) [
    | inl g ↦ subst (λ (k : ℕ). length (line new k) ≡ suc (side s)) (sym g) (((h.each r (omega (arith, t.lines))).moved refl).width ∙ t.widths r (omega (arith, t.lines)))
    | inr n ↦ ((h.each i l).other n).width ∙ t.widths i l
  ]

  pub table_after : IsTableOf s slack (set basis r e) new
  table_after = record {
    slack_is = t.slack_is;
    count = t.count ∙ ap suc (sym (length-set basis r e));
    lines = h.count ∙ t.lines ∙ ap suc (sym (length-set basis r e));
    widths = λ i l. width_after i (omega (arith, h.count));
    tableau = tableau_same s (put (own slack basis) r e) (own slack (set basis r e)) (number new) (number new)
        (pivot s (own slack basis) (number rows) r e (number new) t.tableau is_pivot)
        (λ i b. own_put slack basis r e i place)
        (λ i j b l. refl);
  }

  pub made_after : (i : ℕ) → i < length rows → i ≢ r → Made s (entry (line rows i)) (entry (line rows r)) e (entry (line new i))
  made_after i l n = made s (own slack basis) (number rows) r e (number new) t.tableau is_pivot i (omega (arith, t.count, t.lines)) n

-- the invariant holds again
pub sound_after : (slack : ℕ) (basis : List ℕ) (rows : List (List ℤ)) (r e : ℕ) (new : List (List ℤ)) → IsSound slack basis rows → AreNextLines slack basis rows r e new → r < length basis → e < slack + length basis → number rows r e ≢ pos 0 → IsSound slack (set basis r e) new
sound_after slack basis rows r e new s h p c n = record {
  small = omega (arith, s.small, length-set basis r e);
  system = s.system;
  table = table_after s.system slack basis rows r e new s.table h p c n;
}

pub pivoted : (relaxed : Bool) (slack : ℕ) (basis : List ℕ) (rows : List (List ℤ)) (r e : ℕ) (new : List (List ℤ)) → AreNextLines slack basis rows r e new → r < length basis → e < slack + length basis → number rows r e ≢ pos 0
    → IsPivoted (record { relaxed = relaxed; slack = slack; basis = basis; rows = rows }) r e (record { relaxed = relaxed; slack = slack; basis = set basis r e; rows = new })
pivoted relaxed slack basis rows r e new h p c n = record {
  relaxed = refl;
  slack = refl;
  basis = refl;
  narrow = λ i l m. ((h.each i l).other m).narrow;
  tableau = λ s t. table_after s slack basis rows r e new t h p c n;
  pivot = λ s t. is_pivot s slack basis rows r e new t h p c n;
  made = λ s t i l m. made_after s slack basis rows r e new t h p c n i l m;
}
