-- A phase, basis by basis: how it begins, that a pivot on the leaving row goes on, and that it ends.
use Rattle.std.specs.Prelude.{ℕ, suc, ◌+◌, ◌^◌, ◌<◌, ◌≤◌, ◌≡◌, ◌≢◌, ◌⊎◌, ℤ, pos, ◌≤ℤ◌, ◌<ℤ◌, List, [], ◌∷◌, length}
use Rattle.std.proofs.Common.{sym, subst, ◌∙◌, arith}
use Rattle.bz_algebra.specs.Tableaus.{Equations, side, IsTableau, IsPivot, NoTwoAlike}
use Rattle.bz_algebra.proofs.Uniqueness.{tableau_basis}
use Rattle.bz_lex.specs.Lexicographic.{order, AreInRange, read, IsAbove, IsLeaving, IsStage}
use Rattle.bz_lex.proofs.LexBases.{is_new, met_none, met_more, met_few}
use Rattle.bz_lex.proofs.LexOrder.{positive_start}
use Rattle.bz_lex.proofs.LexPivots.{kept_positive, moved_above}
use Rattle.bz_lex.proofs.LexStart.{order_in_range, first_rows_positive, one_above}

-- a phase begins at a basis whose right sides aren't negative
pub stage_first : (s : Equations) (first : ℕ → ℕ) (o : ℕ) (w : ℕ → ℕ → ℤ) → s.rows ≡ suc o → first o ≡ s.slack + o → IsTableau s first w → ((i : ℕ) → i < o → (pos 0) ≤ℤ (w i (side s))) → IsStage s first o first w []
stage_first s first o w last own t h = record {
  last = last;
  first_basis = tableau_basis s first w t;
  first_own = own;
  own = own;
  tableau = t;
  rows = first_rows_positive s first w o t (omega arith) h;
  before = met_none s (suc o) (order s first) o (s.slack + o) (w o);
}

module _ (s : Equations) (first : ℕ → ℕ) (o : ℕ) (basis : ℕ → ℕ) (w : ℕ → ℕ → ℤ) (met : List (ℕ → ℕ)) (g : IsStage s first o basis w met) where
  in_range : AreInRange s (suc o) (order s first)
  in_range k b = order_in_range s first g.first_basis.columns k (omega (arith, g.last))

  next : (r e : ℕ) (other : ℕ → ℕ) (v : ℕ → ℕ → ℤ) → IsPivot s basis w r e v → IsTableau s other v → other o ≡ s.slack + o → IsLeaving o (suc o) (order s first) w e r → (w o e) <ℤ (pos 0) → IsStage s first o other v (basis ∷ met)
  next r e other v p t own l h = record {
    last = g.last;
    first_basis = g.first_basis;
    first_own = g.first_own;
    own = own;
    tableau = t;
    rows = kept_positive s basis w r e v o (suc o) (order s first) g.tableau p (omega (arith, g.last)) in_range l g.rows;
    before = met_more s (suc o) (order s first) o basis w (v o) met g.last in_range g.tableau g.own
        (subst (λ (c : ℕ). (pos 0) <ℤ (v o c)) own (t.rows o (omega (arith, g.last))).positive)
        (subst (λ (c : ℕ). IsAbove (suc o) (order s first) c (v o) (w o)) g.own
        (moved_above s basis w r e v o (suc o) (order s first) g.tableau p (omega (arith, g.last)) (λ f. omega (arith, l.inside)) in_range l.positive h (g.rows r l.inside)))
        g.before;
  }

-- no right side is negative
pub stage_right : (s : Equations) (first : ℕ → ℕ) (o : ℕ) (basis : ℕ → ℕ) (w : ℕ → ℕ → ℤ) (met : List (ℕ → ℕ)) → IsStage s first o basis w met → (i : ℕ) → i < o → (pos 0) ≤ℤ (w i (side s))
stage_right s first o basis w met g i b = positive_start (suc o) (read (order s first) (w i)) (g.rows i b)

-- of two rows one is above the other, scaled to a column in which they aren't 0
pub stage_order : (s : Equations) (first : ℕ → ℕ) (o : ℕ) (basis : ℕ → ℕ) (w : ℕ → ℕ → ℤ) (met : List (ℕ → ℕ)) → IsStage s first o basis w met → (e i k : ℕ) → i < o → k < o → i ≢ k → w k e ≢ pos 0
    → IsAbove (suc o) (order s first) e (w i) (w k) ⊎ IsAbove (suc o) (order s first) e (w k) (w i)
stage_order s first o basis w met g e i k b c n m = one_above s first basis w o e i k g.first_basis g.tableau g.last (g.first_own ∙ sym g.own) b c n m

-- a pivot on the leaving row, in a column in which the objective row is negative, goes on
pub stage_next : (s : Equations) (first : ℕ → ℕ) (o : ℕ) (basis : ℕ → ℕ) (w : ℕ → ℕ → ℤ) (met : List (ℕ → ℕ)) → IsStage s first o basis w met → (r e : ℕ) (other : ℕ → ℕ) (v : ℕ → ℕ → ℤ) → IsPivot s basis w r e v → IsTableau s other v → other o ≡ s.slack + o
    → IsLeaving o (suc o) (order s first) w e r → (w o e) <ℤ (pos 0) → IsStage s first o other v (basis ∷ met)
stage_next = next

-- the bases met and the present one are at most 2 to the number of columns before the factor column
pub stage_few : (s : Equations) (first : ℕ → ℕ) (o : ℕ) (basis : ℕ → ℕ) (w : ℕ → ℕ → ℤ) (met : List (ℕ → ℕ)) → IsStage s first o basis w met → suc (length met) ≤ 2 ^ (s.slack + o)
stage_few s first o basis w met g = met_few s (suc o) (order s first) o basis w met g.last (in_range s first o basis w met g) g.tableau g.own g.before

-- no two of the bases met, the present one with them, have the same columns
pub stage_different : (s : Equations) (first : ℕ → ℕ) (o : ℕ) (basis : ℕ → ℕ) (w : ℕ → ℕ → ℤ) (met : List (ℕ → ℕ)) → IsStage s first o basis w met → NoTwoAlike o (basis ∷ met)
stage_different s first o basis w met g = (is_new s (suc o) (order s first) o (s.slack + o) basis w met g.last (in_range s first o basis w met g) g.tableau g.own g.before, g.before.different)
