-- Tables on the way of a phase: the laws of a stage, in the numbers that a table shows.
use Rattle.std.specs.Prelude.{ℕ, zero, suc, ◌+◌, ◌^◌, ◌<◌, ◌≤◌, ◌≡◌, ◌≢◌, ℤ, pos, ◌≤ℤ◌, ◌<ℤ◌, List, [], ◌∷◌, length}
use Rattle.std.proofs.Common.{refl, ap, sym, subst, ◌∙◌, arith}
use Rattle.std.proofs.lemmas.Bool.{eq-eqb, ne_eqb}
use Rattle.bz_algebra.specs.Tableaus.{Equations, side, NoTwoAlike}
use Rattle.bz_tableau.specs.Laws.{place}
use Rattle.bz_tableau.specs.Pivots.{IsPivoted}
use Rattle.bz_tableau.specs.Tables.{Table, IsTableOf, own, number, shown, factor_column}
use Rattle.bz_lex.specs.Lexicographic.{order, AreLevel, IsLeaving, IsStage}
use Rattle.bz_lex.specs.Shown.{HasPoint}
use Rattle.bz_lex.specs.TableStages.{shown_order, IsLeavingRow, IsTableStage}
use Rattle.bz_lex.proofs.LexLeaving.{leaving_same}
use Rattle.bz_lex.proofs.LexOrder.{level_same}
use Rattle.bz_lex.proofs.LexStart.{few_rows_not_level}
use Rattle.bz_lex.proofs.Stages.{stage_first, stage_next, stage_few, stage_different, stage_right}

-- ---- numbers that are shown
pub shown_side : (t : Table) (i : ℕ) → shown t i (factor_column t) ≡ number t.rows i (suc (factor_column t))
shown_side t i = rw (eq-eqb (factor_column t) (factor_column t) refl)

pub shown_column : (t : Table) (i j : ℕ) → j ≢ factor_column t → shown t i j ≡ number t.rows i j
shown_column t i j n = rw (ne_eqb j (factor_column t) n)

-- the columns of a table's places
pub own_last : (slack : ℕ) (basis : List ℕ) (i : ℕ) → i ≡ length basis → own slack basis i ≡ slack + length basis
own_last slack basis i e = rw (eq-eqb i (length basis) e)

pub own_before : (slack : ℕ) (basis : List ℕ) (i : ℕ) → i < length basis → own slack basis i ≡ place basis i
own_before slack basis i b = rw (ne_eqb i (length basis) (λ e. omega arith))

pub side_is : (s : Equations) (t : Table) → IsTableOf s t.slack t.basis t.rows → side s ≡ suc (factor_column t)
side_is s t h = omega (arith, h.slack_is, h.count)

module _ (s : Equations) (first : List ℕ) (t : Table) (met : List (ℕ → ℕ)) (g : IsTableStage s first t met) where
  -- a column of the first basis isn't the factor column
  pub not_factor : (k : ℕ) → k < length t.basis → place first k ≢ factor_column t
  not_factor k b e = omega (
    arith,
    g.stage.first_basis.columns.different k (length t.basis) (omega (arith, g.stage.last)) (omega (arith, g.stage.last))
        (own_before t.slack first k (omega (arith, g.count)) ∙ e ∙ sym (own_last t.slack first (length t.basis) (sym g.count) ∙ ap (λ (n : ℕ). t.slack + n) g.count)),
  )

  -- the order shows the same numbers
  same_place : (i k : ℕ) → k < suc (length t.basis) → shown t i (shown_order t first k) ≡ number t.rows i (order s (own t.slack first) k)
  same_place i zero b = shown_side t i ∙ ap (number t.rows i) (sym (side_is s t g.table))
  same_place i (suc k) b = shown_column t i (place first k) (not_factor k (omega arith)) ∙ ap (number t.rows i) (sym (own_before t.slack first k (omega (arith, g.count))))

  -- so rows are level alike
  same_level : (e i k : ℕ) → e ≢ factor_column t → AreLevel (suc (length t.basis)) (shown_order t first) e (shown t i) (shown t k) → AreLevel (suc (length t.basis)) (order s (own t.slack first)) e (number t.rows i) (number t.rows k)
  same_level e i k n z = level_same (suc (length t.basis)) (shown_order t first) (order s (own t.slack first)) e e (shown t i) (shown t k) (number t.rows i) (number t.rows k)
      (sym (shown_column t i e n)) (sym (shown_column t k e n)) (λ l b. sym (same_place i l b)) (λ l b. sym (same_place k l b)) z

  leaving : (e r : ℕ) → e ≢ factor_column t → IsLeavingRow t first e r → IsLeaving (length t.basis) (suc (length t.basis)) (order s (own t.slack first)) (number t.rows) e r
  leaving e r n = leaving_same (length t.basis) (suc (length t.basis)) (shown_order t first) (order s (own t.slack first)) (shown t) (number t.rows) e r (λ i b. sym (shown_column t i e n)) (λ i k b c. sym (same_place i k c))

  module _ (r e : ℕ) (new : Table) (p : IsPivoted t r e new) (n : e ≢ factor_column t) (l : IsLeavingRow t first e r) (h : (shown t (length t.basis) e) <ℤ (pos 0)) where
    new_table : IsTableOf s new.slack new.basis new.rows
    new_table = p.tableau s g.table

    same_count : length new.basis ≡ length t.basis
    same_count = omega (arith, new_table.count, g.table.count)

    new_stage : IsStage s (own t.slack first) (length t.basis) (own new.slack new.basis) (number new.rows) (own t.slack t.basis ∷ met)
    new_stage = stage_next s (own t.slack first) (length t.basis) (own t.slack t.basis) (number t.rows) met g.stage r e (own new.slack new.basis) (number new.rows) (p.pivot s g.table) new_table.tableau
        (own_last new.slack new.basis (length t.basis) (sym same_count) ∙ omega (arith, same_count, new_table.slack_is))
        (leaving e r n l)
        (subst (λ (z : ℤ). z <ℤ (pos 0)) (shown_column t (length t.basis) e n) h)

    next : IsTableStage s first new (own t.slack t.basis ∷ met)
    next = record {
      table = new_table;
      count = g.count ∙ sym same_count;
      stage = subst (λ (k : ℕ). IsStage s (own k first) (length new.basis) (own new.slack new.basis) (number new.rows) (own t.slack t.basis ∷ met)) (sym p.slack)
          (subst (λ (k : ℕ). IsStage s (own t.slack first) k (own new.slack new.basis) (number new.rows) (own t.slack t.basis ∷ met)) (sym same_count) new_stage);
    }

-- a phase begins at a table with a point
pub table_first : (s : Equations) (t : Table) → IsTableOf s t.slack t.basis t.rows → HasPoint t → IsTableStage s t.basis t []
table_first s t h p = record {
  table = h;
  count = refl;
  stage = stage_first s (own t.slack t.basis) (length t.basis) (number t.rows) h.count (own_last t.slack t.basis (length t.basis) refl ∙ omega (arith, h.slack_is)) h.tableau
      (λ i b. subst (λ (z : ℤ). (pos 0) ≤ℤ z) (shown_side t i ∙ ap (number t.rows i) (sym (side_is s t h))) (p i b));
}

-- each table of a phase has a point
pub table_point : (s : Equations) (first : List ℕ) (t : Table) (met : List (ℕ → ℕ)) → IsTableStage s first t met → HasPoint t
table_point s first t met g i b = subst (λ (z : ℤ). (pos 0) ≤ℤ z) (ap (number t.rows i) (side_is s t g.table) ∙ sym (shown_side t i)) (stage_right s (own t.slack first) (length t.basis) (own t.slack t.basis) (number t.rows) met g.stage i b)

-- no two rows are level, scaled to a column in which the second isn't 0
pub table_not_level : (s : Equations) (first : List ℕ) (t : Table) (met : List (ℕ → ℕ)) → IsTableStage s first t met → (e i k : ℕ) → e ≢ factor_column t → i < length t.basis → k < length t.basis → i ≢ k → shown t k e ≢ pos 0
    → AreLevel (suc (length t.basis)) (shown_order t first) e (shown t i) (shown t k) → ⊥
table_not_level s first t met g e i k n b c d m z = few_rows_not_level s (own t.slack first) (own t.slack t.basis) (number t.rows) (length t.basis) e i k g.stage.first_basis g.stage.tableau g.stage.last (g.stage.first_own ∙ sym g.stage.own) b c d
    (λ f. m (shown_column t k e n ∙ f)) (same_level s first t met g e i k n z)

-- a pivot on the leaving row, in a column in which the objective row is negative, goes on
pub table_next : (s : Equations) (first : List ℕ) (t : Table) (met : List (ℕ → ℕ)) → IsTableStage s first t met → (r e : ℕ) (new : Table) → IsPivoted t r e new → e ≢ factor_column t → IsLeavingRow t first e r → (shown t (length t.basis) e) <ℤ (pos 0) → IsTableStage s first new (own t.slack t.basis ∷ met)
table_next = next

-- the bases met and the present one are at most 2 to the number of columns
pub table_few : (s : Equations) (first : List ℕ) (t : Table) (met : List (ℕ → ℕ)) → IsTableStage s first t met → suc (length met) ≤ 2 ^ factor_column t
table_few s first t met g = subst (λ (n : ℕ). suc (length met) ≤ 2 ^ (n + length t.basis)) g.table.slack_is (stage_few s (own t.slack first) (length t.basis) (own t.slack t.basis) (number t.rows) met g.stage)

-- no two of the bases met, the table's own with them, have the same columns
pub table_different : (s : Equations) (first : List ℕ) (t : Table) (met : List (ℕ → ℕ)) → IsTableStage s first t met → NoTwoAlike (length t.basis) (own t.slack t.basis ∷ met)
table_different s first t met g = stage_different s (own t.slack first) (length t.basis) (own t.slack t.basis) (number t.rows) met g.stage
