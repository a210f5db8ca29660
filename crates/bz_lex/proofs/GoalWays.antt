-- On the way to a goal: row by row a column of the goal takes the place of one that isn't.
use Rattle.std.specs.Prelude.{ℕ, ◌+◌, ◌<◌, ◌≤◌, ◌≡◌, ◌≢◌, ℤ, pos, ◌≤ℤ◌, Bool, false, List, length}
use Rattle.std.specs.List.{range_with_len}
use Rattle.std.proofs.Common.{ap, sym, subst, ◌∙◌, arith, inl, inr}
use Rattle.std.proofs.lemmas.Bool.{cases_eq}
use Rattle.bz_algebra.specs.Tableaus.{Equations, side, rows_of, IsWithin}
use Rattle.bz_algebra.proofs.Bounded.{all_or_some, by_lt}
use Rattle.bz_algebra.proofs.Pivoting.{put_off}
use Rattle.bz_algebra.proofs.Uniqueness.{column_row}
use Rattle.bz_tableau.specs.declared.answers.LpStop.{LpStop}
use Rattle.bz_tableau.specs.declared.programs.Lp.{Lp}
use Rattle.bz_tableau.specs.Laws.{place, HasRowsOfBasis}
use Rattle.bz_tableau.specs.Pivots.{IsPivoted}
use Rattle.bz_tableau.specs.Programs.{program_of, lp_equations}
use Rattle.bz_tableau.specs.Tables.{Table, IsTableauOf, shown, factor_column}
use Rattle.bz_tableau.proofs.RowsOfBasis.{rows_of_basis}
use Rattle.bz_lex.specs.Refusals.{IsFirstStop}
use Rattle.bz_lex.specs.Shown.{HasPoint, HasSlackPoint}
use Rattle.bz_tableau.specs.Stops.{IsPointBasis, IsOnTheWay}
use Rattle.bz_lex.specs.Ways.{IsEntryIn, StandsIn, Stays, IsBrought, IsRefusedWay}
use Rattle.bz_lex.proofs.RelaxedStarts.{slack_rows}
use Rattle.bz_lex.proofs.ShownBases.{few_rows, has_point}
use Rattle.bz_lex.proofs.TowardsTables.{slack_places, pivoted_count, pivoted_place, table_exchange, pivoted_within}
use Rattle.bz_lex.proofs.TruePivots.{MayPivot, true_way_stop}

-- a tableau whose columns are those of a basis without a negative right side has a point
pub within_point : (relaxed : Bool) (lp : Lp) (t : Table) (goal : List ℕ) → IsTableauOf relaxed lp t → IsPointBasis relaxed (program_of lp) goal → IsWithin (length t.basis) (place t.basis) (place goal) → HasPoint t
within_point relaxed lp t goal h g within = has_point relaxed lp t h right
  where
    few : Equations
    few = rows_of relaxed (program_of lp)

    rows : HasRowsOfBasis relaxed lp t
    rows = rows_of_basis relaxed lp t h

    among : IsWithin (length lp.rows) (place t.basis) (place goal)
    among i b = let f = within i (omega (arith, rows.count, b)) in (f.0, omega (arith, rows.count, f.1), f.2)

    right : (k : ℕ) → k < length lp.rows → (pos 0) ≤ℤ (shown t k (side (rows_of relaxed (program_of lp))))
    right k b =
        let f = among k b in
        let row = g.is_basis.is_basis.has_row f.0 f.1 in
        subst (λ (z : ℤ). (pos 0) ≤ℤ z)
        (sym (column_row (rows_of relaxed (program_of lp)) (place t.basis) (place goal) (shown t) row.0 k f.0 (few_rows relaxed lp t h) among b row.1 f.2 (side (rows_of relaxed (program_of lp))) (omega arith)))
        (g.right_sides f.0 row.0 f.1 row.1)

-- the tableau of the slacks has a point where no right side of the program is negative
pub slack_point : (lp : Lp) (t : Table) → IsTableauOf false lp t → t.basis ≡ range_with_len (lp_equations false lp).slack (length lp.rows) → HasSlackPoint lp → HasPoint t
slack_point lp t h e p = has_point false lp t h (λ k b. subst (λ (z : ℤ). (pos 0) ≤ℤ z) (sym (slack_rows few (place t.basis) (shown t) (few_rows false lp t h) slack k b).right) (p k b))
  where
    few : Equations
    few = rows_of false (program_of lp)

    rows : HasRowsOfBasis false lp t
    rows = rows_of_basis false lp t h

    slack : (i : ℕ) → i < length lp.rows → place t.basis i ≡ (rows_of false (program_of lp)).slack + i
    slack i b = slack_places false lp t h e i (omega (arith, b, rows.count)) ∙ ap (λ (n : ℕ). n + i) rows.slack

-- the first n rows have columns of the goal, and the others their slacks
pub record IsOnWay (n : ℕ) (relaxed : Bool) (lp : Lp) (goal : List ℕ) (t : Table) : Type 0 where
  pub tableau : IsTableauOf relaxed lp t
  pub brought : (i : ℕ) → i < n → StandsIn goal (place t.basis i)
  pub slacks : (i : ℕ) → n ≤ i → i < length t.basis → place t.basis i ≡ t.slack + i

pub way_first : (relaxed : Bool) (lp : Lp) (goal : List ℕ) (t : Table) → IsTableauOf relaxed lp t → t.basis ≡ range_with_len (lp_equations relaxed lp).slack (length lp.rows) → IsOnWay 0 relaxed lp goal t
way_first relaxed lp goal t h e = record { tableau = h; brought = λ i b. absurd (omega (arith, b)); slacks = λ i l b. slack_places relaxed lp t h e i b }

module _ (n : ℕ) (relaxed : Bool) (lp : Lp) (goal : List ℕ) (t : Table) (h : IsOnWay n relaxed lp goal t) (b : n < length t.basis) (g : IsPointBasis relaxed (program_of lp) goal) where
  rows : HasRowsOfBasis relaxed lp t
  rows = rows_of_basis relaxed lp t h.tableau

  many : length goal ≡ length t.basis
  many = g.is_basis.count ∙ sym rows.count

  pub goal_inside : (k : ℕ) → k < length goal → place goal k < factor_column t
  goal_inside k c = omega (arith, g.is_basis.is_basis.columns.in_range k (omega (arith, c, g.is_basis.count)), rows.slack, rows.count)

  -- a row that stays has a column of the goal
  stays : Stays t n goal → StandsIn goal (place t.basis n)
  stays (inl s) = s
  stays (inr z) = elim (all_or_some (length goal) (λ k. place goal k ≢ place t.basis n) (λ k. place goal k ≡ place t.basis n) (λ k. elim (cases_eq (place goal k) (place t.basis n)) [ inl e ↦ inr e | inr d ↦ inl d ])) [
    | inl away ↦ absurd (nowhere away)
    | inr f ↦ f
  ]
    where
      nowhere : ((k : ℕ) → k < length goal → place goal k ≢ place t.basis n) → ⊥
      nowhere away = let f = table_exchange relaxed lp t h.tableau (place goal) g.is_basis.is_basis n b (λ k c. away k (omega (arith, many, c))) in f.2 (z f.0 (omega (arith, many, f.1)))

  kept : StandsIn goal (place t.basis n) → IsOnWay (n + 1) relaxed lp goal t
  kept s = record {
    tableau = h.tableau;
    brought = λ i l. by_lt i n (λ m. h.brought i m) (λ m. subst (λ (x : ℕ). StandsIn goal (place t.basis x)) (reached i l m) s);
    slacks = λ i l c. h.slacks i (omega (arith, l)) c;
  }
    where
      reached : (i : ℕ) → i < n + 1 → n ≤ i → n ≡ i
      reached i l m = omega (arith, l, m)

  pivoted : (new : Table) (column : ℕ) → IsEntryIn t n goal column → IsPivoted t n column new → IsOnWay (n + 1) relaxed lp goal new
  pivoted new column f p = record {
    tableau = record { relaxed_is = p.relaxed ∙ h.tableau.relaxed_is; table = p.tableau (lp_equations relaxed lp) h.tableau.table };
    brought = pivoted_within t n new (place goal) (length goal) f.at (subst (λ (c : ℕ). IsPivoted t n c new) (sym f.column_is) p) b f.inside h.brought;
    slacks = λ i l c. pivoted_place t n column new p b i ∙ put_off (place t.basis) n column i (λ e. omega (arith, e, l)) ∙ h.slacks i (omega (arith, l)) (omega (arith, c, pivoted_count t n column new p)) ∙ ap (λ (x : ℕ). x + i) (sym p.slack);
  }

  pub way_next : (new : Table) → IsBrought t n goal new → IsOnWay (n + 1) relaxed lp goal new
  way_next new (inl s) = subst (λ (u : Table). IsOnWay (n + 1) relaxed lp goal u) (sym s.0) (kept (stays s.1))
  way_next new (inr f) = pivoted new f.0 f.1.enters f.2

  -- the rows are as many
  pub way_count : (new : Table) → IsBrought t n goal new → length new.basis ≡ length t.basis
  way_count new (inl s) = ap (λ (u : Table). length u.basis) s.0
  way_count new (inr f) = pivoted_count t n f.0 new f.2

  -- each pivot is on the way to the goal
  on_way : (i : ℕ) → i < length lp.rows → IsOnTheWay relaxed (program_of lp) goal (place t.basis i)
  on_way i c = by_lt i n
      (λ l. let f = h.brought i l in inr (f.0, omega (arith, f.1, g.is_basis.count), f.2))
      (λ l. inl (omega (arith, h.slacks i l (omega (arith, rows.count, c)), rows.slack)))

  may_pivot : (column : ℕ) → IsEntryIn t n goal column → MayPivot relaxed lp t n column goal
  may_pivot column f = record {
    row_inside = b;
    column_inside = subst (λ (c : ℕ). c < factor_column t) f.column_is (goal_inside f.at f.inside);
    nonzero = f.nonzero;
    goal_is = g;
    kind = inr (inr (record { entering = inr (f.at, omega (arith, f.inside, g.is_basis.count), f.column_is); basic = on_way }));
  }

  pub way_refused : (stop : LpStop) → IsRefusedWay t n goal stop → IsFirstStop lp stop
  way_refused stop w = true_way_stop relaxed lp t h.tableau n w.column goal stop (may_pivot w.column w.takes.enters) w.refusal

-- at the end the columns are those of the goal
pub way_within : (relaxed : Bool) (lp : Lp) (goal : List ℕ) (t : Table) → IsOnWay (length t.basis) relaxed lp goal t → IsPointBasis relaxed (program_of lp) goal → IsWithin (length t.basis) (place t.basis) (place goal)
way_within relaxed lp goal t h g i b = let f = h.brought i b in (f.0, omega (arith, f.1, g.is_basis.count, (rows_of_basis relaxed lp t h.tableau).count), f.2)

pub way_point : (relaxed : Bool) (lp : Lp) (goal : List ℕ) (t : Table) → IsOnWay (length t.basis) relaxed lp goal t → IsPointBasis relaxed (program_of lp) goal → HasPoint t
way_point relaxed lp goal t h g = within_point relaxed lp t goal h.tableau g (way_within relaxed lp goal t h g)
