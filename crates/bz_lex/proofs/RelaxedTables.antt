-- The first phase in the numbers that a table shows: its start, that it has no ray, and its end.
use Rattle.std.specs.Prelude.{ℕ, suc, ◌+◌, ◌<◌, ◌≡◌, ◌≢◌, ℤ, pos, ◌*ℤ◌, ◌≤ℤ◌, ◌<ℤ◌, List, length, true, false}
use Rattle.std.proofs.Common.{refl, ap, sym, subst, ◌∙◌, arith}
use Rattle.std.proofs.lemmas.Int.{ints}
use Rattle.bz_algebra.specs.Sums.{upto}
use Rattle.bz_algebra.specs.Tableaus.{Program, Equations, side, equations_of, rows_of, factor, IsCombination, IsBasis, IsWithin}
use Rattle.bz_algebra.proofs.Bounded.{below_suc}
use Rattle.bz_algebra.proofs.SumLemmas.{upto_same}
use Rattle.bz_tableau.specs.declared.programs.Lp.{Lp}
use Rattle.bz_tableau.specs.Dense.{entry}
use Rattle.bz_tableau.specs.Laws.{place, HasRowsOfBasis}
use Rattle.bz_tableau.specs.Pivots.{IsPivoted}
use Rattle.bz_tableau.specs.Programs.{program_of, lp_equations}
use Rattle.bz_tableau.specs.Tables.{Table, IsTableOf, IsTableauOf, own, number, shown, factor_column}
use Rattle.bz_tableau.proofs.RowsOfBasis.{rows_of_basis}
use Rattle.bz_tableau.specs.Answers.{IsEmpty}
use Rattle.bz_lex.specs.Renumbering.{unrelaxed_basis}
use Rattle.bz_lex.specs.Shown.{HasPoint, HasLeastCost, AreMultipliersShown}
use Rattle.bz_lex.proofs.PhaseOne.{entering_rises, objective_right, s_right, empty_columns, empty_right}
use Rattle.bz_tableau.proofs.OneObjective.{objective_same}
use Rattle.bz_lex.proofs.RelaxedStarts.{relaxed_entries, lowest_right, zero_right, other_entry}
use Rattle.bz_lex.proofs.TablesOnTheWay.{shown_side, shown_column, own_last, own_before}
use Rattle.bz_lex.proofs.BasesUnrelaxed.{basis_unrelaxed, rights_unrelaxed}

-- ---- numbers that are shown
right_is : (s : Equations) (t : Table) (i : ℕ) → IsTableOf s t.slack t.basis t.rows → shown t i (factor_column t) ≡ number t.rows i (side s)
right_is s t i h = shown_side t i ∙ ap (number t.rows i) (omega (arith, h.slack_is, h.count))

-- after a pivot the rows are as many
same_count : (s : Equations) (t : Table) (r e : ℕ) (new : Table) → IsTableOf s t.slack t.basis t.rows → IsPivoted t r e new → length new.basis ≡ length t.basis
same_count s t r e new h p = omega (arith, h.count, (p.tableau s h).count)

-- so a point of the numbers is a point of the table
point_after : (s : Equations) (t : Table) (r e : ℕ) (new : Table) → IsTableOf s t.slack t.basis t.rows → IsPivoted t r e new → ((i : ℕ) → i < length t.basis → (pos 0) ≤ℤ (number new.rows i (side s))) → HasPoint new
point_after s t r e new h p f i b = subst (λ (z : ℤ). (pos 0) ≤ℤ z) (sym (right_is s new i (p.tableau s h))) (f i (omega (arith, same_count s t r e new h p)))

-- a pivot on a row whose right side is 0 keeps the point
pub zero_right_point : (s : Equations) (t : Table) (r e : ℕ) (new : Table) → IsTableOf s t.slack t.basis t.rows → IsPivoted t r e new → HasPoint t → shown t r (factor_column t) ≡ pos 0 → HasPoint new
zero_right_point s t r e new h p f z = point_after s t r e new h p
    (zero_right s (own t.slack t.basis) (number t.rows) r e (number new.rows) (length t.basis) h.tableau (p.pivot s h) (omega (arith, h.count)) (sym (right_is s t r h) ∙ z)
    (λ i b. subst (λ (x : ℤ). (pos 0) ≤ℤ x) (right_is s t i h) (f i b)))

module _ (lp : Lp) (t : Table) (h : IsTableauOf true lp t) where
  abbrev p : Program
  p = program_of lp

  rows : HasRowsOfBasis true lp t
  rows = rows_of_basis true lp t h

  right : (i : ℕ) → shown t i (factor_column t) ≡ number t.rows i (side (lp_equations true lp))
  right i = right_is (lp_equations true lp) t i h.table

  last_right : shown t (length t.basis) (factor_column t) ≡ number t.rows p.rows (side (lp_equations true lp))
  last_right = right (length t.basis) ∙ ap (λ (i : ℕ). number t.rows i (side (lp_equations true lp))) rows.count

  -- the column s
  s_shown : (i : ℕ) → shown t i lp.columns ≡ number t.rows i lp.columns
  s_shown i = shown_column t i lp.columns (λ e. omega (arith, rows.slack))

  point : HasPoint t → (i : ℕ) → i < p.rows → (pos 0) ≤ℤ (number t.rows i (side (lp_equations true lp)))
  point f i b = subst (λ (z : ℤ). (pos 0) ≤ℤ z) (right i) (f i (omega (arith, rows.count)))

  rises : (e : ℕ) → e < factor_column t → (shown t (length t.basis) e) <ℤ (pos 0) → (k : ℕ) × (k < length t.basis) × ((pos 0) <ℤ (shown t k e))
  rises e l f = (
    found.0,
    omega (arith, found.1, rows.count),
    subst (λ (z : ℤ). (pos 0) <ℤ z) (sym (shown_column t found.0 e (λ g. omega arith))) found.2,
  )
    where
      falls : (number t.rows p.rows e) <ℤ (pos 0)
      falls = subst (λ (z : ℤ). z <ℤ (pos 0)) (shown_column t (length t.basis) e (λ g. omega arith) ∙ ap (λ (i : ℕ). number t.rows i e) rows.count) f

      found : (k : ℕ) × (k < p.rows) × ((pos 0) <ℤ (number t.rows k e))
      found = entering_rises p (place t.basis) (number t.rows) rows.tableau e (omega (arith, rows.slack, rows.count)) falls

  lowest : (r : ℕ) (new : Table) → IsPivoted t r lp.columns new → ((i : ℕ) → i < length t.basis → place t.basis i ≡ t.slack + i) → r < length t.basis → (shown t r (factor_column t)) <ℤ (pos 0)
      → ((i : ℕ) → i < length t.basis → (shown t r (factor_column t)) ≤ℤ (shown t i (factor_column t))) → HasPoint new
  lowest r new q slacks b low least = point_after (lp_equations true lp) t r lp.columns new h.table q
      (lowest_right (lp_equations true lp) (own t.slack t.basis) (number t.rows) r lp.columns (number new.rows) (length t.basis) h.table.tableau (q.pivot (lp_equations true lp) h.table) (omega (arith, rows.count)) b
      (λ i c. relaxed_entries p (own t.slack t.basis) (number t.rows) h.table.tableau own_slack i (omega (arith, rows.count)))
      (subst (λ (z : ℤ). z <ℤ (pos 0)) (right r) low)
      (λ i c. omega (arith, ints, right r, right i, least i c)))
    where
      own_slack : (i : ℕ) → i < suc p.rows → own t.slack t.basis i ≡ (lp_equations true lp).slack + i
      own_slack = below_suc p.rows (λ i. own t.slack t.basis i ≡ (lp_equations true lp).slack + i)
          (λ i c. own_before t.slack t.basis i (omega (arith, rows.count)) ∙ slacks i (omega (arith, rows.count)) ∙ omega (arith, rows.slack))
          (own_last t.slack t.basis p.rows (sym rows.count) ∙ omega (arith, rows.slack, rows.count))

  other : (k : ℕ) → k < length t.basis → place t.basis k ≡ lp.columns → (i : ℕ) × (i < length t.basis) × (shown t k (t.slack + i) ≢ pos 0)
  other k b basic = let f = other_entry p (place t.basis) (number t.rows) rows.tableau k (omega (arith, rows.count)) basic in (
    f.0,
    omega (arith, f.1, rows.count),
    λ e. f.2 (ap (λ (x : ℕ). number t.rows k (x + f.0)) (sym rows.slack) ∙ sym (shown_column t k (t.slack + f.0) (λ g. omega (arith, f.1, rows.count))) ∙ e),
  )

  empty : (y : List ℤ) → HasLeastCost t → (shown t (length t.basis) (factor_column t)) <ℤ (pos 0) → AreMultipliersShown t y → IsEmpty p t.basis y
  empty y least low m = record {
    is_basis = record { count = rows.count; is_basis = rows.basis };
    multipliers = m.width ∙ rows.count;
    den = number t.rows p.rows (factor true p);
    objective = objective_same true p (place t.basis) (number t.rows p.rows (factor true p)) (number t.rows p.rows (factor true p)) (λ i. number t.rows p.rows ((lp_equations true lp).slack + i)) (entry y) rows.objective refl same;
    nonnegative = λ i b. subst (λ (z : ℤ). (pos 0) ≤ℤ z) (sym (m.numbers i (omega (arith, rows.count)))) (least (t.slack + i) (omega (arith, rows.count)));
    columns = λ j b. subst (λ (z : ℤ). (pos 0) ≤ℤ z) (sums (λ i. p.term i j)) (empty_columns p (number t.rows p.rows) combination (λ i c. before i (omega (arith, rows.slack)) (least i (omega (arith, rows.slack)))) j b);
    right = subst (λ (z : ℤ). z <ℤ (pos 0)) (sums p.rhs) (empty_right p (number t.rows p.rows) combination (subst (λ (z : ℤ). z <ℤ (pos 0)) last_right low));
  }
    where
      combination : IsCombination (equations_of true p) (number t.rows p.rows)
      combination = (rows.tableau.rows p.rows (omega arith)).combination

      before : (j : ℕ) → j < factor_column t → (pos 0) ≤ℤ (shown t (length t.basis) j) → (pos 0) ≤ℤ (number t.rows p.rows j)
      before j b g = subst (λ (z : ℤ). (pos 0) ≤ℤ z) (shown_column t (length t.basis) j (λ e. omega arith) ∙ ap (λ (i : ℕ). number t.rows i j) rows.count) g

      same : (i : ℕ) → i < p.rows → entry y i ≡ number t.rows p.rows ((lp_equations true lp).slack + i)
      same i b = m.numbers i (omega (arith, rows.count)) ∙ shown_column t (length t.basis) (t.slack + i) (λ e. omega (arith, rows.count)) ∙ (λ k. number t.rows (rows.count k) (rows.slack k + i))

      sums : (e : ℕ → ℤ) → upto p.rows (λ i. number t.rows p.rows ((lp_equations true lp).slack + i) *ℤ e i) ≡ upto p.rows (λ i. entry y i *ℤ e i)
      sums e = upto_same p.rows _ _ (λ i b. ap (λ (z : ℤ). z *ℤ e i) (sym (same i b)))

-- ---- what the first phase needs
-- after the pivot on s in the row of least right side, which is negative, the table of the slacks has a point
pub relaxed_point : (lp : Lp) (t : Table) → IsTableauOf true lp t → (r : ℕ) (new : Table) → IsPivoted t r lp.columns new → ((i : ℕ) → i < length t.basis → place t.basis i ≡ t.slack + i) → r < length t.basis → (shown t r (factor_column t)) <ℤ (pos 0)
    → ((i : ℕ) → i < length t.basis → (shown t r (factor_column t)) ≤ℤ (shown t i (factor_column t))) → HasPoint new
relaxed_point = lowest

-- where the objective row is negative, some row is positive
pub relaxed_rises : (lp : Lp) (t : Table) → IsTableauOf true lp t → (e : ℕ) → e < factor_column t → (shown t (length t.basis) e) <ℤ (pos 0) → (k : ℕ) × (k < length t.basis) × ((pos 0) <ℤ (shown t k e))
relaxed_rises = rises

-- the objective row's right side isn't positive
pub relaxed_right : (lp : Lp) (t : Table) → IsTableauOf true lp t → HasPoint t → (shown t (length t.basis) (factor_column t)) ≤ℤ (pos 0)
relaxed_right lp t h f = subst (λ (z : ℤ). z ≤ℤ (pos 0)) (sym (last_right lp t h)) (objective_right (program_of lp) (place t.basis) (number t.rows) (rows lp t h).tableau (point lp t h f))

-- where it is 0, so is that of the row of s
pub relaxed_s_right : (lp : Lp) (t : Table) → IsTableauOf true lp t → (k : ℕ) → k < length t.basis → place t.basis k ≡ lp.columns → shown t (length t.basis) (factor_column t) ≡ pos 0 → shown t k (factor_column t) ≡ pos 0
relaxed_s_right lp t h k b basic z = right lp t h k ∙ s_right (program_of lp) (place t.basis) (number t.rows) (rows lp t h).tableau k (omega (arith, (rows lp t h).count)) basic (sym (last_right lp t h) ∙ z)

-- and that row has another entry, in a slack
pub relaxed_other_entry : (lp : Lp) (t : Table) → IsTableauOf true lp t → (k : ℕ) → k < length t.basis → place t.basis k ≡ lp.columns → (i : ℕ) × (i < length t.basis) × (shown t k (t.slack + i) ≢ pos 0)
relaxed_other_entry = other

-- where no number of the objective row is negative but its right side is, the program has no point
pub relaxed_empty : (lp : Lp) (t : Table) → IsTableauOf true lp t → (y : List ℤ) → HasLeastCost t → (shown t (length t.basis) (factor_column t)) <ℤ (pos 0) → AreMultipliersShown t y → IsEmpty (program_of lp) t.basis y
relaxed_empty = empty

-- ---- from the relaxed program to the program
-- a basis without s, renumbered, is one of the program
pub table_unrelaxed : (lp : Lp) (t : Table) → IsTableauOf true lp t → ((i : ℕ) → i < length t.basis → place t.basis i ≢ lp.columns) → IsBasis (rows_of false (program_of lp)) (unrelaxed_basis lp.columns (place t.basis))
table_unrelaxed lp t h away = basis_unrelaxed (program_of lp) (place t.basis) (rows lp t h).basis (λ i b. away i (omega (arith, (rows lp t h).count)))

-- and the program's tableau of these columns, in whatever order, has a point where the relaxed one has
pub point_unrelaxed : (lp : Lp) (t u : Table) → IsTableauOf true lp t → IsTableauOf false lp u → ((i : ℕ) → i < length t.basis → place t.basis i ≢ lp.columns) → IsWithin (length u.basis) (place u.basis) (unrelaxed_basis lp.columns (place t.basis)) → HasPoint t → HasPoint u
point_unrelaxed lp t u h g away within f k b = subst (λ (z : ℤ). (pos 0) ≤ℤ z) (ap (shown u k) to_side)
    (rights_unrelaxed (program_of lp) (place t.basis) (place u.basis) (shown t) (shown u) (λ i c. away i (omega (arith, from.count))) from.rows
    (λ i c. subst (λ (z : ℤ). (pos 0) ≤ℤ z) (ap (shown t i) from_side) (f i (omega (arith, from.count))))
    (record { columns = to.basis.columns; rows = to.rows })
    (λ i c. let q = within i (omega (arith, to.count)) in (q.0, omega (arith, q.1, to.count), q.2))
    k (omega (arith, to.count)))
  where
    from : HasRowsOfBasis true lp t
    from = rows_of_basis true lp t h

    to : HasRowsOfBasis false lp u
    to = rows_of_basis false lp u g

    from_side : factor_column t ≡ side (rows_of true (program_of lp))
    from_side = omega (arith, from.slack, from.count)

    to_side : side (rows_of false (program_of lp)) ≡ factor_column u
    to_side = omega (arith, to.slack, to.count)
