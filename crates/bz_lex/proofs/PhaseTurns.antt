-- The turns of a phase: that each goes on, that no basis comes twice, and that a refused pivot is one that a solution makes.
use Rattle.std.specs.Prelude.{ℕ, suc, ◌+◌, ◌-◌, ◌^◌, ◌<◌, ◌≤◌, ◌≡◌, ℤ, pos, ◌-ℤ◌, ◌*ℤ◌, ◌≤ℤ◌, ◌<ℤ◌, Bool, true, List, [], ◌∷◌, length, map, Result, Ok, Err, IsErrAnd, IfErr}
use Rattle.std.proofs.Common.{refl, ap, sym, subst, ◌∙◌, arith, inl, inr}
use Rattle.std.proofs.Math.IntN.{*ℤ_comm}
use Rattle.std.proofs.lemmas.Bool.{cases_eq}
use Rattle.std.proofs.lemmas.Int.{ints}
use Rattle.std.proofs.lemmas.List.{length-map, length-set}
use Rattle.bz_algebra.specs.Tableaus.{Equations, side, Program, IsTableau, NoTwoAlike, equations_of, with_factor}
use Rattle.bz_algebra.proofs.Ring.{positive-ne}
use Rattle.bz_algebra.proofs.Uniqueness.{row_unique}
use Rattle.bz_tableau.specs.Laws.{place}
use Rattle.bz_tableau.specs.Programs.{program_of, lp_equations}
use Rattle.bz_tableau.specs.Refusals.{IsRefusal}
use Rattle.bz_tableau.specs.Tables.{Table, IsTableOf, IsTableauOf, number, shown, factor_column}
use Rattle.bz_tableau.specs.declared.answers.LpStop.{LpStop}
use Rattle.bz_tableau.specs.declared.answers.LpStop.TheVariants.{OutOfMemory}
use Rattle.bz_tableau.specs.declared.programs.Lp.{Lp}
use Rattle.bz_lex.specs.Lexicographic.{lead}
use Rattle.bz_lex.specs.Phases.{columns_of, IsEntering, IsOnPhase, IsPhasePivot, IsPhaseWay, IsPhaseTable, IsPhaseStop, MeetsNoBasisTwice}
use Rattle.bz_lex.specs.Shown.{HasPoint}
use Rattle.bz_tableau.specs.Stops.{IsRowAt, EntersAtGoal}
use Rattle.bz_lex.specs.TableStages.{shown_order, IsLeavingRow, IsTableStage}
use Rattle.bz_lex.proofs.LexOrder.{positive_start}
use Rattle.bz_lex.proofs.ShownBases.{all_rows, count_is}
use Rattle.bz_lex.proofs.TablesOnTheWay.{shown_side, shown_column, side_is, table_first, table_next, table_point, table_few, table_different}
use Rattle.bz_lex.proofs.TruePivots.{MayPivot, point_basis, true_way_stop, relaxed_way_stop, own_way}

-- ---- on the way
-- the table now is one on the way from the table old, with so many bases met between them
pub record IsUnderWay (old : Table) (first : List ℕ) (total : ℕ) (now : Table) : Type 0 where
  pub relaxed : now.relaxed ≡ old.relaxed
  pub slack : now.slack ≡ old.slack
  pub count : length now.basis ≡ length old.basis
  pub left : List Table
  pub many : length left ≡ total
  pub way : IsPhaseWay first old now left
  pub stages : (s : Equations) → IsTableOf s old.slack old.basis old.rows → IsTableStage s first now (map columns_of left)

pub way_first : (old : Table) (first : List ℕ) → first ≡ old.basis → IsOnPhase first old → IsUnderWay old first 0 old
way_first old first e g = record {
  relaxed = refl;
  slack = refl;
  count = refl;
  left = [];
  many = refl;
  way = refl;
  stages = λ s h. subst (λ (basis : List ℕ). IsTableStage s basis old []) (sym e) (table_first s old h (table_point g.system first old g.met g.stage));
}

module _ (old : Table) (first : List ℕ) (total : ℕ) (now : Table) (u : IsUnderWay old first total now) where
  module _ (g : IsOnPhase first old) where
    pub way_on_phase : IsOnPhase first now
    way_on_phase = record { system = g.system; met = map columns_of u.left; stage = u.stages g.system g.stage.table }

    pub way_few : suc total ≤ 2 ^ factor_column now
    way_few = subst (λ (n : ℕ). suc n ≤ 2 ^ factor_column now) (length-map u.left columns_of ∙ u.many) (table_few g.system first now (map columns_of u.left) (u.stages g.system g.stage.table))

    -- no basis was met twice
    pub way_once : first ≡ old.basis → MeetsNoBasisTwice old now
    way_once e = record {
      left = u.left;
      way = subst (λ (basis : List ℕ). IsPhaseWay basis old now u.left) e u.way;
      different = subst (λ (n : ℕ). NoTwoAlike n (map columns_of (now ∷ u.left))) u.count (table_different g.system first now (map columns_of u.left) (u.stages g.system g.stage.table));
    }

    pub way_table : IsPhaseTable old now
    way_table = record {
      relaxed = u.relaxed;
      slack = u.slack;
      count = u.count;
      table = λ s h. (u.stages s h).table;
      point = table_point g.system first now (map columns_of u.left) (u.stages g.system g.stage.table);
    }

  pub way_side : factor_column now ≡ factor_column old
  way_side i = u.slack i + u.count i

  -- a tableau of a program stays one
  pub way_tableau : (relaxed : Bool) (lp : Lp) → IsTableauOf relaxed lp old → IsTableauOf relaxed lp now
  way_tableau relaxed lp h = record { relaxed_is = u.relaxed ∙ h.relaxed_is; table = (u.stages (lp_equations relaxed lp) h.table).table }

  -- a pivot more
  pub way_next : (new : Table) → IsPhasePivot first now new → IsUnderWay old first (suc total) new
  way_next new p = record {
    relaxed = p.pivoted.relaxed ∙ u.relaxed;
    slack = p.pivoted.slack ∙ u.slack;
    count = ap length p.pivoted.basis ∙ length-set now.basis p.row p.column ∙ u.count;
    left = now ∷ u.left;
    many = ap suc u.many;
    way = (u.way, p);
    stages = λ s h. table_next s first now (map columns_of u.left) (u.stages s h) p.row p.column new p.pivoted (λ e. omega (arith, p.entering.inside)) p.leaving p.entering.falls;
  }

-- the count of what is left goes down
pub left_less : (total side other : ℕ) → other ≡ side → suc (suc total) ≤ 2 ^ other → 2 ^ other - suc total < 2 ^ side - total
left_less total side other e b = omega (arith, b, ap (λ (n : ℕ). 2 ^ n) e)

-- ---- refusals
module _ (relaxed : Bool) (lp : Lp) (t : Table) (h : IsTableauOf relaxed lp t) (p : HasPoint t) where
  abbrev program : Program
  program = program_of lp

  all : IsTableau (equations_of relaxed program) (with_factor relaxed program (place t.basis)) (number t.rows)
  all = all_rows relaxed lp t h

  count : length t.basis ≡ length lp.rows
  count = count_is relaxed lp t h

  -- the row at a place is the table's
  row_at : (i : ℕ) (v : ℕ → ℤ) → i ≤ length lp.rows → IsRowAt relaxed program t.basis i v → (j : ℕ) → j ≤ side (equations_of relaxed program) → number t.rows i j ≡ v j
  row_at i v b r j l = row_unique (equations_of relaxed program) (with_factor relaxed program (place t.basis)) (number t.rows) v i all (omega (arith, b)) r j l

  row_side : (i : ℕ) (v : ℕ → ℤ) → i ≤ length lp.rows → IsRowAt relaxed program t.basis i v → shown t i (factor_column t) ≡ v (side (equations_of relaxed program))
  row_side i v b r = shown_side t i ∙ ap (number t.rows i) (sym (side_is (lp_equations relaxed lp) t h.table)) ∙ row_at i v b r (side (equations_of relaxed program)) (omega arith)

  row_column : (i j : ℕ) (v : ℕ → ℤ) → j < factor_column t → i ≤ length lp.rows → IsRowAt relaxed program t.basis i v → shown t i j ≡ v j
  row_column i j v l b r = shown_column t i j (λ e. omega (arith, l)) ∙ row_at i v b r j (omega (arith, l, side_is (lp_equations relaxed lp) t h.table))

  module _ (first : List ℕ) (r e : ℕ) (enters : IsEntering t e) (leaves : IsLeavingRow t first e r) where
    leads : (i : ℕ) → i < length t.basis → (pos 0) <ℤ (shown t i e) → (pos 0) ≤ℤ ((shown t r e *ℤ shown t i (factor_column t)) -ℤ (shown t i e *ℤ shown t r (factor_column t)))
    leads i b q = elim (cases_eq i r) [
      | inl f ↦ subst (λ (k : ℕ). (pos 0) ≤ℤ ((shown t r e *ℤ shown t k (factor_column t)) -ℤ (shown t k e *ℤ shown t r (factor_column t)))) (sym f) (omega (arith, ints))
      | inr d ↦ positive_start (suc (length t.basis)) (lead (shown_order t first) e (shown t i) (shown t r)) (leaves.below i b d q)
    ]

    kind : EntersAtGoal relaxed program t.basis t.basis r e
    kind = record {
      at_goal = refl;
      falls = λ v q. subst (λ (z : ℤ). z <ℤ (pos 0)) (ap (λ (i : ℕ). shown t i e) count ∙ row_column (length lp.rows) e v enters.inside (omega arith) q) enters.falls;
      positive = λ v q. subst (λ (z : ℤ). (pos 0) <ℤ z) (row_column r e v enters.inside inside q) leaves.positive;
      least = λ i v w b x y q. least i v w b x y q;
    }
      where
        inside : r ≤ length lp.rows
        inside = omega (arith, leaves.inside, count)

        by_leads : (a b c d : ℤ) → (pos 0) ≤ℤ ((a *ℤ b) -ℤ (c *ℤ d)) → (d *ℤ c) ≤ℤ (b *ℤ a)
        by_leads a b c d l = omega (arith, ints, *ℤ_comm a b, *ℤ_comm c d, l)

        least : (i : ℕ) (v w : ℕ → ℤ) → i < length lp.rows → IsRowAt relaxed program t.basis i v → IsRowAt relaxed program t.basis r w → (pos 0) <ℤ (v e) → (w (side (equations_of relaxed program)) *ℤ v e) ≤ℤ (v (side (equations_of relaxed program)) *ℤ w e)
        least i v w b x y q =
            let low : i ≤ length lp.rows = omega (arith, b) in
            rw (← (row_side r w inside y), ← (row_side i v low x), ← (row_column i e v enters.inside low x), ← (row_column r e w enters.inside inside y))
            (by_leads (shown t r e) (shown t i (factor_column t)) (shown t i e) (shown t r (factor_column t))
            (leads i (omega (arith, b, count)) (subst (λ (z : ℤ). (pos 0) <ℤ z) (sym (row_column i e v enters.inside low x)) q)))

    may_pivot : MayPivot relaxed lp t r e t.basis
    may_pivot = record {
      row_inside = leaves.inside;
      column_inside = enters.inside;
      nonzero = positive-ne (shown t r e) leaves.positive;
      goal_is = point_basis relaxed lp t h p;
      kind = inl kind;
    }

-- a refused pivot of a phase is one that a solution makes
pub refusal_stop : (first : List ℕ) (t : Table) (r e : ℕ) → IsOnPhase first t → IsEntering t e → IsLeavingRow t first e r → (stop : LpStop) → IsRefusal t r e stop → IsPhaseStop t stop
refusal_stop first t r e g enters leaves stop n = record {
  is_true = λ relaxed lp h. true_way_stop relaxed lp t h r e t.basis stop (may_pivot relaxed lp t h point first r e enters leaves) (own_way t r e stop n);
  is_relaxed = λ lp h. relaxed_way_stop lp t h r e t.basis stop (may_pivot true lp t h point first r e enters leaves) (own_way t r e stop n);
}
  where
    point : HasPoint t
    point = table_point g.system first t g.met g.stage

-- want of memory needs no reason
pub memory_stop : (t : Table) → IsPhaseStop t OutOfMemory
memory_stop t = record { is_true = λ relaxed lp h. record { is_true = tt; first = tt }; is_relaxed = λ lp h. record { is_true = tt; first = tt } }

-- a table that stays is no basis twice
pub once_first : (t : Table) → MeetsNoBasisTwice t t
once_first t = record { left = []; way = refl; different = (tt, tt) }

-- where a phase begins
pub on_phase_first : (relaxed : Bool) (lp : Lp) (t : Table) → IsTableauOf relaxed lp t → HasPoint t → IsOnPhase t.basis t
on_phase_first relaxed lp t h p = record { system = lp_equations relaxed lp; met = []; stage = table_first (lp_equations relaxed lp) t h.table p }

-- an error that is passed on stops the phase as well
pub passed_on : {T : Type 0} (t : Table) (result : Result T LpStop) (stop : LpStop) → IsErrAnd result (λ x. x ≡ stop) → IsPhaseStop t stop → IfErr result (λ x. IsPhaseStop t x)
passed_on t (Ok x) stop h p = tt
passed_on t (Err x) stop h p = subst (λ (y : LpStop). IsPhaseStop t y) (sym h) p
