-- The objective row of the columns of a basis.
use Rattle.std.specs.Prelude.{ℕ, suc, ◌+◌, ◌<◌, ◌≤◌, ◌≡◌, ℤ, pos, ◌+ℤ◌, ◌*ℤ◌, ◌<ℤ◌, Bool, unsigned_abs}
use Rattle.std.specs.Int.{◌∣◌}
use Rattle.std.proofs.Common.{ap, sym, subst, ◌∙◌, arith}
use Rattle.bz_algebra.specs.Sums.{upto}
use Rattle.bz_algebra.specs.Tableaus.{Equations, side, Program, IsBasis, IsCombination, IsRow, IsTableau, IsObjectiveRow, AreAlike, row_entry, objective_entry, rows_of, equations_of, factor, with_factor}
use Rattle.bz_algebra.proofs.Agreement.{same_objective}
use Rattle.bz_algebra.proofs.Bounded.{with_last, with_last_at, with_last_before}
use Rattle.bz_algebra.proofs.Combinations.{combination_upto}
use Rattle.bz_algebra.proofs.Objectives.{basis_with_objective}
use Rattle.bz_algebra.proofs.Programs.{own, own_is, own_row, row_of_objective}
use Rattle.bz_algebra.proofs.Ring.{mul_zero, mul_one}
use Rattle.bz_algebra.proofs.SumLemmas.{upto_same, upto_only}
use Rattle.bz_algebra.proofs.Uniqueness.{basis_tableau, row_unique}

-- an objective row with equal numbers
pub objective_same : (relaxed : Bool) (p : Program) (basis : ℕ → ℕ) (d e : ℤ) (y x : ℕ → ℤ) → IsObjectiveRow relaxed p basis d y → e ≡ d → ((i : ℕ) → i < p.rows → x i ≡ y i) → IsObjectiveRow relaxed p basis e x
objective_same relaxed p basis d e y x o g h = record {
  positive = subst (λ (t : ℤ). (pos 0) <ℤ t) (sym g) o.positive;
  primitive = λ k l m. o.primitive k (subst (λ (t : ℤ). k ∣ unsigned_abs t) g l) (λ i b. subst (λ (t : ℤ). k ∣ unsigned_abs t) (h i b) (m i b));
  columns = λ k b l. (λ j. upto_same p.rows (λ i. x i *ℤ row_entry relaxed p i (basis k)) (λ i. y i *ℤ row_entry relaxed p i (basis k)) (λ i c. ap (λ (t : ℤ). t *ℤ row_entry relaxed p i (basis k)) (h i c)) j +ℤ (g j *ℤ objective_entry relaxed p (basis k))) ∙ o.columns k b l;
  slacks = λ k i b c f. h i c ∙ o.slacks k i b c f;
}

module _ (relaxed : Bool) (p : Program) (basis : ℕ → ℕ) (w : ℕ → ℕ → ℤ) (tableau : IsTableau (equations_of relaxed p) (with_factor relaxed p basis) w) where
  abbrev all : Equations
  all = equations_of relaxed p

  abbrev last : ℕ → ℤ
  last = w p.rows

  -- an objective row of the basis is this one
  pub objective_is : (d : ℤ) (y : ℕ → ℤ) → IsObjectiveRow relaxed p basis d y → (last (factor relaxed p) ≡ d) × ((i : ℕ) → i < p.rows → last (all.slack + i) ≡ y i)
  objective_is d y o = (same (factor relaxed p) (omega arith) ∙ made_factor, λ i b. same (all.slack + i) (omega arith) ∙ made_slack i b)
    where
      times : ℕ → ℤ
      times = with_last p.rows y d

      made : ℕ → ℤ
      made j = upto (suc p.rows) (λ i. times i *ℤ own all i j)

      combination : IsCombination all made
      combination = combination_upto all (suc p.rows) times (own all) (λ i b. (own_row all i (own all i) b (own_is all i b)).combination)

      at_slack : (l : ℕ) → l < suc p.rows → made (all.slack + l) ≡ times l
      at_slack l b = upto_only (suc p.rows) l (λ i. times i *ℤ own all i (all.slack + l)) b
          (λ i c n. ap (λ (t : ℤ). times i *ℤ t) ((own_is all i c).others l b (λ e. n (sym e))) ∙ mul_zero (times i))
          ∙ ap (λ (t : ℤ). times l *ℤ t) ((own_is all l b).own) ∙ mul_one (times l)

      made_factor : made (factor relaxed p) ≡ d
      made_factor = at_slack p.rows (omega arith) ∙ with_last_at p.rows y d

      made_slack : (i : ℕ) → i < p.rows → made (all.slack + i) ≡ y i
      made_slack i b = at_slack i (omega arith) ∙ with_last_before p.rows y d i b

      row : IsRow all (with_factor relaxed p basis) p.rows made
      row = row_of_objective relaxed p basis made tableau.columns combination (objective_same relaxed p basis d (made (factor relaxed p)) y (λ i. made (all.slack + i)) o made_factor made_slack)

      same : (j : ℕ) → j ≤ side all → last j ≡ made j
      same j b = row_unique all (with_factor relaxed p basis) w made p.rows tableau (omega arith) row j b

-- two rows of a basis at one place are the same
pub one_row : (s : Equations) (basis : ℕ → ℕ) (i : ℕ) (v w : ℕ → ℤ) → IsBasis s basis → i < s.rows → IsRow s basis i v → IsRow s basis i w → (j : ℕ) → j ≤ side s → v j ≡ w j
one_row s basis i v w b l h k j m =
    let t = basis_tableau s basis b in
    sym (row_unique s basis t.0 v i t.1 l h j m) ∙ row_unique s basis t.0 w i t.1 l k j m

-- two objective rows of the same columns, in whatever order they stand, are the same
pub one_objective : (relaxed : Bool) (p : Program) (basis other : ℕ → ℕ) (d e : ℤ) (y z : ℕ → ℤ) → IsBasis (rows_of relaxed p) basis → IsBasis (rows_of relaxed p) other → AreAlike p.rows basis other
    → IsObjectiveRow relaxed p basis d y → IsObjectiveRow relaxed p other e z → (d ≡ e) × ((i : ℕ) → i < p.rows → y i ≡ z i)
one_objective relaxed p basis other d e y z b c alike h k =
    let t = basis_tableau (equations_of relaxed p) (with_factor relaxed p basis) (basis_with_objective relaxed p basis b) in
    let u = basis_tableau (equations_of relaxed p) (with_factor relaxed p other) (basis_with_objective relaxed p other c) in
    let first : (t.0 p.rows (factor relaxed p) ≡ d) × ((i : ℕ) → i < p.rows → t.0 p.rows ((equations_of relaxed p).slack + i) ≡ y i) = objective_is relaxed p basis t.0 t.1 d y h in
    let second : (u.0 p.rows (factor relaxed p) ≡ e) × ((i : ℕ) → i < p.rows → u.0 p.rows ((equations_of relaxed p).slack + i) ≡ z i) = objective_is relaxed p other u.0 u.1 e z k in
    let rows : (j : ℕ) → j ≤ side (equations_of relaxed p) → t.0 p.rows j ≡ u.0 p.rows j = same_objective relaxed p basis other t.0 u.0 t.1 u.1 alike.there in
    (sym first.0 ∙ rows (factor relaxed p) (omega arith) ∙ second.0, λ i l. sym (first.1 i l) ∙ rows ((equations_of relaxed p).slack + i) (omega arith) ∙ second.1 i l)
