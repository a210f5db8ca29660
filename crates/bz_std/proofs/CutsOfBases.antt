-- The cut of a basis is one, at every point.
use Rattle.std.specs.Prelude.{ℕ, zero, suc, ◌+◌, ◌<◌, ◌≤◌, ◌≡◌, ℤ, pos, ◌*ℤ◌, nat_lt, List, [], ◌∷◌, ◌++◌, length, map, true}
use Rattle.std.specs.Int.{◌∣◌}
use Rattle.std.specs.Int.RustNames.{unsigned_abs}
use Rattle.std.proofs.Common.{refl, ap, sym, subst, ◌∙◌, arith, inl, inr}
use Rattle.std.proofs.lemmas.Bool.{cases_Bool, ltb-true, ltb-false}
use Rattle.std.proofs.lemmas.List.{length-append, length-map}
use Rattle.std.proofs.Math.Nat.{dvd-zero}
use Rattle.bz_algebra.specs.Sums.{coef, dot, upto}
use Rattle.bz_algebra.specs.Tableaus.{AreAlike, DifferInRightSides, Equations, IsPrimitive, side}
use Rattle.bz_algebra.proofs.Bounded.{with_last, with_last_at, with_last_before}
use Rattle.bz_algebra.proofs.Divisors.{primitive_equal, primitive_sum}
use Rattle.bz_algebra.proofs.RightSides.{basis_of_other, objective_of_other}
use Rattle.bz_algebra.proofs.Ring.{mul_left, mul_one}
use Rattle.bz_algebra.proofs.SumLemmas.{coef_beyond, upto_same, upto_scale}
use Rattle.bz_num.proofs.Coefs.{divides-from_coef}
use Rattle.bz_model.specs.declared.Ineq.{Ineq}
use Rattle.bz_model.specs.declared.Master.{Master}
use Rattle.bz_model.specs.declared.Model.{Model}
use Rattle.bz_model.specs.Parting.{inequalities_of, width_of}
use Rattle.bz_cut.specs.declared.Cut.{Cut}
use Rattle.bz_cut.specs.declared.Mode.{Mode}
use Rattle.bz_cut.specs.declared.Mode.TheVariants as mode
use Rattle.bz_cut.specs.Points.{AreSame}
use Rattle.bz_cut.specs.Rows.{master_at, rhs_at}
use Rattle.bz_tableau.specs.Answers.{IsLeast}
use Rattle.bz_tableau.specs.Dense.{entry}
use Rattle.bz_tableau.specs.Laws.{place}
use Rattle.bz_tableau.specs.Programs.{program_of}
use Rattle.bz_tableau.specs.declared.answers.Vals.{Vals}
use Rattle.bz_tableau.specs.declared.programs.Lp.{Lp}
use Rattle.bz_tableau.proofs.OneObjective.{one_objective}
use Rattle.bz_std.specs.CutsFrom.{IsCutFrom, IsSeparationCut, cost_multiplier}
use Rattle.bz_std.specs.CutsOfBases.{CutOf, falling_cost, program_over_columns, unsided_separation}
use Rattle.bz_std.specs.Meanings.{terms_at}
use Rattle.bz_std.specs.Posed.{IsProgramOf, Line, over_columns}
use Rattle.bz_std.specs.Tasks.{IsSeparationLp, cost_lines, falling_line, own_line, separation}
use Rattle.bz_std.proofs.Lines.{has_lines}
use Rattle.bz_std.proofs.SparseLists.{entries_same, sparse_same}

-- ---- right sides change nothing
module _ (point : Master) where
  same_terms : (is : List Ineq) (more others : List Line) → ((i : ℕ) → terms_at more i ≡ terms_at others i) → (i : ℕ) → terms_at (map (own_line point) is ++ more) i ≡ terms_at (map falling_line is ++ others) i
  same_terms [] more others h i = h i
  same_terms (j ∷ is) more others h zero = refl
  same_terms (j ∷ is) more others h (suc i) = same_terms is more others h i

  same_count : (is : List Ineq) (more others : List Line) → length more ≡ length others → length (map (own_line point) is ++ more) ≡ length (map falling_line is ++ others)
  same_count [] more others h = h
  same_count (j ∷ is) more others h = ap suc (same_count is more others h)

  module _ (m : Model) (part : List ℕ) (b : ℕ) where
    cost_terms : (way : Mode) (i : ℕ) → terms_at (cost_lines m part point b way) i ≡ terms_at (falling_cost m part b way) i
    cost_terms mode.Cost zero = refl
    cost_terms mode.Cost (suc i) = refl
    cost_terms mode.Point i = refl

    cost_count : (way : Mode) → length (cost_lines m part point b way) ≡ length (falling_cost m part b way)
    cost_count mode.Cost = refl
    cost_count mode.Point = refl

    differ : (way : Mode) (lp : Lp) → IsProgramOf (separation m part point b way) lp → DifferInRightSides (program_of lp) (program_over_columns (unsided_separation m part b way))
    differ way lp h = let lines = has_lines (separation m part point b way) lp h in record {
      columns = sym h.columns;
      rows = sym (lines.count ∙ same_count (inequalities_of m part b) (cost_lines m part point b way) (falling_cost m part b way) (cost_count way));
      terms = λ i j l k. ap (λ (es : List (ℕ × ℤ)). coef es j) (ap over_columns (sym (same_terms (inequalities_of m part b) (cost_lines m part point b way) (falling_cost m part b way) (cost_terms way) i)) ∙ sym (lines.terms i));
      cost = λ j l. ap (λ (es : List (ℕ × ℤ)). coef es j) (sym h.cost);
    }

    -- an answer's cut is that of its basis
    pub cut_of_answer : (way : Mode) (lp : Lp) (basis : List ℕ) (z y : Vals) (cut : Cut) → IsSeparationLp m part point b way lp → IsLeast true (program_of lp) basis z y → IsSeparationCut m part b way (entry y.num) cut → CutOf m part way b basis cut
    cut_of_answer way lp basis z y cut s l c = let d = differ way lp s.program in record {
      is_basis = record { count = l.is_basis.count ∙ sym d.rows; is_basis = basis_of_other true (program_of lp) _ (place basis) d l.is_basis.is_basis };
      den = y.den;
      y = entry y.num;
      objective = objective_of_other true (program_of lp) _ (place basis) y.den (entry y.num) d l.objective;
      made = c;
    }

-- ---- one cut of equal multipliers
-- a multiple of a primitive vector tells how often it is taken
one_times : (s : Equations) (v : ℕ → ℤ) (a b : ℤ) → IsPrimitive s v → ((j : ℕ) → j ≤ side s → a *ℤ v j ≡ b *ℤ v j) → a ≡ b
one_times s v a b p e = of a ∙ upto_same (suc (side s)) _ _ (λ j l. ap (λ (t : ℤ). y.0 j *ℤ t) (e j (omega arith))) ∙ sym (of b)
  where
    y : (y : ℕ → ℤ) × (pos 1 ≡ upto (suc (side s)) (λ j. y j *ℤ v j))
    y = primitive_sum s v p

    of : (c : ℤ) → c ≡ upto (suc (side s)) (λ j. y.0 j *ℤ (c *ℤ v j))
    of c = sym (mul_one c) ∙ ap (λ (t : ℤ). c *ℤ t) y.1 ∙ sym (upto_scale (suc (side s)) c (λ j. y.0 j *ℤ v j))
        ∙ upto_same (suc (side s)) _ _ (λ j l. mul_left c (y.0 j) (v j))

module _ (m : Model) (part : List ℕ) (b : ℕ) where
  abbrev of_block : List Ineq
  of_block = inequalities_of m part b

  abbrev width : ℕ
  width = width_of part 0

  -- the numbers of a cut as a vector: alpha's, p0 and beta
  abbrev vector : Cut → ℕ → ℤ
  vector cut = with_last (suc width) (with_last width (coef cut.alpha) cut.p0) cut.beta

  abbrev places : Equations
  places = record { rows = 0; slack = suc width; entry = λ i j. pos 0; right = λ i. pos 0 }

  at_alpha : (cut : Cut) (j : ℕ) → j < width → vector cut j ≡ coef cut.alpha j
  at_alpha cut j l = with_last_before (suc width) (with_last width (coef cut.alpha) cut.p0) cut.beta j (omega arith) ∙ with_last_before width (coef cut.alpha) cut.p0 j l

  at_p0 : (cut : Cut) → vector cut width ≡ cut.p0
  at_p0 cut = with_last_before (suc width) (with_last width (coef cut.alpha) cut.p0) cut.beta width (omega arith) ∙ with_last_at width (coef cut.alpha) cut.p0

  at_beta : (cut : Cut) → vector cut (suc width) ≡ cut.beta
  at_beta cut = with_last_at (suc width) (with_last width (coef cut.alpha) cut.p0) cut.beta

  -- a fact of each number
  each_number : (P : ℕ → Type 0) → ((j : ℕ) → j < width → P j) → P width → P (suc width) → (j : ℕ) → j ≤ side places → P j
  each_number P h k l j u = elim (cases_Bool (nat_lt j width)) [
    | inl t ↦ h j (ltb-true j width t)
    | inr t ↦ elim (cases_Bool (nat_lt j (suc width))) [
      | inl s ↦ let e : width ≡ j = omega (arith, ltb-false j width t, ltb-true j (suc width) s) in subst P e k
      | inr s ↦ let e : suc width ≡ j = omega (arith, ltb-false j (suc width) s) in subst P e l
    ]
  ]

  primitive : (y : ℕ → ℤ) (raw : ℤ) (cut : Cut) → IsCutFrom m part b y raw cut → IsPrimitive places (vector cut)
  primitive y raw cut c d h = c.lowest d (divides-from_coef 0 d cut.alpha c.sparse each)
      (subst (λ (z : ℤ). d ∣ unsigned_abs z) (at_p0 cut) (h width (omega arith)))
      (subst (λ (z : ℤ). d ∣ unsigned_abs z) (at_beta cut) (h (suc width) (omega arith)))
    where
      each : (j : ℕ) → d ∣ unsigned_abs (coef cut.alpha j)
      each j = elim (cases_Bool (nat_lt j width)) [
        | inl t ↦ subst (λ (z : ℤ). d ∣ unsigned_abs z) (at_alpha cut j (ltb-true j width t)) (h j (omega (arith, ltb-true j width t)))
        | inr t ↦ subst (λ (z : ℤ). d ∣ unsigned_abs z) (sym (coef_beyond width cut.alpha j c.alpha (ltb-false j width t))) (dvd-zero d)
      ]

  module _ (y z : ℕ → ℤ) (raw other : ℤ) (same : (i : ℕ) → i < length of_block → y i ≡ z i) (same_raw : raw ≡ other)
      (cut copy : Cut) (c : IsCutFrom m part b y raw cut) (k : IsCutFrom m part b z other copy) where
    same_mu : cut.mu ≡ copy.mu
    same_mu = entries_same (length of_block) y z cut.mu copy.mu c.mu k.mu same

    multiples : (j : ℕ) → j ≤ side places → cut.gcd *ℤ vector cut j ≡ copy.gcd *ℤ vector copy j
    multiples = each_number (λ j. cut.gcd *ℤ vector cut j ≡ copy.gcd *ℤ vector copy j)
        (λ j l. ap (λ (t : ℤ). cut.gcd *ℤ t) (at_alpha cut j l) ∙ sym (c.master j l) ∙ ap (λ (es : List (ℕ × ℤ)). dot es (λ n. coef (master_at of_block n) j)) same_mu ∙ k.master j l ∙ ap (λ (t : ℤ). copy.gcd *ℤ t) (sym (at_alpha copy j l)))
        (ap (λ (t : ℤ). cut.gcd *ℤ t) (at_p0 cut) ∙ sym c.eta ∙ same_raw ∙ k.eta ∙ ap (λ (t : ℤ). copy.gcd *ℤ t) (sym (at_p0 copy)))
        (ap (λ (t : ℤ). cut.gcd *ℤ t) (at_beta cut) ∙ sym c.rhs ∙ ap (λ (es : List (ℕ × ℤ)). dot es (rhs_at of_block)) same_mu ∙ k.rhs ∙ ap (λ (t : ℤ). copy.gcd *ℤ t) (sym (at_beta copy)))

    numbers : (j : ℕ) → j ≤ side places → vector cut j ≡ vector copy j
    numbers = primitive_equal places (vector cut) (vector copy) cut.gcd copy.gcd (primitive y raw cut c) (primitive z other copy k) c.gcd k.gcd multiples

    same_gcd : cut.gcd ≡ copy.gcd
    same_gcd = one_times places (vector cut) cut.gcd copy.gcd (primitive y raw cut c) (λ j l. multiples j l ∙ ap (λ (t : ℤ). copy.gcd *ℤ t) (sym (numbers j l)))

    says_same : AreSame cut copy
    says_same = record {
      block = c.block ∙ sym k.block;
      alpha = sparse_same width cut.alpha copy.alpha c.sparse k.sparse c.alpha k.alpha (λ j l. sym (at_alpha cut j l) ∙ numbers j (omega arith) ∙ at_alpha copy j l);
      p0 = sym (at_p0 cut) ∙ numbers width (omega arith) ∙ at_p0 copy;
      beta = sym (at_beta cut) ∙ numbers (suc width) (omega arith) ∙ at_beta copy;
    }

    pub one_cut : AreSame cut copy × (cut.mu ≡ copy.mu) × (cut.gcd ≡ copy.gcd)
    one_cut = (says_same, same_mu, same_gcd)

  -- ---- one cut of a basis
  same_cost : (way : Mode) (y z : ℕ → ℤ) → ((i : ℕ) → i < length (unsided_separation m part b way).rows → y i ≡ z i) → cost_multiplier way (length of_block) y ≡ cost_multiplier way (length of_block) z
  same_cost mode.Cost y z h = h (length of_block) (omega (arith, length-append (map falling_line of_block) (falling_cost m part b mode.Cost), length-map of_block falling_line))
  same_cost mode.Point y z h = refl

  pub one_cut_of : (way : Mode) (basis others : List ℕ) (cut copy : Cut) → AreAlike (length basis) (place basis) (place others) → CutOf m part way b basis cut → CutOf m part way b others copy → AreSame cut copy × (cut.mu ≡ copy.mu) × (cut.gcd ≡ copy.gcd)
  one_cut_of way basis others cut copy alike c k =
      let p = program_over_columns (unsided_separation m part b way) in
      let same : (i : ℕ) → i < p.rows → c.y i ≡ k.y i = (one_objective true p (place basis) (place others) c.den k.den c.y k.y c.is_basis.is_basis k.is_basis.is_basis
      (subst (λ (n : ℕ). AreAlike n (place basis) (place others)) c.is_basis.count alike) c.objective k.objective).1 in
      one_cut c.y k.y _ _
      (λ i l. same i (omega (arith, length-append (map falling_line of_block) (falling_cost m part b way), length-map of_block falling_line)))
      (same_cost way c.y k.y same) cut copy c.made k.made

  pub one_cut_of_basis : (way : Mode) (basis : List ℕ) (cut copy : Cut) → CutOf m part way b basis cut → CutOf m part way b basis copy → AreSame cut copy × (cut.mu ≡ copy.mu) × (cut.gcd ≡ copy.gcd)
  one_cut_of_basis way basis cut copy = one_cut_of way basis basis cut copy (record { there = λ i l. (i, l, refl); back = λ i l. (i, l, refl) })

  -- ---- its mode
  how_many : (way : Mode) → length (unsided_separation m part b way).rows ≡ length of_block + length (falling_cost m part b way)
  how_many way = length-append (map falling_line of_block) (falling_cost m part b way) ∙ ap (λ (n : ℕ). n + length (falling_cost m part b way)) (length-map of_block falling_line)

  by_count : (way kind : Mode) → length (unsided_separation m part b way).rows ≡ length (unsided_separation m part b kind).rows → way ≡ kind
  by_count mode.Cost mode.Cost e = refl
  by_count mode.Cost mode.Point e = absurd (omega (arith, e, how_many mode.Cost, how_many mode.Point))
  by_count mode.Point mode.Cost e = absurd (omega (arith, e, how_many mode.Cost, how_many mode.Point))
  by_count mode.Point mode.Point e = refl

  -- a basis of the one mode is none of the other
  pub one_mode : (way kind : Mode) (basis : List ℕ) (cut copy : Cut) → CutOf m part way b basis cut → CutOf m part kind b basis copy → way ≡ kind
  one_mode way kind basis cut copy c k = by_count way kind (sym c.is_basis.count ∙ k.is_basis.count)

  -- nor is a program
  pub one_program_mode : (point other : Master) (way kind : Mode) (lp : Lp) → IsSeparationLp m part point b way lp → IsSeparationLp m part other b kind lp → way ≡ kind
  one_program_mode point other way kind lp s k = by_count way kind ((differ point m part b way lp s.program).rows ∙ sym (differ other m part b kind lp k.program).rows)
