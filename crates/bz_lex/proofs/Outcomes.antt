-- What answer_at returns, from what the tableau shows.
use Rattle.std.specs.Prelude.{ℕ, ◌<◌, ◌^◌, ◌≡◌, ℤ, neg_ℤ, Bool, true, false, List, length, Option, Result, Ok, Err, IfOk, IfErr, IfSome, MatchResult}
use Rattle.std.proofs.Common.{refl, sym, subst, arith, inl, inr}
use Rattle.bz_algebra.specs.Tableaus.{rows_of}
use Rattle.bz_tableau.specs.Dense.{entry}
use Rattle.bz_tableau.specs.Laws.{place}
use Rattle.bz_tableau.specs.Programs.{IsLp, program_of}
use Rattle.bz_tableau.specs.Tables.{Table, factor_column, shown, IsTableauOf}
use Rattle.bz_tableau.specs.declared.answers.Answer.{Answer}
use Rattle.bz_tableau.specs.declared.answers.Answer.TheVariants.{Least, Empty, Ray}
use Rattle.bz_tableau.specs.declared.answers.LpStop.{LpStop}
use Rattle.bz_tableau.specs.declared.programs.Lp.{Lp}
use Rattle.bz_tableau.specs.Answers.{IsLeast, IsRay, IsAnswerOf, AnswersBasis, HasNoAnswer}
use Rattle.bz_tableau.specs.WidePlaces.{HasAnswerSigns, IsTrueDen}
use Rattle.bz_lex.specs.Refusals.{NamesFirstPlace, IsAnswerRefusal, IsFirstRay, IsFirstWidePlace, HasNoWidePlace}
use Rattle.bz_lex.specs.Shown.{HasPoint, HasLeastCost, IsFreeFall, IsFirstFall, own_entry, IsNarrowLeast, IsShownOrder, ShowsLeast, ShowsRay, GoesWideAtLeast, GoesWideAtRay, IsFirstWideRay, IsWideOver, AnswersShown}
use Rattle.bz_tableau.specs.Points.{IsRayColumn}
use Rattle.bz_lex.proofs.Moves.{order_of, none_wide}
use Rattle.bz_lex.proofs.ShownAnswers.{ray_falls, ray_column, same_column, ray_is, no_ray, least_is, none_is_wide, wide_multiple, wide_value, wide_move, least_signs_are, ray_signs_are}
use Rattle.bz_lex.proofs.ShownBases.{few_rows, has_point, shown_basis, is_order, number_small, point_of_answer, cost_of_answer}

-- the outcome is the basis's answer, without a wide place, or its first wide place
abbrev pub IsRightOutcome : Bool → Lp → List ℕ → Result Answer ℕ → Type 0
IsRightOutcome relaxed lp basis o = MatchResult o (λ a. IsAnswerOf relaxed lp basis a × HasNoWidePlace relaxed lp basis) (λ k. HasAnswerSigns relaxed (program_of lp) basis × IsFirstWidePlace relaxed (program_of lp) (place basis) k)

-- ---- what is returned
-- the first wide place is a wide place
true_den : (relaxed : Bool) (lp : Lp) (basis : List ℕ) (k : ℕ) → HasAnswerSigns relaxed (program_of lp) basis → IsFirstWidePlace relaxed (program_of lp) (place basis) k → IsTrueDen relaxed (program_of lp) basis k
true_den relaxed lp basis k signs w = record {
  has_answer = signs;
  order = w.order;
  is_order = w.is_order;
  inside = w.inside;
  wide = record {
    inside = w.wide.inside;
    before_slacks = w.wide.before_slacks;
    wide = elim w.wide.wide [
      | inl m ↦ inl m
      | inr v ↦ inr (record {
        den = v.den;
        denominator = v.denominator;
        narrow = v.narrow;
        row = v.row;
        is_row = v.is_row;
        times = v.times;
        times_is = v.times_is;
        wide = elim v.wide [ inl x ↦ inl x | inr x ↦ inr (x.0, record { unrelaxed = x.1.unrelaxed; makes = x.1.ray.makes }, x.2) ];
      })
    ];
  };
}

pub outcome_first : (relaxed : Bool) (lp : Lp) (basis : List ℕ) (o : Result Answer ℕ) (r : Result (Option Answer) LpStop) → AnswersShown relaxed basis o r → IsRightOutcome relaxed lp basis o → IfErr r (λ stop. NamesFirstPlace lp stop)
outcome_first relaxed lp basis (Ok a) r e h = subst (λ (x : Result (Option Answer) LpStop). IfErr x (λ stop. NamesFirstPlace lp stop)) (sym e) tt
outcome_first relaxed lp basis (Err k) r (inl e) h = subst (λ (x : Result (Option Answer) LpStop). IfErr x (λ stop. NamesFirstPlace lp stop)) (sym e) h.1
outcome_first relaxed lp basis (Err k) r (inr e) h = subst (λ (x : Result (Option Answer) LpStop). IfErr x (λ stop. NamesFirstPlace lp stop)) (sym e) tt

pub outcome_answer : (relaxed : Bool) (lp : Lp) (basis : List ℕ) (o : Result Answer ℕ) (r : Result (Option Answer) LpStop) → AnswersShown relaxed basis o r → IsRightOutcome relaxed lp basis o → IfOk r (λ a. AnswersBasis relaxed lp basis a)
outcome_answer relaxed lp basis (Ok a) r e h = subst (λ (x : Result (Option Answer) LpStop). IfOk x (λ a. AnswersBasis relaxed lp basis a)) (sym e) h.0
outcome_answer relaxed lp basis (Err k) r (inl e) h = subst (λ (x : Result (Option Answer) LpStop). IfOk x (λ a. AnswersBasis relaxed lp basis a)) (sym e) tt
outcome_answer relaxed lp basis (Err k) r (inr e) h = subst (λ (x : Result (Option Answer) LpStop). IfOk x (λ a. AnswersBasis relaxed lp basis a)) (sym e) tt

pub outcome_narrow : (relaxed : Bool) (lp : Lp) (basis : List ℕ) (o : Result Answer ℕ) (r : Result (Option Answer) LpStop) → AnswersShown relaxed basis o r → IsRightOutcome relaxed lp basis o → IfOk r (λ a. IfSome a (λ _. HasNoWidePlace relaxed lp basis))
outcome_narrow relaxed lp basis (Ok a) r e h = subst (λ (x : Result (Option Answer) LpStop). IfOk x (λ a. IfSome a (λ _. HasNoWidePlace relaxed lp basis))) (sym e) h.1
outcome_narrow relaxed lp basis (Err k) r (inl e) h = subst (λ (x : Result (Option Answer) LpStop). IfOk x (λ a. IfSome a (λ _. HasNoWidePlace relaxed lp basis))) (sym e) tt
outcome_narrow relaxed lp basis (Err k) r (inr e) h = subst (λ (x : Result (Option Answer) LpStop). IfOk x (λ a. IfSome a (λ _. HasNoWidePlace relaxed lp basis))) (sym e) tt

pub outcome_refused : (relaxed : Bool) (lp : Lp) (basis : List ℕ) (o : Result Answer ℕ) (r : Result (Option Answer) LpStop) → AnswersShown relaxed basis o r → IsRightOutcome relaxed lp basis o → IfErr r (λ stop. IsAnswerRefusal relaxed lp basis stop)
outcome_refused relaxed lp basis (Ok a) r e h = subst (λ (x : Result (Option Answer) LpStop). IfErr x (λ stop. IsAnswerRefusal relaxed lp basis stop)) (sym e) tt
outcome_refused relaxed lp basis (Err k) r (inl e) h = subst (λ (x : Result (Option Answer) LpStop). IfErr x (λ stop. IsAnswerRefusal relaxed lp basis stop)) (sym e) (record { relaxed_is = refl; basis_is = refl; wide = true_den relaxed lp basis k h.0 h.1 })
outcome_refused relaxed lp basis (Err k) r (inr e) h = subst (λ (x : Result (Option Answer) LpStop). IfErr x (λ stop. IsAnswerRefusal relaxed lp basis stop)) (sym e) tt

-- ---- a point of least cost
module _ (relaxed : Bool) (lp : Lp) (t : Table) (h : IsTableauOf relaxed lp t) (p : HasPoint t) (c : HasLeastCost t) where
  pub least_outcome : (o : Result Answer ℕ) → MatchResult o (λ a. ShowsLeast t a) (λ k. GoesWideAtLeast t k) → IsRightOutcome relaxed lp t.basis o
  least_outcome (Ok (Least basis z y)) a = (
    record {
      basis_is = a.basis_is;
      answer = subst (λ (b : List ℕ). IsLeast relaxed (program_of lp) b z y) (sym a.basis_is) (least_is relaxed lp t h basis z y p c a);
      first_column = tt;
    },
    none_is_wide relaxed lp t h a.order a.is_order z.den a.point.den
        (none_wide (length a.order) t a.order z.den (factor_column t) z.num (order_of t a.order a.is_order (shown_basis relaxed lp t h)) a.point.values (omega arith))
        (λ k n b r w. no_ray relaxed lp t h c n r),
  )
  least_outcome (Ok (Empty basis y)) a = absurd a
  least_outcome (Ok (Ray basis column z d)) a = absurd a
  least_outcome (Err k) w = (
    least_signs_are relaxed lp t h p c,
    elim w.wide [
      | inl m ↦ wide_multiple relaxed lp t h w.order w.is_order k m
      | inr v ↦ wide_value relaxed lp t h w.order w.is_order k v.0 v.1 v.2.inside v.2.first (λ l n b r x. no_ray relaxed lp t h c n r) v.2.here
    ],
  )

-- ---- a ray
module _ (lp : Lp) (t : Table) (h : IsTableauOf false lp t) (p : HasPoint t) (column : ℕ) (f : IsFirstFall t column) where
  basis_of_ray : IsFirstRay false (program_of lp) (place t.basis) column
  basis_of_ray = record { unrelaxed = refl; ray = ray_column lp t h column f }

  -- what isn't wide in the column isn't in the column of a ray
  moved : (order : List ℕ) (den : ℤ) (k n : ℕ) → (IsWideOver (neg_ℤ den) (own_entry t order k) (shown t (place order k) column) → ⊥) → IsFirstRay false (program_of lp) (place t.basis) n → IsWideOver (neg_ℤ den) (own_entry t order k) (shown t (place order k) n) → ⊥
  moved order den k n none r w = none (subst (λ (j : ℕ). IsWideOver (neg_ℤ den) (own_entry t order k) (shown t (place order k) j)) (same_column lp t h column n f r.ray) w)

  first_ray : (order : List ℕ) (k : ℕ) → IsShownOrder t order → (den : ℤ) → IsNarrowLeast (length order) (own_entry t order) den → IsFirstWideRay t order den column k → IsFirstWidePlace false (program_of lp) (place t.basis) k
  first_ray order k o den narrow w = elim w.here [
    | inl x ↦ wide_value false lp t h order o k den narrow w.inside w.first_value (λ l n b r v. moved order den l n (w.first_move l b) r v) x
    | inr x ↦ wide_move false lp t h order o k den narrow w.inside w.first_value (λ l n b r v. moved order den l n (w.first_move l b) r v) column basis_of_ray x
  ]

  pub ray_outcome : (o : Result Answer ℕ) → MatchResult o (λ a. ShowsRay t column a) (λ k. GoesWideAtRay t column k) → IsRightOutcome false lp t.basis o
  ray_outcome (Ok (Least basis z y)) a = absurd a
  ray_outcome (Ok (Empty basis y)) a = absurd a
  ray_outcome (Ok (Ray basis named z d)) a = (
    record {
      basis_is = a.basis_is;
      answer = (refl, subst (λ (b : List ℕ). IsRay (program_of lp) b named z d) (sym a.basis_is) (subst (λ (j : ℕ). IsRay (program_of lp) t.basis j z d) (sym a.column_is) (ray_is lp t h column basis named z d p f a)));
      first_column = subst (λ (b : List ℕ). IsRayColumn (program_of lp) (place b) named) (sym a.basis_is) (subst (λ (j : ℕ). IsRayColumn (program_of lp) (place t.basis) j) (sym a.column_is) (ray_column lp t h column f));
    },
    none_is_wide false lp t h a.order a.is_order z.den a.point.den
        (none_wide (length a.order) t a.order z.den (factor_column t) z.num (order_of t a.order a.is_order (shown_basis false lp t h)) a.point.values (omega arith))
        (λ k n b r w. moved a.order z.den k n (a.move.narrow k b) r w),
  )
  ray_outcome (Err k) w = (
    ray_signs_are false lp t h column p basis_of_ray,
    elim w.wide [
      | inl m ↦ wide_multiple false lp t h w.order w.is_order k m
      | inr v ↦ first_ray w.order k w.is_order v.0 v.1 v.2
    ],
  )

-- ---- places are small
small : (relaxed : Bool) (lp : Lp) (t : Table) (h : IsTableauOf relaxed lp t) → IsLp lp → (order : List ℕ) → IsShownOrder t order → (k : ℕ) → k < length order → k < 2 ^ 32
small relaxed lp t h l order o k b = elim_slack relaxed lp l k (before relaxed lp t h order o k b)
  where
    before : (relaxed : Bool) (lp : Lp) (t : Table) (h : IsTableauOf relaxed lp t) (order : List ℕ) (o : IsShownOrder t order) (k : ℕ) → k < length order → k < (rows_of relaxed (program_of lp)).slack
    before relaxed lp t h order o k b = omega (arith, number_small relaxed lp t h order o k b, (is_order relaxed lp t h order o).before_slacks k b)

    elim_slack : (relaxed : Bool) (lp : Lp) → IsLp lp → (k : ℕ) → k < (rows_of relaxed (program_of lp)).slack → k < 2 ^ 32
    elim_slack true lp l k b = omega (arith, b, l.few_columns)
    elim_slack false lp l k b = omega (arith, b, l.few_columns)

pub small_least : (relaxed : Bool) (lp : Lp) (t : Table) → IsTableauOf relaxed lp t → IsLp lp → (o : Result Answer ℕ) → MatchResult o (λ a. ShowsLeast t a) (λ k. GoesWideAtLeast t k) → IfErr o (λ k. k < 2 ^ 32)
small_least relaxed lp t h l (Ok a) w = tt
small_least relaxed lp t h l (Err k) w = elim w.wide [
  | inl m ↦ small relaxed lp t h l w.order w.is_order k m.inside
  | inr v ↦ small relaxed lp t h l w.order w.is_order k v.2.inside
]

pub small_ray : (relaxed : Bool) (lp : Lp) (t : Table) (column : ℕ) → IsTableauOf relaxed lp t → IsLp lp → (o : Result Answer ℕ) → MatchResult o (λ a. ShowsRay t column a) (λ k. GoesWideAtRay t column k) → IfErr o (λ k. k < 2 ^ 32)
small_ray relaxed lp t column h l (Ok a) w = tt
small_ray relaxed lp t column h l (Err k) w = elim w.wide [
  | inl m ↦ small relaxed lp t h l w.order w.is_order k m.inside
  | inr v ↦ small relaxed lp t h l w.order w.is_order k v.2.inside
]

-- ---- no answer
module _ (relaxed : Bool) (lp : Lp) (t : Table) (h : IsTableauOf relaxed lp t) where
  unrelaxed : relaxed ≡ false → IsTableauOf false lp t
  unrelaxed e = subst (λ (b : Bool). IsTableauOf b lp t) e h

  pub none_without_point : (HasPoint t → ⊥) → HasNoAnswer relaxed lp t.basis
  none_without_point n (Least basis z y) e a =
      let b = subst (λ (l : List ℕ). IsLeast relaxed (program_of lp) l z y) e a in
      n (point_of_answer relaxed lp t h (entry z.num) z.den b.point b.meets)
  none_without_point n (Empty basis y) e a = a
  none_without_point n (Ray basis column z d) e a =
      let b = subst (λ (l : List ℕ). IsRay (program_of lp) l column z d) e a.1 in
      n (point_of_answer false lp t (unrelaxed a.0) (entry z.num) z.den b.point b.meets)

  pub none_without_cost : (HasLeastCost t → ⊥) → (relaxed ≡ false → (c : ℕ) → IsFreeFall t c → ⊥) → HasNoAnswer relaxed lp t.basis
  none_without_cost n m (Least basis z y) e a =
      let b = subst (λ (l : List ℕ). IsLeast relaxed (program_of lp) l z y) e a in
      n (cost_of_answer relaxed lp t h y.den (entry y.num) b.objective b.bounds)
  none_without_cost n m (Empty basis y) e a = a
  none_without_cost n m (Ray basis column z d) e a =
      let b = subst (λ (l : List ℕ). IsRay (program_of lp) l column z d) e a.1 in
      m a.0 column (ray_falls lp t (unrelaxed a.0) column (entry d, b.direction, b.falls))

  -- ---- nor its signs
  pub no_signs_without_point : (HasPoint t → ⊥) → HasAnswerSigns relaxed (program_of lp) t.basis → ⊥
  no_signs_without_point n s = n (has_point relaxed lp t h (λ k b. s.right_sides k (shown t k) b ((few_rows relaxed lp t h).rows k b)))

  pub no_signs_without_cost : (HasLeastCost t → ⊥) → (relaxed ≡ false → (c : ℕ) → IsFreeFall t c → ⊥) → HasAnswerSigns relaxed (program_of lp) t.basis → ⊥
  no_signs_without_cost n m s = elim s.signs [
    | inl l ↦ n (cost_of_answer relaxed lp t h l.den l.y l.objective l.bounds)
    | inr r ↦ m r.1.unrelaxed r.0 (ray_falls lp t (unrelaxed r.1.unrelaxed) r.0 r.1.makes)
  ]

pub ray_right : (relaxed : Bool) (lp : Lp) (t : Table) → IsTableauOf relaxed lp t → relaxed ≡ false → HasPoint t → (column : ℕ) → IsFirstFall t column → (o : Result Answer ℕ) → MatchResult o (λ a. ShowsRay t column a) (λ k. GoesWideAtRay t column k) → IsRightOutcome relaxed lp t.basis o
ray_right relaxed lp t h e p column f o w = subst (λ (b : Bool). IsRightOutcome b lp t.basis o) (sym e) (ray_outcome lp t (subst (λ (b : Bool). IsTableauOf b lp t) e h) p column f o w)
