-- The tests of a cut are decided, and with them the tests of sums: a cut is valid and fits, or it has a first fault.
use Rattle.std.specs.Prelude.{ℕ, ℤ, pos, ◌≡◌, ◌<◌, ◌*ℤ◌, ◌<ℤ◌, ◌^◌, ◌⊎◌, List, ◌++◌, length, Result, Ok, Err}
use Rattle.std.specs.Int.RustNames.{unsigned_abs}
use Rattle.std.proofs.Common.{refl, inl, inr}
use Rattle.std.proofs.Math.IntN.{neg_ℤ}
use Rattle.bz_algebra.specs.Numbers.{IsNarrow}
use Rattle.bz_algebra.specs.Sums.{AllBelow, coef, dot}
use Rattle.bz_first.specs.Tests.{IsFirstFault, each_below}
use Rattle.bz_first.proofs.Deciding.{AllTold, HoldOrFault, Told, all_told, at_most_told, at_most_told_z, both, equal_told_z, hold_or_fault, less_told, less_told_z, told_as, told_below, told_joined}
use Rattle.bz_num.specs.declared.WideSum.{WideSum}
use Rattle.bz_num.specs.Fold.{IsNarrowSum, fold_of, pairs_at}
use Rattle.bz_num.proofs.NarrowSums.{narrow_where_ok, wide_where_err}
use Rattle.bz_model.specs.declared.Model.{Model}
use Rattle.bz_model.specs.Parting.{blocks_of, inequalities_of, inner_cost, terms_in, width_of}
use Rattle.bz_cut.specs.declared.faults.CutFault.{CutFault}
use Rattle.bz_cut.specs.declared.faults.CutFault.TheVariants.{Invalid, Wide}
use Rattle.bz_cut.specs.declared.records.Cut.{Cut}
use Rattle.bz_cut.specs.Cuts.{IsValid}
use Rattle.bz_cut.specs.CutTests.{cut_tests, form_tests, master_tests, own_tests, rhs_tests, sum_tests}
use Rattle.bz_cut.specs.Fits.{FitsCut}
use Rattle.bz_cut.specs.Rows.{AreMultipliers, master_at, own_at, rhs_at}
use Rattle.bz_cut.specs.SumTests.{equation, sum_is}
use Rattle.bz_cut.proofs.CutTold.{cut_told}
use Rattle.bz_cut.proofs.Steps.{all_below, below_all}

-- ---- numbers and sums
pub narrow_told : (z : ℤ) → Told (IsNarrow z)
narrow_told z = less_told (unsigned_abs z) (2 ^ 127)

sum_by : (ps : List (ℤ × ℤ)) (r : Result ℤ WideSum) → r ≡ fold_of ps → Told (IsNarrowSum ps)
sum_by ps (Ok z) e = inl (narrow_where_ok ps (Ok z) z e refl)
sum_by ps (Err w) e = inr (wide_where_err ps (Err w) w e refl)

pub sum_told : (ps : List (ℤ × ℤ)) → Told (IsNarrowSum ps)
sum_told ps = sum_by ps (fold_of ps) refl

pub equation_told : {F : Type 0} (broken wide : F) (multipliers : List (ℕ × ℤ)) (f : ℕ → ℤ) (product number : ℤ) → AllTold (equation broken wide multipliers f product number)
equation_told broken wide multipliers f product number = (sum_told (pairs_at multipliers f), λ n. (narrow_told product, λ p. (equal_told_z (dot multipliers f) number, λ e. tt)))

pub sum_is_told : {F : Type 0} (broken wide : F) (multipliers : List (ℕ × ℤ)) (f : ℕ → ℤ) (number : ℤ) → AllTold (sum_is broken wide multipliers f number)
sum_is_told broken wide multipliers f number = (sum_told (pairs_at multipliers f), λ n. (equal_told_z (dot multipliers f) number, λ e. tt))

-- ---- lists
below_told : (n : ℕ) (es : List (ℕ × ℤ)) → Told (AllBelow n es)
below_told n es = told_as (below_all n es) (all_below n es) (all_told (λ e. e.0 < n) es (λ e. less_told e.0 n))

pub multipliers_told : (count : ℕ) (es : List (ℕ × ℤ)) → Told (AreMultipliers count es)
multipliers_told count es = all_told (λ e. (e.0 < count) × (pos 0 <ℤ e.1)) es (λ e. both (less_told e.0 count) (λ l. less_told_z (pos 0) e.1))

-- ---- a cut
module _ (m : Model) (part : List ℕ) (cut : Cut) where
  form_told : AllTold (form_tests m part cut)
  form_told = (
    both (less_told 0 cut.block) (λ l. at_most_told cut.block (blocks_of part)),
    λ a. (
      below_told (width_of part 0) cut.alpha,
      λ b. (
        multipliers_told (length (inequalities_of m part cut.block)) cut.mu,
        λ c. (less_told_z (pos 0) cut.gcd, λ d. (at_most_told_z (pos 0) cut.p0, λ e. tt)),
      ),
    ),
  )

  sums_told : AllTold (sum_tests m part cut)
  sums_told = (
    narrow_told (cut.gcd *ℤ cut.p0),
    λ f. told_joined (each_below (width_of part cut.block) (own_tests m part cut) ++ each_below (width_of part 0) (master_tests m part cut)) (rhs_tests m part cut)
        (told_joined (each_below (width_of part cut.block) (own_tests m part cut)) (each_below (width_of part 0) (master_tests m part cut))
        (told_below (width_of part cut.block) (own_tests m part cut) (λ i. equation_told Invalid Wide cut.mu (λ n. coef (own_at (inequalities_of m part cut.block) n) i) ((cut.gcd *ℤ cut.p0) *ℤ coef (terms_in part cut.block (inner_cost m)) i) (neg_ℤ ((cut.gcd *ℤ cut.p0) *ℤ coef (terms_in part cut.block (inner_cost m)) i))))
        (λ h. told_below (width_of part 0) (master_tests m part cut) (λ i. equation_told Invalid Wide cut.mu (λ n. coef (master_at (inequalities_of m part cut.block) n) i) (cut.gcd *ℤ coef cut.alpha i) (cut.gcd *ℤ coef cut.alpha i))))
        (λ h. equation_told Invalid Wide cut.mu (rhs_at (inequalities_of m part cut.block)) (cut.gcd *ℤ cut.beta) (cut.gcd *ℤ cut.beta)),
  )

  pub cut_tests_told : AllTold (cut_tests m part cut)
  cut_tests_told = told_joined (form_tests m part cut) (sum_tests m part cut) form_told (λ h. sums_told)

-- it is valid and fits, or it has a first fault
pub cut_either : (m : Model) (part : List ℕ) (cut : Cut) → (IsValid m part cut × FitsCut m part cut) ⊎ ((f : CutFault) × IsFirstFault (cut_tests m part cut) f)
cut_either m part cut = by (hold_or_fault (cut_tests m part cut) (cut_tests_told m part cut))
  where
    by : HoldOrFault (cut_tests m part cut) → (IsValid m part cut × FitsCut m part cut) ⊎ ((f : CutFault) × IsFirstFault (cut_tests m part cut) f)
    by (inl h) = inl ((cut_told m part cut).0 h)
    by (inr g) = inr g
