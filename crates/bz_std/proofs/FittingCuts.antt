-- A valid cut fits where the bare cut of its multipliers does.
use Rattle.std.specs.Prelude.{ℕ, ◌<◌, ◌≤◌, ◌≡◌, ℤ, pos, ◌*ℤ◌, List, length}
use Rattle.std.proofs.Common.{refl, ap, sym, subst, ◌∙◌}
use Rattle.bz_algebra.specs.Numbers.{IsNarrow}
use Rattle.bz_algebra.specs.Sums.{coef, dot}
use Rattle.bz_algebra.proofs.Ring.{one_mul}
use Rattle.bz_num.specs.Fold.{IsNarrowSum, pairs_at}
use Rattle.bz_num.proofs.NarrowSums.{result_narrow, row_gives}
use Rattle.bz_model.specs.declared.Model.{Model}
use Rattle.bz_model.specs.Parting.{blocks_of, inequalities_of, inner_cost, terms_in, width_of}
use Rattle.bz_cut.specs.declared.Cut.{Cut}
use Rattle.bz_cut.specs.Fits.{FitsCut}
use Rattle.bz_std.specs.declared.making.MakeStop.{MakeStop}
use Rattle.bz_std.specs.declared.making.MakeStop.TheVariants as stop
use Rattle.bz_std.specs.CutsFrom.{BalancesCost, IsCutFrom}
use Rattle.bz_std.specs.Fitting.{IsFittingCut, IsWideCut, StopsFitting}
use Rattle.bz_std.specs.Making.{StopsCut, bare}
use Rattle.bz_std.proofs.CutNumbers.{bare_is_wide}
use Rattle.bz_std.proofs.CutsMade.{valid_cut}

-- a sum that is added up without a wide number is narrow
pub narrow_dot : (es : List (ℕ × ℤ)) (f : ℕ → ℤ) → IsNarrowSum (pairs_at es f) → IsNarrow (dot es f)
narrow_dot es f n = result_narrow (pairs_at es f) (dot es f) (row_gives es f (dot es f) n refl)

-- the cut's products are its sums, which are the bare cut's
own_fits : (m : Model) (part : List ℕ) (y : ℕ → ℤ) (raw : ℤ) (cut : Cut) (h : IsNarrow raw) → IsCutFrom m part cut.block y raw cut → FitsCut m part (bare cut.block cut.mu raw h) → FitsCut m part cut
own_fits m part y raw cut h c f = record {
  factor = subst IsNarrow c.eta h;
  own = λ i l. record {
    sum = (f.own i l).sum;
    other = subst (λ (z : ℤ). IsNarrow (z *ℤ coef (terms_in part cut.block (inner_cost m)) i)) (one_mul raw ∙ c.eta) (f.own i l).other;
  };
  master = λ i l. record {
    sum = (f.master i l).sum;
    other = subst IsNarrow (c.master i l) (narrow_dot cut.mu _ (f.master i l).sum);
  };
  rhs = record {
    sum = f.rhs.sum;
    other = subst IsNarrow c.rhs (narrow_dot cut.mu _ f.rhs.sum);
  };
}

pub bare_fits : (m : Model) (part : List ℕ) (b : ℕ) (y : ℕ → ℤ) (raw : ℤ) (cut : Cut) (h : IsNarrow raw) → IsCutFrom m part b y raw cut → FitsCut m part (bare b cut.mu raw h) → FitsCut m part cut
bare_fits m part b y raw cut h c f = own_fits m part y raw cut h
    (subst (λ (k : ℕ). IsCutFrom m part k y raw cut) e c)
    (subst (λ (k : ℕ). FitsCut m part (bare k cut.mu raw h)) e f)
  where
    e : b ≡ cut.block
    e = sym c.block

module _ (m : Model) (part : List ℕ) (b : ℕ) (y : ℕ → ℤ) (raw : ℤ) (h : IsNarrow raw) (first : 0 < b) (last : b ≤ blocks_of part) (balanced : BalancesCost m part b y raw) where
  -- the cut that was made and fits
  pub is_fitting : (cut : Cut) → IsCutFrom m part b y raw cut → FitsCut m part cut → IsFittingCut m part b y raw cut
  is_fitting cut c f = record { made = c; valid = valid_cut m part b y raw cut first last balanced c; fits = f }

  -- the cut that was made doesn't fit
  pub is_wide : (cut : Cut) → IsCutFrom m part b y raw cut → (IsFittingCut m part b y raw cut → ⊥) → IsWideCut m part b y raw
  is_wide cut c n = record { mu = cut.mu; entries = c.mu; narrow = h; wide = λ f. n (is_fitting cut c (bare_fits m part b y raw cut h c f)) }

  -- none was made
  pub fitting_stops : (s : MakeStop) → StopsCut m part b y s → StopsFitting m part b y raw s
  fitting_stops stop.OutOfMemory t = tt
  fitting_stops stop.Wide t = record { mu = t.mu; entries = t.entries; narrow = h; wide = bare_is_wide m part b t.mu raw h t.wide }
