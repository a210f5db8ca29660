-- What the tests of a cut tell.
use Rattle.std.specs.Prelude.{ℕ, ◌≡◌, ◌↔◌, ◌⊎◌, List}
use Rattle.bz_model.specs.declared.Model.{Model}
use Rattle.bz_cut.specs.declared.faults.CutFault.{CutFault}
use Rattle.bz_cut.specs.declared.records.Cut.{Cut}
use Rattle.bz_cut.specs.CutTests.{cut_tests}
use Rattle.bz_cut.specs.Fits.{IsValidAndFits}
use Rattle.bz_first.specs.Tests.{AllHold, IsFirstFault}

-- The tests of a cut all hold exactly where it is valid and fits.
abbrev pub CutTestsTell : Type 0
CutTestsTell = (m : Model) (part : List ℕ) (cut : Cut) → AllHold (cut_tests m part cut) ↔ IsValidAndFits m part cut

-- A cut has one first fault at most, and none where it is valid and fits; and it has one where it isn't so.
pub record CutFaultsAreUnique : Type 0 where
  pub unique : (m : Model) (part : List ℕ) (cut : Cut) (f g : CutFault) →
      IsFirstFault (cut_tests m part cut) f → IsFirstFault (cut_tests m part cut) g → f ≡ g
  pub faulty : (m : Model) (part : List ℕ) (cut : Cut) (f : CutFault) →
      IsFirstFault (cut_tests m part cut) f → ¬ IsValidAndFits m part cut
  pub either : (m : Model) (part : List ℕ) (cut : Cut) →
      IsValidAndFits m part cut ⊎ ((f : CutFault) × IsFirstFault (cut_tests m part cut) f)
