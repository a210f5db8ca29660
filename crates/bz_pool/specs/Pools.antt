-- Lists of cuts, no two the same.
use Rattle.std.specs.Prelude.{ℕ, ◌-◌, ◌^◌, ◌<◌, ◌≡◌, List, length, min, Some}
use Rattle.std.specs.List.{AllByRecursion, slice_get}
use Rattle.bz_cut.specs.declared.Cut.{Cut}
use Rattle.bz_cut.specs.Points.{AreSame}

-- what contracts see of a pool: its cuts, and how many more can be added without memory
pub record PoolView : Type 0 where
  pub cuts : List Cut
  pub spare : ℕ

-- a cut's number has 32 bits
abbrev pub pool_limit : ℕ
pool_limit = 2 ^ 32 - 1

-- the room that is left of so much, as far as cuts can be numbered
abbrev pub spare_of : ℕ → List Cut → ℕ
spare_of capacity cuts = min capacity pool_limit - length cuts

-- the known cut at this number is the same as the cut
pub record IsPlaceOf (cuts : List Cut) (cut : Cut) (number : ℕ) : Type 0 where
  pub known : Cut
  pub is_known : slice_get cuts number ≡ Some known
  pub same : AreSame known cut

-- no cut of the list is the same
abbrev pub IsNew : List Cut → Cut → Type 0
IsNew cuts cut = AllByRecursion (λ known. ¬ AreSame known cut) cuts

-- cuts that are the same stand at one place
abbrev pub AreApart : List Cut → Type 0
AreApart cuts = (i j : ℕ) (a b : Cut) → slice_get cuts i ≡ Some a → slice_get cuts j ≡ Some b → AreSame a b → i ≡ j

-- no two cuts are the same, and each has a number
pub record IsPool (cuts : List Cut) : Type 0 where
  pub apart : AreApart cuts
  pub few : length cuts < 2 ^ 32
