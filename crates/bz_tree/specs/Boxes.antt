-- Boxes: for each integer column, in file order, the ends that its coordinate lies between.
use Rattle.std.specs.Prelude.{ℤ, ◌≡◌, ◌*ℤ◌, ◌≤ℤ◌, List, length, IfSome}
use Rattle.std.specs.List.{AllByRecursion, enumerate_from}
use Rattle.bz_num.specs.Rounding.{IsCeiling, IsFloor}
use Rattle.bz_model.specs.declared.Model.{Model}
use Rattle.bz_model.specs.Parting.{integers_of}
use Rattle.bz_model.specs.Points.{coordinate}

pub record Box : Type 0 where
  pub lower : List ℤ
  pub upper : List ℤ

-- the box of the whole model: the bounds of each integer column, rounded inward
pub record IsRootBox (m : Model) (box : Box) : Type 0 where
  pub lowers : length box.lower ≡ length (integers_of m)
  pub uppers : length box.upper ≡ length (integers_of m)
  pub rounded : AllByRecursion
      (λ e. IfSome e.1.1.lower (λ f. IsCeiling f (coordinate box.lower e.0))
      × IfSome e.1.1.upper (λ f. IsFloor f (coordinate box.upper e.0)))
      (enumerate_from 0 (integers_of m))

-- each integer coordinate of the point p / q lies between its ends
abbrev pub LiesIn : Model → Box → List ℤ → ℤ → Type 0
LiesIn m box p q = AllByRecursion
    (λ e. ((coordinate box.lower e.0 *ℤ q) ≤ℤ coordinate p e.1.0)
    × (coordinate p e.1.0 ≤ℤ (coordinate box.upper e.0 *ℤ q)))
    (enumerate_from 0 (integers_of m))
