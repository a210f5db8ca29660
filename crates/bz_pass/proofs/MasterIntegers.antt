-- Every feasible point lies in the box of the whole model.
use Rattle.std.specs.Prelude.{ℕ, ℤ, List}
use Rattle.std.specs.List.{AllByRecursion, enumerate_from}
use Rattle.bz_model.specs.declared.Column.{Column}
use Rattle.bz_model.specs.declared.Model.{Model}
use Rattle.bz_model.specs.Meeting.{MeetsAllParts}
use Rattle.bz_model.specs.Parting.{integers_of}
use Rattle.bz_model.specs.Points.{coordinate, IsFeasible, IsWithinBounds, IsWhole}
use Rattle.bz_model.proofs.BoundedIntegers.{IsBoundedInMaster, integers_bounded}
use Rattle.bz_model.proofs.MeetingParts.{all_both}
use Rattle.bz_tree.specs.Boxes.{Box, IsRootBox, LiesIn}
use Rattle.bz_model.specs.Decomposed.{IsDecomposed}
use Rattle.bz_pass.proofs.CutsHold.{meets}
use Rattle.bz_pass.proofs.Fractional.{above_ceiling, below_floor}
use Rattle.bz_model.proofs.Numbered.{all_numbered}

-- an integer column with what is known of it at a feasible point
record IsIntegerAt (part : List ℕ) (p : List ℤ) (q : ℤ) (e : ℕ × Column) : Type 0 where
  in_master : IsBoundedInMaster part e
  bounds : IsWithinBounds e.1.lower e.1.upper (coordinate p e.0) q
  whole : IsWhole (coordinate p e.0) q

integers_at : (m : Model) (part : List ℕ) (p : List ℤ) (q : ℤ) → IsDecomposed m part → MeetsAllParts m part p q → AllByRecursion (IsIntegerAt part p q) (integers_of m)
integers_at m part p q d f =
    all_both _ _ _ (integers_of m) (integers_bounded m part d)
    (all_both (λ e. IsWithinBounds e.1.lower e.1.upper (coordinate p e.0) q) (λ e. IsWhole (coordinate p e.0) q) (λ e. IsWithinBounds e.1.lower e.1.upper (coordinate p e.0) q × IsWhole (coordinate p e.0) q) (integers_of m) f.bounds f.whole (λ e g w. (g, w)))
    (λ e b g. record { in_master = b; bounds = g.0; whole = g.1 })

meeting_lies_in_root : (m : Model) (part : List ℕ) (root : Box) (p : List ℤ) (q : ℤ) → IsDecomposed m part → IsRootBox m root → MeetsAllParts m part p q → LiesIn m root p q
meeting_lies_in_root m part root p q d r f = all_both _ _ _ (enumerate_from 0 (integers_of m)) r.rounded
    (all_numbered (IsIntegerAt part p q) 0 (integers_of m) (integers_at m part p q d f))
    (λ e c a. (
      above_ceiling e.1.1.lower (coordinate root.lower e.0) (coordinate p e.1.0) q a.in_master.lower f.positive c.0 a.bounds.at_least a.whole,
      below_floor e.1.1.upper (coordinate root.upper e.0) (coordinate p e.1.0) q a.in_master.upper f.positive c.1 a.bounds.at_most a.whole,
    ))

-- every feasible point lies in the box of the whole model
pub lies_in_root : (m : Model) (part : List ℕ) (root : Box) (p : List ℤ) (q : ℤ) → IsDecomposed m part → IsRootBox m root → IsFeasible m p q → LiesIn m root p q
lies_in_root m part root p q d r f = meeting_lies_in_root m part root p q d r (meets m part p q d f)
