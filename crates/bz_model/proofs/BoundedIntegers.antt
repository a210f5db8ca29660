-- The integer columns are master columns with two bounds.
use Rattle.std.specs.Prelude.{ℕ, ◌<◌, ◌≡◌, true, List, length, IsSome}
use Rattle.std.specs.List.{AllByRecursion, enumerate_from}
use Rattle.std.proofs.Common.{arith}
use Rattle.std.proofs.lemmas.Bool.{OnTrue_at}
use Rattle.bz_model.specs.declared.records.Column.{Column}
use Rattle.bz_model.specs.declared.records.Model.{Model}
use Rattle.bz_model.specs.Decomposed.{IsDecomposed}
use Rattle.bz_model.specs.Parting.{column_at, integers_of, part_of, position_of, width_of}
use Rattle.bz_model.specs.Strict.{IsStrictColumn}
use Rattle.bz_model.proofs.MeetingParts.{all_both, all_kept, numbers_within}
use Rattle.bz_model.proofs.Positions.{column_of_position_in, position_within_part}

-- a column of the master at its position, with two bounds
pub record IsBoundedInMaster (part : List ℕ) (e : ℕ × Column) : Type 0 where
  pub position : position_of part e.0 < width_of part 0
  pub column : column_at part 0 (position_of part e.0) ≡ e.0
  pub lower : IsSome e.1.lower
  pub upper : IsSome e.1.upper

bounded : (part : List ℕ) (e : ℕ × Column) → e.0 < length part → IsStrictColumn (part_of part e.0) e.1 → e.1.integer ≡ true → IsBoundedInMaster part e
bounded part e l s t =
    let home : part_of part e.0 ≡ 0 = OnTrue_at t s.integer in
    record {
      position = position_within_part part 0 e.0 l home;
      column = column_of_position_in part 0 e.0 l home;
      lower = (s.bounded home).0;
      upper = (s.bounded home).1;
    }

pub integers_bounded : (m : Model) (part : List ℕ) → IsDecomposed m part → AllByRecursion (IsBoundedInMaster part) (integers_of m)
integers_bounded m part d = all_kept (IsBoundedInMaster part) (λ e. e.1.integer) (enumerate_from 0 m.columns)
    (all_both (λ e. e.0 < length part) (λ e. IsStrictColumn (part_of part e.0) e.1) (λ e. e.1.integer ≡ true → IsBoundedInMaster part e) (enumerate_from 0 m.columns)
    (numbers_within 0 (length part) m.columns (omega (arith, d.partition.numbers)))
    d.strict.columns
    (λ e l s t. bounded part e l s t))
