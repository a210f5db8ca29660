-- The inner cost speaks of columns, and that of a part of the part's positions.
use Rattle.std.specs.Prelude.{ℕ, Bool, true, false, ℤ, List, length, if◌then◌else◌}
use Rattle.std.proofs.Common.{sym, subst}
use Rattle.bz_algebra.specs.Sums.{AllBelow}
use Rattle.bz_model.specs.declared.records.Model.{Model}
use Rattle.bz_model.specs.Decomposed.{IsDecomposed}
use Rattle.bz_model.specs.Parting.{inner_cost, negated, terms_in, width_of}
use Rattle.bz_model.specs.Splits.{Decomposition, IsSplit}
use Rattle.bz_model.proofs.PartSums.{negated_within, terms_in_within}

-- a split's model may be solved by its partition
pub decomposed : (d : Decomposition) → IsSplit d → IsDecomposed d.model d.part
decomposed d s = record { columns = s.indexes; partition = s.partition; strict = s.strict }

either_way : (n : ℕ) (b : Bool) (es : List (ℕ × ℤ)) → AllBelow n es → AllBelow n (if b then negated es else es)
either_way n true es h = negated_within n es h
either_way n false es h = h

pub cost_within : (m : Model) (part : List ℕ) → IsDecomposed m part → AllBelow (length part) (inner_cost m)
cost_within m part d = subst (λ (n : ℕ). AllBelow n (inner_cost m)) (sym d.partition.numbers) (either_way (length m.columns) m.maximise m.cost d.columns.cost)

pub cost_terms_within : (m : Model) (part : List ℕ) (b : ℕ) → IsDecomposed m part → AllBelow (width_of part b) (terms_in part b (inner_cost m))
cost_terms_within m part b d = terms_in_within part b (inner_cost m) (cost_within m part d)
