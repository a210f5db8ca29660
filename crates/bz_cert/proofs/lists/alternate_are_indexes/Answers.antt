use Rattle.std.proofs.Common.{ℤ, pos, List, [], ◌∷◌, ◌≤◌, ◌-◌, ◌↔◌, ◌≡◌, suc, length, take, drop, get_or, arith, rules, ap, sym, subst, ◌∙◌, FitsSigned, to_z-of_z}
use Rattle.std.specs.Int.{w128}
use Rattle.std.proofs.Math.Seq.{take-length}
use Rattle.std.specs.List.{AllByRecursion}
use Rattle.bz_cert.specs.CertFaults.{IsIndex, alternate}
use Rattle.bz_cert.proofs.lists.alternate_are_indexes.Goals as goal

-- one pair further on
step : (ns : List ℤ) (P : Type 0) → 2 ≤ length ns → IsIndex (get_or ns 0 (pos 0)) → (AllByRecursion IsIndex (alternate ns) ↔ P) →
    (AllByRecursion IsIndex (alternate (take (length ns - 2) (drop 2 ns))) ↔ P)
step [] P long first h = absurd (omega arith)
step (n ∷ []) P long first h = absurd (omega arith)
step (n ∷ m ∷ ns) P long first h =
    let l : suc (suc (length ns)) - 2 ≡ length ns = omega arith in
    let same : take (suc (suc (length ns)) - 2) ns ≡ ns = ap (λ k. take k ns) l ∙ take-length ns in
    subst (λ (xs : List ℤ). AllByRecursion IsIndex (alternate xs) ↔ P) (sym same) (λ all. h.0 (first, all), λ p. (h.1 p).1)

pub pairs-preserved : goal.pairs-preserved
pairs-preserved c =
    let f : FitsSigned w128 (get_or c.pairs.rest.now 0 (pos 0)) = search rules in
    step c.pairs.rest.now _ (search rules) (subst IsIndex (to_z-of_z f) (c.is_index.ensures.0 (search rules))) c.pairs.invariant
