-- The values of parts and their objective, as they are worked out.
use Rattle.std.proofs.Common.{ℕ, zero, suc, ◌+◌, ◌-◌, ◌<◌, ◌≤◌, ◌≡◌, refl, sym, ap, subst, ◌∙◌, arith, ℤ, pos, ◌*ℤ◌, ◌<ℤ◌, List, length, get_or, Option, Some}
use Rattle.std.specs.List.{slice_get}
use Rattle.std.proofs.lemmas.Option.{slice_get_read}
use Rattle.bz_algebra.specs.Fractions.{Fraction, IsSameNumber}
use Rattle.bz_algebra.proofs.Ring.{mul_positive}
use Rattle.bz_num.specs.declared.Frac.{Frac}
use Rattle.bz_num.specs.Lowest.{IsLowest}
use Rattle.bz_model.specs.declared.BlockPart.{BlockPart}
use Rattle.bz_model.specs.declared.Model.{Model}
use Rattle.bz_model.specs.declared.Parts.{Parts}
use Rattle.bz_model.specs.declared.stated.Stated.{Stated}
use Rattle.bz_model.specs.Parting.{blocks_of, width_of}
use Rattle.bz_model.specs.PartPoints.{HasBlockShape}
use Rattle.bz_model.specs.Splits.{Decomposition}
use Rattle.bz_model.specs.Stated.{IsReduced, objective_of, stated_fraction}
use Rattle.bz_model.proofs.Lowest.{reduced}
use Rattle.bz_event.specs.Nodes.{value_of}
use Rattle.bz_report.specs.LowestTerms.{lowest}
use Rattle.bz_report.specs.Values.{HasValues, block_value, objective_at, value_in, value_in_block}
use Rattle.bz_report.proofs.Coordinates.{numbered_at}
use Rattle.bz_report.proofs.Lowest.{lowest_terms_are_one}

-- a fraction divided by its numbers' greatest common divisor is the one in lowest terms
pub reduced_is_lowest : (num den : ℤ) (f : Frac) → (pos 0) <ℤ den → IsLowest num den f → record { num = f.num; den = f.den } ≡ lowest (record { num = num; den = den })
reduced_is_lowest num den f positive l =
    let whole : Fraction = record { num = num; den = den } in
    let low : Fraction = record { num = f.num; den = f.den } in
    (lowest_terms_are_one whole positive).1 low (record { reduced = reduced num den f l; same = l.value })

-- what stands at the place of a block that is there
pub record IsBlockAt (d : Decomposition) (parts : Parts) (part i : ℕ) (block : BlockPart) : Type 0 where
  pub times : (pos 0) <ℤ block.times
  pub within : i < length block.y
  pub value : block_value parts.master block i ≡ value_in parts part i

pub block_at : (d : Decomposition) (parts : Parts) (part i : ℕ) (blocks : List BlockPart) (block : BlockPart) → HasValues d parts → (part ≡ 0 → ⊥) → part ≤ blocks_of d.part → i < width_of d.part part → blocks ≡ parts.blocks → block ≡ get_or blocks (part - 1) block → IsBlockAt d parts part i block
block_at d parts zero i blocks block h other l w same e = absurd (other refl)
block_at d parts (suc b) i blocks block h other l w same e =
    let inside : b < length parts.blocks = omega (arith, l, h.shape.blocks) in
    let place : suc b - 1 ≡ b = omega arith in
    let read : block ≡ get_or parts.blocks b block = subst (λ (k : ℕ). block ≡ get_or parts.blocks k block) place (subst (λ (xs : List BlockPart). block ≡ get_or xs (suc b - 1) block) same e) in
    let is : slice_get parts.blocks b ≡ Some block = slice_get_read parts.blocks (length parts.blocks) b block refl inside read in
    let own : HasBlockShape d.part (1 + b, block) = numbered_at (HasBlockShape d.part) 1 parts.blocks b block h.shape.each is in
    let number : 1 + b ≡ suc b = omega arith in
    let width : length block.y ≡ width_of d.part (suc b) = own.1 ∙ ap (width_of d.part) number in
    record {
      times = own.0;
      within = omega (arith, w, width);
      value = sym (ap (λ (o : Option BlockPart). value_in_block parts.master o i) is);
    }

-- the objective that the master's value states is the one in lowest terms
pub stated_is_lowest : (d : Decomposition) (parts : Parts) (m : Model) (value den : ℤ) (s : Stated) → m ≡ d.model → value ≡ value_of d.model d.part parts.master → den ≡ parts.master.den → (pos 0) <ℤ parts.master.den → IsSameNumber (stated_fraction s) (objective_of m value den) → IsReduced (stated_fraction s) → stated_fraction s ≡ lowest (objective_at d parts)
stated_is_lowest d parts m value den s model worth over positive same r =
    let above : (pos 0) <ℤ (d.model.scale *ℤ parts.master.den) = mul_positive d.model.scale parts.master.den d.model.scale_positive positive in
    let first : IsSameNumber (stated_fraction s) (objective_of d.model value den) = subst (λ (x : Model). IsSameNumber (stated_fraction s) (objective_of x value den)) model same in
    let second : IsSameNumber (stated_fraction s) (objective_of d.model (value_of d.model d.part parts.master) den) = subst (λ (v : ℤ). IsSameNumber (stated_fraction s) (objective_of d.model v den)) worth first in
    let third : IsSameNumber (stated_fraction s) (objective_at d parts) = subst (λ (n : ℤ). IsSameNumber (stated_fraction s) (objective_of d.model (value_of d.model d.part parts.master) n)) over second in
    (lowest_terms_are_one (objective_at d parts) above).1 (stated_fraction s) (record { reduced = r; same = third })
