-- The values that are printed are the coordinates of each point of the parts.
use Rattle.std.proofs.Common.{ℕ, zero, suc, ◌+◌, ◌<◌, ◌≤◌, ◌≡◌, refl, sym, subst, arith, ℤ, pos, ◌*ℤ◌, ◌<ℤ◌, List, [], ◌∷◌, length, Option, Some}
use Rattle.std.specs.List.{AllByRecursion, enumerate_from, slice_get}
use Rattle.bz_algebra.specs.Fractions.{Fraction}
use Rattle.bz_algebra.proofs.Ring.{mul_positive, positive-ne}
use Rattle.bz_model.specs.declared.BlockPart.{BlockPart}
use Rattle.bz_model.specs.declared.Parts.{Parts}
use Rattle.bz_model.specs.Parting.{blocks_of, column_at, part_of, position_of, width_of}
use Rattle.bz_model.specs.PartPoints.{HasBlockShape, IsPointOf}
use Rattle.bz_model.specs.Points.{coordinate}
use Rattle.bz_model.specs.Splits.{Decomposition}
use Rattle.bz_model.proofs.Positions.{column_of_position_in, part_within_blocks, position_within_part}
use Rattle.bz_report.specs.LowestTerms.{IsLowestOf, lowest}
use Rattle.bz_report.specs.Values.{HasValues, ValuesAreCoordinates, block_value, value_at, value_in, value_in_block}
use Rattle.bz_report.proofs.Lowest.{lowest_is_lowest, same_through}

-- an item beside its number has what all have
pub numbered_at : {X : Type 0} (P : ℕ × X → Type 0) (n : ℕ) (xs : List X) (b : ℕ) (x : X) → AllByRecursion P (enumerate_from n xs) → slice_get xs b ≡ Some x → P (n + b, x)
numbered_at P n [] b x h e = absurd cc
numbered_at {X} P n (y ∷ ys) zero x h e =
    let same : y ≡ x = cc in
    let first : n ≡ n + 0 = omega arith in
    subst (λ (k : ℕ). P (k, x)) first (subst (λ (z : X). P (n, z)) same h.0)
numbered_at P n (y ∷ ys) (suc b) x h e =
    let next : n + 1 + b ≡ n + suc b = omega arith in
    subst (λ (k : ℕ). P (k, x)) next (numbered_at P (n + 1) ys b x h.1 e)

-- there is an item at each place below the length
pub item_there : {X : Type 0} (xs : List X) (i : ℕ) → i < length xs → (x : X) × (slice_get xs i ≡ Some x)
item_there [] i l = absurd (omega (arith, l))
item_there (x ∷ xs) zero l = (x, refl)
item_there (x ∷ xs) (suc i) l = item_there xs i (omega (arith, l))

-- a fraction over a positive denominator is the number x / q
pub record IsValueOf (v : Fraction) (x q : ℤ) : Type 0 where
  pub positive : (pos 0) <ℤ v.den
  pub same : x *ℤ v.den ≡ v.num *ℤ q

-- the number that it is, in lowest terms
lowest_value : (v : Fraction) (x q : ℤ) → IsValueOf v x q → IsLowestOf (record { num = x; den = q }) (lowest v)
lowest_value v x q h =
    let own = lowest_is_lowest v h.positive in
    record {
      reduced = own.reduced;
      same = same_through (lowest v).num (lowest v).den x q v.num v.den (positive-ne v.den h.positive) own.same h.same;
    }

-- the part of a block that is there
pub block_there : (d : Decomposition) (parts : Parts) (b : ℕ) → HasValues d parts → suc b ≤ blocks_of d.part → (block : BlockPart) × (slice_get parts.blocks b ≡ Some block)
block_there d parts b h l = item_there parts.blocks b (omega (arith, l, h.shape.blocks))

module _ (d : Decomposition) (parts : Parts) (p : List ℤ) (q : ℤ) (h : HasValues d parts) (r : IsPointOf d.model d.part parts p q) where
  in_block : (b i j : ℕ) (block : BlockPart) → slice_get parts.blocks b ≡ Some block → i < width_of d.part (suc b) → column_at d.part (suc b) i ≡ j → IsValueOf (value_in_block parts.master (slice_get parts.blocks b) i) (coordinate p j) q
  in_block b i j block is l e =
      let number : 1 + b ≡ suc b = omega arith in
      let own : HasBlockShape d.part (1 + b, block) = numbered_at (HasBlockShape d.part) 1 parts.blocks b block h.shape.each is in
      let all : (i : ℕ) → i < width_of d.part (1 + b) → coordinate p (column_at d.part (1 + b) i) *ℤ (parts.master.den *ℤ block.times) ≡ coordinate block.y i *ℤ q =
      numbered_at (λ e. (i : ℕ) → i < width_of d.part e.0 → coordinate p (column_at d.part e.0 i) *ℤ (parts.master.den *ℤ e.1.times) ≡ coordinate e.1.y i *ℤ q) 1 parts.blocks b block r.blocks is in
      let at : coordinate p (column_at d.part (suc b) i) *ℤ (parts.master.den *ℤ block.times) ≡ coordinate block.y i *ℤ q =
      subst (λ (k : ℕ). i < width_of d.part k → coordinate p (column_at d.part k i) *ℤ (parts.master.den *ℤ block.times) ≡ coordinate block.y i *ℤ q) number (all i) l in
      let here : IsValueOf (block_value parts.master block i) (coordinate p j) q = record {
        positive = mul_positive parts.master.den block.times h.shape.master.den own.0;
        same = subst (λ (k : ℕ). coordinate p k *ℤ (parts.master.den *ℤ block.times) ≡ coordinate block.y i *ℤ q) e at;
      } in
      subst (λ (o : Option BlockPart). IsValueOf (value_in_block parts.master o i) (coordinate p j) q) (sym is) here

  in_part : (b i j : ℕ) → b ≤ blocks_of d.part → i < width_of d.part b → column_at d.part b i ≡ j → IsValueOf (value_in parts b i) (coordinate p j) q
  in_part zero i j l w e = record {
    positive = h.shape.master.den;
    same = subst (λ (k : ℕ). coordinate p k *ℤ parts.master.den ≡ coordinate parts.master.x i *ℤ q) e (r.master i w);
  }
  in_part (suc b) i j l w e =
      let block = block_there d parts b h l in
      in_block b i j block.0 block.1 w e

  at_column : (j : ℕ) → j < length d.model.columns → IsValueOf (value_at d.part parts j) (coordinate p j) q
  at_column j l =
      let inside : j < length d.part = omega (arith, l, h.columns) in
      in_part (part_of d.part j) (position_of d.part j) j (part_within_blocks d.part j)
      (position_within_part d.part (part_of d.part j) j inside refl) (column_of_position_in d.part (part_of d.part j) j inside refl)

pub values_are_coordinates : ValuesAreCoordinates
values_are_coordinates d parts p q h r j l = lowest_value (value_at d.part parts j) (coordinate p j) q (at_column d parts p q h r j l)
