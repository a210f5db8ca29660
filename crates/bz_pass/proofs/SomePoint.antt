-- The parts of a certificate are those of some point: its coordinates over the product of all denominators.
use Rattle.std.specs.Prelude.{ℕ, zero, suc, ◌+◌, ◌-◌, ◌<◌, ◌≡◌, cond, eqb, ℤ, pos, ◌*ℤ◌, ◌<ℤ◌, List, [], ◌∷◌, length}
use Rattle.std.specs.List.{AllByRecursion, enumerate_from}
use Rattle.std.proofs.Common.{refl, ap, sym, ◌∙◌, arith}
use Rattle.std.proofs.lemmas.Int.{ints}
use Rattle.std.proofs.lemmas.Bool.{ne_eqb}
use Rattle.std.proofs.Math.IntN.{*ℤ_comm}
use Rattle.bz_algebra.proofs.Ring.{*ℤ_assoc, one_mul, mul_left, mul_positive}
use Rattle.bz_model.specs.declared.BlockPart.{BlockPart}
use Rattle.bz_model.specs.declared.Model.{Model}
use Rattle.bz_model.specs.declared.Parts.{Parts}
use Rattle.bz_model.specs.Parting.{part_of, width_of, column_at, position_of}
use Rattle.bz_model.specs.Points.{coordinate}
use Rattle.bz_model.proofs.MeetingParts.{all_then}
use Rattle.bz_model.proofs.Positions.{IsColumnAt, column_at_is}
use Rattle.bz_model.specs.PartPoints.{HasPointShape, IsPointOf}
use Rattle.bz_model.proofs.Numbered.{list_of, length-list_of, coordinate-list_of}

-- the product of the blocks' factors
abbrev all_times : List BlockPart → ℤ
all_times [] = pos 1
all_times (b ∷ bs) = b.times *ℤ all_times bs

times_positive : (n : ℕ) (bs : List BlockPart) → AllByRecursion (λ e. pos 0 <ℤ e.1.times) (enumerate_from n bs) → pos 0 <ℤ all_times bs
times_positive n [] h = omega (arith, ints)
times_positive n (b ∷ bs) h = mul_positive b.times (all_times bs) h.0 (times_positive (n + 1) bs h.1)

-- the number at position i of the block at place k, over the product of all factors
abbrev raised : List BlockPart → ℕ → ℕ → ℤ
raised [] k i = pos 0
raised (b ∷ bs) zero i = coordinate b.y i *ℤ all_times bs
raised (b ∷ bs) (suc k) i = b.times *ℤ raised bs k i

-- the numbers of each block are its own, over its factor
raised_are : (n : ℕ) (c : ℤ) (bs : List BlockPart) (f : ℕ → ℕ → ℤ) → ((k i : ℕ) → f (n + k) i ≡ c *ℤ raised bs k i) → AllByRecursion (λ e. (i : ℕ) → f e.0 i *ℤ e.1.times ≡ coordinate e.1.y i *ℤ (c *ℤ all_times bs)) (enumerate_from n bs)
raised_are n c [] f h = tt
raised_are n c (b ∷ bs) f h = (first, all_then _ _ (enumerate_from (n + 1) bs) (raised_are (n + 1) (c *ℤ b.times) bs f later) (λ e g i. g i ∙ ap (λ (t : ℤ). coordinate e.1.y i *ℤ t) (*ℤ_assoc c b.times (all_times bs))))
  where
    first : (i : ℕ) → f n i *ℤ b.times ≡ coordinate b.y i *ℤ (c *ℤ (b.times *ℤ all_times bs))
    first i =
        ap (λ (t : ℤ). t *ℤ b.times) (ap (λ (k : ℕ). f k i) (omega arith) ∙ h 0 i)
        ∙ turn c (coordinate b.y i) (all_times bs) b.times
      where
        turn : (c y r t : ℤ) → (c *ℤ (y *ℤ r)) *ℤ t ≡ y *ℤ (c *ℤ (t *ℤ r))
        turn c y r t = ap (λ (s : ℤ). s *ℤ t) (mul_left c y r) ∙ *ℤ_assoc y (c *ℤ r) t ∙ ap (λ (s : ℤ). y *ℤ s) (*ℤ_assoc c r t ∙ ap (λ (s : ℤ). c *ℤ s) (*ℤ_comm r t))

    later : (k i : ℕ) → f ((n + 1) + k) i ≡ (c *ℤ b.times) *ℤ raised bs k i
    later k i = ap (λ (j : ℕ). f j i) (omega arith) ∙ h (suc k) i ∙ sym (*ℤ_assoc c b.times (raised bs k i))

module _ (m : Model) (part : List ℕ) (parts : Parts) where
  -- the number at a position of a part
  number : ℕ → ℕ → ℤ
  number b i = cond (eqb b 0) (coordinate parts.master.x i *ℤ all_times parts.blocks) (raised parts.blocks (b - 1) i)

  number-master : (i : ℕ) → number 0 i ≡ coordinate parts.master.x i *ℤ all_times parts.blocks
  unfolding number
  number-master i = refl

  number-block : (k i : ℕ) → number (1 + k) i ≡ pos 1 *ℤ raised parts.blocks k i
  unfolding number
  number-block k i = rw (ne_eqb (1 + k) 0 (λ e. omega arith)) (ap (λ (j : ℕ). raised parts.blocks j i) (omega arith) ∙ sym (one_mul (raised parts.blocks k i)))

  pub the_point : List ℤ
  the_point = list_of (length m.columns) (λ j. number (part_of part j) (position_of part j))

  at_position : length part ≡ length m.columns → (b i : ℕ) → i < width_of part b → coordinate the_point (column_at part b i) ≡ number b i
  unfolding the_point
  at_position n b i l =
      let r : IsColumnAt part b i (column_at part b i) = column_at_is part b i l in
      let w : column_at part b i < length m.columns = omega (arith, r.within, n) in
      coordinate-list_of (length m.columns) (λ j. number (part_of part j) (position_of part j)) (column_at part b i) w
      ∙ ap (λ (c : ℕ). number c (position_of part (column_at part b i))) r.part_is
      ∙ ap (number b) r.position

  counted : length the_point ≡ length m.columns
  unfolding the_point
  counted = length-list_of (length m.columns) _

  pub is_point : length part ≡ length m.columns → HasPointShape m part parts → IsPointOf m part parts the_point (parts.master.den *ℤ all_times parts.blocks)
  is_point n s = record {
    positive = mul_positive parts.master.den (all_times parts.blocks) s.master.den (times_positive 1 parts.blocks (all_then _ _ (enumerate_from 1 parts.blocks) s.each (λ e h. h.0)));
    numbers = counted;
    master = λ i l. ap (λ (t : ℤ). t *ℤ parts.master.den) (at_position n 0 i l ∙ number-master i) ∙ in_master (coordinate parts.master.x i) (all_times parts.blocks) parts.master.den;
    blocks = all_then (λ e. (i : ℕ) → number e.0 i *ℤ e.1.times ≡ coordinate e.1.y i *ℤ (pos 1 *ℤ all_times parts.blocks)) _ (enumerate_from 1 parts.blocks) (raised_are 1 (pos 1) parts.blocks number number-block)
        (λ e g i l. ap (λ (t : ℤ). t *ℤ (parts.master.den *ℤ e.1.times)) (at_position n e.0 i l) ∙ in_block (number e.0 i) parts.master.den e.1.times (coordinate e.1.y i) (all_times parts.blocks) (g i));
  }
    where
      in_master : (x t d : ℤ) → (x *ℤ t) *ℤ d ≡ x *ℤ (d *ℤ t)
      in_master x t d = *ℤ_assoc x t d ∙ ap (λ (s : ℤ). x *ℤ s) (*ℤ_comm t d)

      in_block : (a d t y r : ℤ) → a *ℤ t ≡ y *ℤ (pos 1 *ℤ r) → a *ℤ (d *ℤ t) ≡ y *ℤ (d *ℤ r)
      in_block a d t y r e = mul_left a d t ∙ ap (λ (s : ℤ). d *ℤ s) (e ∙ ap (λ (s : ℤ). y *ℤ s) (one_mul r)) ∙ mul_left d y r
