-- From bounds of the inner cost to the objective: a point that reaches the bound is optimal.
use Rattle.std.specs.Prelude.{ℕ, ◌≡◌, Bool, true, false, ℤ, pos, ◌+ℤ◌, ◌*ℤ◌, ◌≤ℤ◌, ◌<ℤ◌, neg_ℤ, List, MatchBool, if◌then◌else◌}
use Rattle.std.proofs.Common.{refl, ap, sym, ◌∙◌, arith}
use Rattle.std.proofs.lemmas.Int.{ints}
use Rattle.bz_algebra.specs.Fractions.{IsSameNumber}
use Rattle.bz_algebra.specs.Sums.{dot}
use Rattle.bz_algebra.proofs.Ring.{add_mul, neg_mul, mul_left, mul_right, mul_le_right, cancel_le_right, cancel_lt_left, le_antisym}
use Rattle.bz_model.specs.declared.Model.{Model}
use Rattle.bz_model.specs.Parting.{negated, inner_cost}
use Rattle.bz_model.specs.Points.{coordinate, objective, IsFeasible, IsOptimal}
use Rattle.bz_model.proofs.PartSums.{dot_negated}

-- ---- from the inner cost to the objective
-- a / q is v / d, and b / q' is no less
record IsLeast (d a b q q' v : ℤ) : Type 0 where
  den : (pos 0) <ℤ d
  reached : a *ℤ d ≡ v *ℤ q
  bound : (v *ℤ q') ≤ℤ (b *ℤ d)

-- a / q is at most b / q'
least : (d a b q q' v : ℤ) → (pos 0) <ℤ q → (pos 0) <ℤ q' → IsLeast d a b q q' v → (a *ℤ q') ≤ℤ (b *ℤ q)
least d a b q q' v hq hq' h = cancel_le_right (a *ℤ q') (b *ℤ q) d h.den
    (omega (
      arith,
      ints,
      mul_right a q' d,
      ap (λ (t : ℤ). t *ℤ q') h.reached,
      mul_right v q q',
      mul_le_right (v *ℤ q') (b *ℤ d) q (omega (arith, ints)) h.bound,
      mul_right b d q,
    ))

-- (a + k q) / (s q) is not greater than (b + k q') / (s q')
no_less : (a b k s q q' : ℤ) → (pos 0) <ℤ s → (a *ℤ q') ≤ℤ (b *ℤ q) → ((b +ℤ (k *ℤ q')) *ℤ (s *ℤ q)) <ℤ ((a +ℤ (k *ℤ q)) *ℤ (s *ℤ q')) → ⊥
no_less a b k s q q' hs h l =
    let left : (b +ℤ (k *ℤ q')) *ℤ (s *ℤ q) ≡ s *ℤ ((b *ℤ q) +ℤ ((k *ℤ q') *ℤ q)) = mul_left (b +ℤ (k *ℤ q')) s q ∙ ap (λ (t : ℤ). s *ℤ t) (add_mul b (k *ℤ q') q) in
    let right : (a +ℤ (k *ℤ q)) *ℤ (s *ℤ q') ≡ s *ℤ ((a *ℤ q') +ℤ ((k *ℤ q) *ℤ q')) = mul_left (a +ℤ (k *ℤ q)) s q' ∙ ap (λ (t : ℤ). s *ℤ t) (add_mul a (k *ℤ q) q') in
    let g : ((b *ℤ q) +ℤ ((k *ℤ q') *ℤ q)) <ℤ ((a *ℤ q') +ℤ ((k *ℤ q) *ℤ q')) = cancel_lt_left s ((b *ℤ q) +ℤ ((k *ℤ q') *ℤ q)) ((a *ℤ q') +ℤ ((k *ℤ q) *ℤ q')) (omega (arith, ints)) (rw (← left, ← right) l) in
    omega (arith, ints, g, h, mul_right k q q')

-- (a + k q) / (s q) is (v + k d) / (s d) where a / q is v / d
same : (a v k s q d : ℤ) → a *ℤ d ≡ v *ℤ q → (a +ℤ (k *ℤ q)) *ℤ (s *ℤ d) ≡ (v +ℤ (k *ℤ d)) *ℤ (s *ℤ q)
same a v k s q d e =
    mul_left (a +ℤ (k *ℤ q)) s d
    ∙ ap (λ (t : ℤ). s *ℤ t) (add_mul a (k *ℤ q) d ∙ omega (arith, ints, e, mul_right k q d, add_mul v (k *ℤ d) q) ∙ sym (add_mul v (k *ℤ d) q))
    ∙ sym (mul_left (v +ℤ (k *ℤ d)) s q)

-- the same for the objective in its two senses: `a` and `b` are the model's costs of two points
judged : (maximise : Bool) (d a b k s q q' v : ℤ) (ai bi : ℤ) → ai ≡ (if maximise then neg_ℤ a else a) → bi ≡ (if maximise then neg_ℤ b else b) → (pos 0) <ℤ s → (pos 0) <ℤ q → (pos 0) <ℤ q' → IsLeast d ai bi q q' v → MatchBool maximise (((a +ℤ (k *ℤ q)) *ℤ (s *ℤ q')) <ℤ ((b +ℤ (k *ℤ q')) *ℤ (s *ℤ q))) (((b +ℤ (k *ℤ q')) *ℤ (s *ℤ q)) <ℤ ((a +ℤ (k *ℤ q)) *ℤ (s *ℤ q'))) → ⊥
judged true d a b k s q q' v ai bi ea eb hs hq hq' h l =
    let g : (ai *ℤ q') ≤ℤ (bi *ℤ q) = least d ai bi q q' v hq hq' h in
    let g' : (b *ℤ q) ≤ℤ (a *ℤ q') = omega (arith, ints, rw (ea, eb, neg_mul a q', neg_mul b q) at g) in
    no_less b a k s q' q hs g' l
judged false d a b k s q q' v ai bi ea eb hs hq hq' h l =
    let g : (ai *ℤ q') ≤ℤ (bi *ℤ q) = least d ai bi q q' v hq hq' h in
    no_less a b k s q q' hs (rw (← ea, ← eb) g) l

stated : (maximise : Bool) (d a k s q v ai : ℤ) → ai ≡ (if maximise then neg_ℤ a else a) → ai *ℤ d ≡ v *ℤ q → (a +ℤ (k *ℤ q)) *ℤ (s *ℤ d) ≡ ((if maximise then neg_ℤ v else v) +ℤ (k *ℤ d)) *ℤ (s *ℤ q)
stated true d a k s q v ai ea e = same a (neg_ℤ v) k s q d (omega (arith, ints, neg_mul a d, neg_mul v q, e, ap (λ (t : ℤ). t *ℤ d) ea))
stated false d a k s q v ai ea e = same a v k s q d (ap (λ (t : ℤ). t *ℤ d) (sym ea) ∙ e)

pub either : (maximise : Bool) (es : List (ℕ × ℤ)) (f : ℕ → ℤ) → dot (if maximise then negated es else es) f ≡ (if maximise then neg_ℤ (dot es f) else dot es f)
either true es f = dot_negated es f
either false es f = refl

-- ---- the law
-- A feasible point whose inner cost is at most v / den is optimal where no feasible point's is less, and v / den with the
-- model's sign, constant and scale is its objective.
pub least_is_optimal : (m : Model) (den v : ℤ) (p : List ℤ) (q : ℤ) → (pos 0) <ℤ den → IsFeasible m p q → (dot (inner_cost m) (coordinate p) *ℤ den) ≤ℤ (v *ℤ q) → ((p' : List ℤ) (q' : ℤ) → IsFeasible m p' q' → (v *ℤ q') ≤ℤ (dot (inner_cost m) (coordinate p') *ℤ den)) → IsOptimal m p q × IsSameNumber (objective m p q) (record { num = (if m.maximise then neg_ℤ v else v) +ℤ (m.constant *ℤ den); den = m.scale *ℤ den })
least_is_optimal m den v p q some f most bound = (
  record {
    feasible = f;
    best = λ p' q' f' better. judged m.maximise den (dot m.cost (coordinate p)) (dot m.cost (coordinate p')) m.constant m.scale q q' v
        (dot (inner_cost m) (coordinate p)) (dot (inner_cost m) (coordinate p'))
        (either m.maximise m.cost (coordinate p)) (either m.maximise m.cost (coordinate p'))
        m.scale_positive f.positive f'.positive
        (record { den = some; reached = reached; bound = bound p' q' f' })
        better;
  },
  stated m.maximise den (dot m.cost (coordinate p)) m.constant m.scale q v (dot (inner_cost m) (coordinate p)) (either m.maximise m.cost (coordinate p)) reached,
)
  where
    reached : dot (inner_cost m) (coordinate p) *ℤ den ≡ v *ℤ q
    reached = le_antisym _ _ most (bound p q f)
