-- What the end of a phase shows: the first phase doesn't fall, and the second ends at a basis that has an answer.
use Rattle.std.specs.Prelude.{ℕ, zero, suc, ◌<◌, ◌⊎◌, pos, ◌≤ℤ◌, ◌<ℤ◌, Bool, true, false, length}
use Rattle.std.proofs.Common.{refl, ◌∙◌, arith, inl, inr}
use Rattle.std.proofs.lemmas.Int.{ints, by_lt_z}
use Rattle.bz_algebra.proofs.Bounded.{all_or_some, below_suc, by_lt}
use Rattle.bz_tableau.specs.declared.programs.Lp.{Lp}
use Rattle.bz_tableau.specs.Programs.{program_of, lp_equations}
use Rattle.bz_tableau.specs.Tables.{Table, IsTableauOf, shown, factor_column}
use Rattle.bz_lex.specs.declared.phase.PhaseEnd.{PhaseEnd}
use Rattle.bz_lex.specs.declared.phase.PhaseEnd.TheVariants.{Least, Falls}
use Rattle.bz_lex.specs.Phases.{IsPhaseEnd, IsPhaseTable}
use Rattle.bz_tableau.specs.WidePlaces.{HasAnswerSigns}
use Rattle.bz_lex.specs.Shown.{HasPoint, IsFree, IsFreeFall, IsFirstFall}
use Rattle.bz_lex.proofs.RelaxedTables.{relaxed_rises}
use Rattle.bz_lex.proofs.ShownAnswers.{ray_column, least_signs_are, ray_signs_are}

-- a phase stays with its program
pub phase_tableau : (relaxed : Bool) (lp : Lp) (old new : Table) → IsTableauOf relaxed lp old → IsPhaseTable old new → IsTableauOf relaxed lp new
phase_tableau relaxed lp old new h p = record { relaxed_is = p.relaxed ∙ h.relaxed_is; table = p.table (lp_equations relaxed lp) h.table }

-- ---- the first phase
pub no_fall : (lp : Lp) (t : Table) → IsTableauOf true lp t → (column : ℕ) → IsFreeFall t column → ⊥
no_fall lp t h column f = let r = relaxed_rises lp t h column f.inside f.falls in omega (arith, ints, f.free r.0 r.1, r.2)

-- ---- the first column of a ray
-- below n there is none, or a first
first_below : (P : ℕ → Type 0) → ((j : ℕ) → P j ⊎ (P j → ⊥)) → (n : ℕ) → ((j : ℕ) → j < n → P j → ⊥) ⊎ ((j : ℕ) × P j × ((k : ℕ) → k < j → P k → ⊥))
first_below P test zero = inl (λ j b. absurd (omega (arith, b)))
first_below P test (suc n) = elim (first_below P test n) [
  | inl none ↦ elim (test n) [
    | inl here ↦ inr (n, here, none)
    | inr not ↦ inl (below_suc n (λ j. P j → ⊥) none not)
  ]
  | inr f ↦ inr f
]

free_or_not : (t : Table) (j : ℕ) → IsFree t j ⊎ (IsFree t j → ⊥)
free_or_not t j = elim (all_or_some (length t.basis) (λ i. (shown t i j) ≤ℤ (pos 0)) (λ i. (pos 0) <ℤ (shown t i j)) (λ i. by_lt_z (pos 0) (shown t i j) (λ l. inr l) (λ l. inl l))) [
  | inl free ↦ inl free
  | inr f ↦ inr (λ free. omega (arith, ints, free f.0 f.1, f.2))
]

fall_or_not : (t : Table) (j : ℕ) → IsFreeFall t j ⊎ (IsFreeFall t j → ⊥)
fall_or_not t j = by_lt j (factor_column t)
    (λ inside. by_lt_z (shown t (length t.basis) j) (pos 0)
    (λ falls. elim (free_or_not t j) [ inl free ↦ inl (record { inside = inside; falls = falls; free = free }) | inr not ↦ inr (λ f. not f.free) ])
    (λ rises. inr (λ f. omega (arith, ints, rises, f.falls))))
    (λ outside. inr (λ f. omega (arith, outside, f.inside)))

first_fall : (t : Table) (c : ℕ) → IsFreeFall t c → (j : ℕ) × IsFirstFall t j
first_fall t c f = elim (first_below (λ j. IsFreeFall t j) (fall_or_not t) (suc c)) [
  | inl none ↦ absurd (none c (omega arith) f)
  | inr r ↦ (r.0, record { here = r.1; first = r.2 })
]

-- ---- the second phase
-- its end has the signs of an answer
pub end_signs : (lp : Lp) (t : Table) → IsTableauOf false lp t → HasPoint t → (end : PhaseEnd) → IsPhaseEnd t end → HasAnswerSigns false (program_of lp) t.basis
end_signs lp t h p Least c = least_signs_are false lp t h p c
end_signs lp t h p (Falls column) f = let r = first_fall t column f in ray_signs_are false lp t h r.0 p (record { unrelaxed = refl; ray = ray_column lp t h r.0 r.1 })
