use Rattle.std.proofs.Common.{◌≡◌, ◌==◌, ℕ, ◌<◌, ◌≤◌, length, get_or, List, arith, sym, eq-eqb}
use Rattle.std.specs.List.{position_or_len}
use Rattle.std.proofs.lemmas.Bool.{ne_eqb}
use Rattle.std.proofs.lemmas.List.Sums.{position_or_len_is}
use Rattle.bz_cert.proofs.spelling.place_of.Goals as goal

-- the first place of a byte, or the length where it is nowhere
first_place : (xs : List ℕ) (b i : ℕ) → i ≤ length xs → ((k : ℕ) → k < i → get_or xs k 0 ≡ b → ⊥) →
    (i < length xs → get_or xs i 0 ≡ b) → i ≡ position_or_len (λ x. x == b) xs
first_place xs b i within before here =
    sym (position_or_len_is (λ x. x == b) xs i 0 within (λ k h. ne_eqb (get_or xs k 0) b (before k h)) (λ h. eq-eqb (get_or xs i 0) b (here h)))

pub returns-then-b-byte-clause-place : goal.returns-then-b-byte-clause-place
returns-then-b-byte-clause-place c =
    first_place c.args.text.now c.args.byte c.loop-at.at (omega arith) c.loop-at.invariant (λ _. c.if-b-byte.true)

pub returns-clause-place : goal.returns-clause-place
returns-clause-place c = first_place c.args.text.now c.args.byte (length c.args.text.now) (omega arith)
    (λ k h. c.loop-at.invariant k (omega arith)) (λ h. absurd (omega arith))
