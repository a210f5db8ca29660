-- What a test tells: a statement, exactly where it answers true.
use Rattle.std.proofs.Common.{◌≡◌, ◌↔◌, refl, ◌∙◌, sym, Bool, true, false, IsTrue}
use Rattle.std.proofs.lemmas.Bool.{false≢true, iff_false}

-- a test that fails where the statement doesn't hold
pub refuted : {P : Type 0} → (P → ⊥) → IsTrue false ↔ P
refuted n = (λ f. absurd (false≢true f), λ p. absurd (n p))

pub shown : {P : Type 0} → P → IsTrue true ↔ P
shown p = (λ t. p, λ q. refl)

-- a test of one statement is one of another that holds where the one does
pub told : {b : Bool} {P Q : Type 0} → IsTrue b ↔ P → (P → Q) → (Q → P) → IsTrue b ↔ Q
told t to from = (λ b. to (t.0 b), λ q. t.1 (from q))

-- a test that fails, of what another statement says too
pub told_not : {b : Bool} {P Q : Type 0} → IsTrue b ↔ P → b ≡ false → (Q → P) → IsTrue b ↔ Q
told_not t f from = (λ b. absurd (false≢true (sym f ∙ b)), λ q. t.1 (from q))
