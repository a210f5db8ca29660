-- Trying again what the system interrupts.
use Rattle.std.specs.Prelude.{◌≡◌, ◌≢◌, ◌⊎◌, ◌≤◌, ◌-◌, ◌^◌, ℕ, zero, suc, Result, Err, IfErr, IsErrAnd}
use Rattle.std.specs.IoError.{error_kind}
use Rattle.std.specs.declared.io.Error.{Error}
use Rattle.std.specs.declared.io.ErrorKind.TheVariants as kind

-- so many tries, one after another, were all interrupted
abbrev pub Interrupts : {S : Type 0} → (S → Result ℕ Error → S → Type 0) → ℕ → S → S → Type 0
Interrupts may zero first now = now ≡ first
Interrupts {S} may (suc tries) first now = (then : S) × (error : Error) × Interrupts may tries first then × may then (Err error) now × (error_kind error ≡ kind.Interrupted)

-- All tries but the last were interrupted. The last was not, and its answer is handed on.
pub record HandsOn {S : Type 0} (may : S → Result ℕ Error → S → Type 0) (first : S) (result : Result ℕ Error) (last : S) : Type 0 where
  pub tries : ℕ
  pub then : S
  pub interrupted : Interrupts may tries first then
  pub answered : may then result last
  pub other : IfErr result (λ error. error_kind error ≢ kind.Interrupted)

-- At least 2^64 - 1 tries were interrupted.
pub record GivesUp {S : Type 0} (may : S → Result ℕ Error → S → Type 0) (first : S) (result : Result ℕ Error) (last : S) : Type 0 where
  pub tries : ℕ
  pub all : 2 ^ 64 - 1 ≤ tries
  pub interrupted : Interrupts may tries first last
  pub late : IsErrAnd result (λ error. error_kind error ≡ kind.TimedOut)

-- What one try may do is a relation between the state before it, its answer and the state after it. Tries that are
-- interrupted are made again, any other answer is handed on as it is, and nothing is tried after it.
abbrev pub TriesAgain : {S : Type 0} → (S → Result ℕ Error → S → Type 0) → S → Result ℕ Error → S → Type 0
TriesAgain may first result last = HandsOn may first result last ⊎ GivesUp may first result last
