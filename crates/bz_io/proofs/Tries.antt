-- What is known of a reader or a writer after tries that were interrupted.
use Rattle.std.proofs.Common.{◌≡◌, inl, inr, arith, ℕ, zero, suc, ◌+◌, List, take, Option, Some, None, Result, Ok, Err, refl, sym, subst, ◌∙◌}
use Rattle.std.specs.Io.KnownBytes.{Appends, Consumes, Keeps, ReadConsumes, WriteAppends}
use Rattle.std.specs.IoError.{error_kind}
use Rattle.std.specs.declared.io.Error.{Error}
use Rattle.std.specs.declared.io.ErrorKind.TheVariants as kind
use Rattle.bz_io.specs.Trying.{Interrupts, GivesUp, HandsOn, TriesAgain}

keeps_same : (known : Option (List ℕ)) → Keeps known known
keeps_same None = tt
keeps_same (Some bytes) = refl

keeps_then : (first then now : Option (List ℕ)) → Keeps first then → Keeps then now → Keeps first now
keeps_then None then now p q = tt
keeps_then (Some first) None now p q = absurd p
keeps_then (Some first) (Some then) None p q = absurd q
keeps_then (Some first) (Some then) (Some now) p q = q ∙ p

-- where no interrupted try changes what is told, no number of them does
keeps_through : {S : Type 0} (may : S → Result ℕ Error → S → Type 0) (tells : S → Option (List ℕ)) → ((before after : S) (error : Error) → may before (Err error) after → Keeps (tells before) (tells after))
    → (tries : ℕ) (first now : S) → Interrupts may tries first now → Keeps (tells first) (tells now)
keeps_through {S} may tells one zero first now same = subst (λ (s : S). Keeps (tells first) (tells s)) (sym same) (keeps_same (tells first))
keeps_through may tells one (suc tries) first now (then, error, before, last, interrupted) =
    keeps_then _ _ _ (keeps_through may tells one tries first then before) (one then now error last)

-- one interrupted try more
pub interrupts_more : {S : Type 0} (may : S → Result ℕ Error → S → Type 0) (tries : ℕ) (first then now : S) (error : Error) → Interrupts may tries first then → may then (Err error) now → error_kind error ≡ kind.Interrupted
    → Interrupts may (tries + 1) first now
interrupts_more may tries first then now error before last interrupted =
    let one_more : suc tries ≡ tries + 1 = omega arith in
    subst (λ (n : ℕ). Interrupts may n first now) one_more (then, error, before, last, interrupted)

consumes_then : (first then now : Option (List ℕ)) (result : Result ℕ Error) (piece : List ℕ) → Keeps first then → ReadConsumes then now result piece → ReadConsumes first now result piece
consumes_then first then now (Ok count) piece p q = (consumes first then p q.0, q.1)
  where
    consumes : (first then : Option (List ℕ)) → Keeps first then → Consumes then now (take count piece) → Consumes first now (take count piece)
    consumes None then p q = tt
    consumes (Some first) None p q = absurd p
    consumes (Some first) (Some then) p q = subst (λ (bytes : List ℕ). Consumes (Some bytes) now (take count piece)) p q
consumes_then first then now (Err _) piece p q = keeps_then first then now p q

appends_then : (first then now : Option (List ℕ)) (result : Result ℕ Error) (bytes : List ℕ) → Keeps first then → WriteAppends then now result bytes → WriteAppends first now result bytes
appends_then first then now (Ok count) bytes p q = appends first then p q
  where
    appends : (first then : Option (List ℕ)) → Keeps first then → Appends then now (take count bytes) → Appends first now (take count bytes)
    appends None then p q = tt
    appends (Some first) None p q = absurd p
    appends (Some first) (Some then) p q = subst (λ (known : List ℕ). Appends (Some known) now (take count bytes)) p q
appends_then first then now (Err _) bytes p q = keeps_then first then now p q

-- a read that was tried again
pub reads_again : {S : Type 0} (may : S → Result ℕ Error → S → Type 0) (remaining : S → Option (List ℕ)) (piece : S → List ℕ) → ((before after : S) (answer : Result ℕ Error) → may before answer after → ReadConsumes (remaining before) (remaining after) answer (piece after))
    → (first : S) (result : Result ℕ Error) (last : S) → TriesAgain may first result last → ReadConsumes (remaining first) (remaining last) result (piece last)
reads_again {S} may remaining piece one first result last again = elim again [ inl h ↦ handed h | inr h ↦ given_up result h ]
  where
    through : (tries : ℕ) (now : S) → Interrupts may tries first now → Keeps (remaining first) (remaining now)
    through tries now = keeps_through may remaining (λ before after error step. one before after (Err error) step) tries first now

    handed : HandsOn may first result last → ReadConsumes (remaining first) (remaining last) result (piece last)
    handed h = consumes_then _ _ _ result (piece last) (through h.tries h.then h.interrupted) (one h.then last result h.answered)

    given_up : (r : Result ℕ Error) → GivesUp may first r last → ReadConsumes (remaining first) (remaining last) r (piece last)
    given_up (Ok _) h = absurd h.late
    given_up (Err _) h = through h.tries last h.interrupted

-- a write that was tried again
pub writes_again : {S : Type 0} (may : S → Result ℕ Error → S → Type 0) (contents : S → Option (List ℕ)) (bytes : List ℕ) → ((before after : S) (answer : Result ℕ Error) → may before answer after → WriteAppends (contents before) (contents after) answer bytes)
    → (first : S) (result : Result ℕ Error) (last : S) → TriesAgain may first result last → WriteAppends (contents first) (contents last) result bytes
writes_again {S} may contents bytes one first result last again = elim again [ inl h ↦ handed h | inr h ↦ given_up result h ]
  where
    through : (tries : ℕ) (now : S) → Interrupts may tries first now → Keeps (contents first) (contents now)
    through tries now = keeps_through may contents (λ before after error step. one before after (Err error) step) tries first now

    handed : HandsOn may first result last → WriteAppends (contents first) (contents last) result bytes
    handed h = appends_then _ _ _ result bytes (through h.tries h.then h.interrupted) (one h.then last result h.answered)

    given_up : (r : Result ℕ Error) → GivesUp may first r last → WriteAppends (contents first) (contents last) r bytes
    given_up (Ok _) h = absurd h.late
    given_up (Err _) h = through h.tries last h.interrupted
