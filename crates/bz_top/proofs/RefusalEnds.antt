-- How the program ends behind a refusal.
use Rattle.std.proofs.Common.{◌≡◌, ◌⊎◌, inl, inr, refl, ℕ, List, Option, sym, subst, ◌∙◌}
use Rattle.std.specs.Prelude.{Result, Ok, Err, OnOk, OnErr}
use Rattle.bz_io.specs.declared.faults.FaultCount.{FaultCount}
use Rattle.bz_io.specs.Desk.{Telling}
use Rattle.bz_io.specs.Sink.{Takes, TakesPrefix}
use Rattle.bz_io.specs.Told.{WhereTold}
use Rattle.bz_top.specs.declared.job.Job.{Job}
use Rattle.bz_top.specs.declared.status.Refusal.{Refusal}
use Rattle.bz_top.specs.declared.status.Refusal.TheVariants as refusal
use Rattle.bz_top.specs.declared.status.Status.{Status}
use Rattle.bz_top.specs.declared.status.Status.TheVariants as status
use Rattle.bz_top.specs.Claims.{BreaksOff, BreaksOffAsked, BreaksOffUsage, CountsRefused, EndsSettled, IsCause, RefusesAsked}
use Rattle.bz_top.specs.Ends.{IsRefused, refusal_text, status_after, status_of}
use Rattle.bz_top.specs.Jobs.{SomeJob}
use Rattle.bz_top.specs.Loads.{Decomposes, IsEarly}
use Rattle.bz_top.specs.Refusing.{Refuses}
use Rattle.bz_top.specs.Texts.{memory_text}
use Rattle.bz_top.proofs.Laws.{texts_say_one_thing}
use Rattle.bz_top.proofs.Loads.{memory_cause}
use Rattle.bz_top.proofs.Settled.{refusal_settled, write_settled}

-- the status of a refusal is not that of a failed write
not_write : (r : Refusal) → status_of r ≡ status.Write → ⊥
not_write (refusal.Model _) e = absurd cc
not_write (refusal.Part _) e = absurd cc
not_write (refusal.Split _) e = absurd cc
not_write (refusal.Cert _) e = absurd cc
not_write (refusal.Check _) e = absurd cc
not_write (refusal.Read _) e = absurd cc
not_write (refusal.TooLong _) e = absurd cc
not_write refusal.Memory e = absurd cc

-- ---- what follows of a refusal whose text was put
pub refuses_breaks : (told : Option Telling) (j : Job) (r : Refusal) (before after : Option (List ℕ)) (faults now loads loaded : FaultCount) (s : Status) → IsCause told j r → CountsRefused r loads loaded → Refuses j r before after faults now s → s ≡ status.Write
    → BreaksOff told j before after loads loaded
refuses_breaks told j r before after faults now loads loaded s cause counted (inl whole) e = absurd (not_write r (sym whole.status_is ∙ e))
refuses_breaks told j r before after faults now loads loaded s cause counted (inr part) e = record {
  text = refusal_text j r;
  said = inr (record { refusal = r; cause = cause; text_is = refl; loads = counted });
  printed = part.printed;
}

pub refuses_settled : (told : Option Telling) (j : Job) (r : Refusal) (before after : Option (List ℕ)) (faults now : FaultCount) (s : Status) → IsEarly r ⊎ Decomposes told j → IsCause told j r → Refuses j r before after faults now s → EndsSettled told j s
refuses_settled told j r before after faults now s end cause (inl whole) =
    subst (λ (t : Status). EndsSettled told j t) (sym whole.status_is) (refusal_settled texts_say_one_thing told j r end cause)
refuses_settled told j r before after faults now s end cause (inr part) =
    subst (λ (t : Status). EndsSettled told j t) (sym part.status_is) (write_settled told j)

-- ---- words that there is no memory for
pub memory_refused : {T E : Type 0} (put : Result T E) (words : List (List ℕ)) (told : Option Telling) (before after : Option (List ℕ)) → SomeJob words
    → OnOk put (WhereTold (Takes memory_text) before after) → IsRefused (status_after put status.Memory) → RefusesAsked words told (status_after put status.Memory) before after
memory_refused (Ok _) words told before after some printed is = record {
  job = some.job;
  asked = some.asked;
  refuses = record { refusal = refusal.Memory; status_is = refl; cause = memory_cause told some.job; printed = printed };
}
memory_refused (Err _) words told before after some printed is = absurd is

pub memory_written : {T E : Type 0} (put : Result T E) (words : List (List ℕ)) (told : Option Telling) (before after : Option (List ℕ)) (faults : FaultCount) → SomeJob words
    → OnErr put (WhereTold (TakesPrefix memory_text) before after) → status_after put status.Memory ≡ status.Write → BreaksOffAsked words told before after faults faults ⊎ BreaksOffUsage words before after
memory_written (Ok _) words told before after faults some printed is = absurd cc
memory_written (Err _) words told before after faults some printed is = inl (record {
  job = some.job;
  asked = some.asked;
  breaks = record {
    text = memory_text;
    said = inr (record { refusal = refusal.Memory; cause = memory_cause told some.job; text_is = refl; loads = refl });
    printed = printed;
  };
})
