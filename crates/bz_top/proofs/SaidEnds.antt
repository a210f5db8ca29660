-- How the program ends behind what a job comes to.
use Rattle.std.proofs.Common.{◌≡◌, ◌≤◌, inl, inr, refl, ℕ, List, Option, Some, None, arith}
use Rattle.std.specs.Prelude.{Result, Ok, Err, OnOk, OnErr}
use Rattle.std.proofs.lemmas.Bool.{cases_lt}
use Rattle.bz_io.specs.declared.faults.FaultCount.{FaultCount}
use Rattle.bz_io.specs.Desk.{Telling}
use Rattle.bz_io.specs.Faults.{HasRisen, last_count}
use Rattle.bz_io.specs.Sink.{Takes, TakesPrefix}
use Rattle.bz_io.specs.Told.{WhereTold}
use Rattle.bz_model.specs.Splits.{Decomposition}
use Rattle.bz_top.specs.declared.job.Job.{Job}
use Rattle.bz_top.specs.declared.said.Holding.{Holding}
use Rattle.bz_top.specs.declared.said.Said.{Said}
use Rattle.bz_top.specs.declared.status.Refusal.{Refusal}
use Rattle.bz_top.specs.declared.status.Refusal.TheVariants as refusal
use Rattle.bz_top.specs.declared.status.Status.TheVariants as status
use Rattle.bz_top.specs.Claims.{BreaksOff, CountsFiles, EndsSettled, IsOfJob, Shown, ShowsOf}
use Rattle.bz_top.specs.Ends.{status_after}
use Rattle.bz_top.specs.Loads.{Decomposes, ShownHolding, ShownParts}
use Rattle.bz_top.specs.Texts.{said_text}
use Rattle.bz_top.proofs.Laws.{texts_say_one_thing}
use Rattle.bz_top.proofs.Settled.{after_settled, holding_settled, parts_settled}

pub holding_shown : (told : Option Telling) (j : Job) (holding : Holding) → ShownHolding told j holding → Shown told j (Said.Holds holding)
holding_shown None j holding h = tt
holding_shown (Some desk) j holding h = h

pub split_shown : (told : Option Telling) (j : Job) (d : Decomposition) (rows : List ℕ) → ShownParts told j d → Shown told j (Said.Parts d rows)
split_shown None j d rows h = tt
split_shown (Some desk) j d rows h = h

pub said_done : {T E : Type 0} (put : Result T E) (told : Option Telling) (j : Job) (said : Said) (before after : Option (List ℕ)) → IsOfJob j said → Shown told j said
    → OnOk put (WhereTold (Takes (said_text said)) before after) → status_after put status.Done ≡ status.Done → ShowsOf told j before after
said_done (Ok _) told j said before after of_job shown printed e = record { said = said; of_job = of_job; shown = shown; printed = printed }
said_done (Err _) told j said before after of_job shown printed e = absurd cc

pub said_written : {T E : Type 0} (put : Result T E) (told : Option Telling) (j : Job) (said : Said) (before after : Option (List ℕ)) (faults now : FaultCount) → IsOfJob j said → Shown told j said
    → now.number ≡ faults.number → OnErr put (WhereTold (TakesPrefix (said_text said)) before after) → status_after put status.Done ≡ status.Write → BreaksOff told j before after faults now
said_written (Ok _) told j said before after faults now of_job shown loads printed e = absurd cc
said_written (Err _) told j said before after faults now of_job shown loads printed e = record {
  text = said_text said;
  said = inl (record { said = said; of_job = of_job; shown = shown; text_is = refl; loads = loads });
  printed = printed;
}

-- what the files show settles the status
pub said_settled : {T E : Type 0} (put : Result T E) (told : Option Telling) (j : Job) (said : Said) → IsOfJob j said → Decomposes told j → Shown told j said
    → EndsSettled told j (status_after put status.Done)
said_settled put told j (Said.Holds holding) of_job decomposed shown =
    after_settled put told j status.Done (holding_settled texts_say_one_thing told j holding of_job decomposed (shown_holding told shown))
  where
    shown_holding : (told : Option Telling) → Shown told j (Said.Holds holding) → ShownHolding told j holding
    shown_holding None h = tt
    shown_holding (Some desk) h = h
said_settled put told j (Said.Parts d rows) of_job decomposed shown =
    after_settled put told j status.Done (parts_settled texts_say_one_thing told j d of_job.0 decomposed (shown_parts told shown))
  where
    shown_parts : (told : Option Telling) → Shown told j (Said.Parts d rows) → ShownParts told j d
    shown_parts None h = tt
    shown_parts (Some desk) h = h

-- no count falls
risen_no_fall : (before after : FaultCount) → HasRisen before after → before.number ≤ after.number
risen_no_fall before after risen =
    elim (cases_lt before.number last_count) [ inl below ↦ omega (arith, risen.rise below) | inr above ↦ omega (arith, risen.full above) ]

pub loads_no_fall : {T : Type 0} (r : Result T Refusal) (before after : FaultCount) → CountsFiles r before after → before.number ≤ after.number
loads_no_fall (Ok _) before after h = omega (arith, h)
loads_no_fall (Err (refusal.Model _)) before after h = omega (arith, h)
loads_no_fall (Err (refusal.Part _)) before after h = omega (arith, h)
loads_no_fall (Err (refusal.Split _)) before after h = omega (arith, h)
loads_no_fall (Err (refusal.Cert _)) before after h = omega (arith, h)
loads_no_fall (Err (refusal.Check _)) before after h = omega (arith, h)
loads_no_fall (Err (refusal.Read _)) before after h = risen_no_fall before after h
loads_no_fall (Err (refusal.TooLong _)) before after h = omega (arith, h)
loads_no_fall (Err refusal.Memory) before after h = omega (arith, h)
