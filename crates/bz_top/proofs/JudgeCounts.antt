-- A judged certificate leaves the desk's count of faults as it was.
use Rattle.std.specs.Prelude.{◌≡◌, IfErr, Result, Ok, Err}
use Rattle.bz_io.specs.declared.faults.FaultCount.{FaultCount}
use Rattle.bz_model.specs.Splits.{Decomposition}
use Rattle.bz_cert.specs.declared.Certificate.{Certificate}
use Rattle.bz_top.specs.declared.said.Holding.{Holding}
use Rattle.bz_top.specs.declared.status.Refusal.{Refusal}
use Rattle.bz_top.specs.declared.status.Refusal.TheVariants as refusal
use Rattle.bz_top.specs.Claims.{CountsFiles}
use Rattle.bz_top.specs.Loads.{RefusesCheck}

pub judge_counts : (d : Decomposition) (c : Certificate) (r : Result Holding Refusal) (before after : FaultCount) → IfErr r (RefusesCheck d c) →
    after.number ≡ before.number → CountsFiles r before after
judge_counts d c (Ok _) before after h e = e
judge_counts d c (Err (refusal.Model _)) before after h e = absurd h
judge_counts d c (Err (refusal.Part _)) before after h e = absurd h
judge_counts d c (Err (refusal.Split _)) before after h e = absurd h
judge_counts d c (Err (refusal.Cert _)) before after h e = absurd h
judge_counts d c (Err (refusal.Check _)) before after h e = e
judge_counts d c (Err (refusal.Read _)) before after h e = absurd h
judge_counts d c (Err (refusal.TooLong _)) before after h e = absurd h
judge_counts d c (Err refusal.Memory) before after h e = e
