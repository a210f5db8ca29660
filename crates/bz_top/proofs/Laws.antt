-- The laws that the claims stand on.
use Rattle.std.proofs.Common.{Option, inr}
use Rattle.bz_pass.proofs.Judging.{some_point, tree_optimal, tree_refutes}
use Rattle.bz_pass.proofs.Rays.{ray_unbounded}
use Rattle.bz_mps.proofs.ModelLaws.{text-one_model}
use Rattle.bz_mps.proofs.TextLaws.{model-no_fault}
use Rattle.bz_part.proofs.PartitionLaw.{not_both, one_partition}
use Rattle.bz_split.proofs.TheFaults.{fault_exactly}
use Rattle.bz_cert.proofs.TextsOnce.{one_certificate}
use Rattle.bz_cert.proofs.TextFaults.{no_fault}
use Rattle.bz_check.proofs.AllTests.{fault_fails}
use Rattle.std.specs.Prelude.{Result, Ok, Err}
use Rattle.bz_io.specs.Desk.{Telling}
use Rattle.bz_model.specs.Splits.{Decomposition, IsSplit}
use Rattle.bz_top.specs.declared.job.Job.{Job}
use Rattle.bz_top.specs.declared.status.Refusal.{Refusal}
use Rattle.bz_top.specs.Loads.{Accepted, Decomposes, EndsDecomposed}
use Rattle.bz_top.proofs.Settled.{AreExclusive, all_decomposed}
use Rattle.bz_top.proofs.Showing.{AreTrue}

-- what a certificate that passes says is true
pub verdicts_are_true : AreTrue
verdicts_are_true = record { optimal = tree_optimal; infeasible = tree_refutes; unbounded = ray_unbounded; point = some_point }

-- a text says one thing at most, and what has a fault is not right
pub texts_say_one_thing : AreExclusive
texts_say_one_thing = record {
  model = text-one_model;
  model_fault = λ text m f reads is. model-no_fault text m f.line f.kind reads is;
  part = one_partition;
  part_fault = λ text m p f reads is. not_both text m p f.line f.kind reads is;
  split = λ m p f strict is. (fault_exactly m p).0 (f, is) strict;
  certificate = one_certificate;
  text = λ text c f reads is. no_fault text c f.line f.kind reads is;
  check = λ d c f decomposed is passes fits. fault_fails d.model d.part c f decomposed is (passes, fits);
}

-- the decomposition that the files give is the one that was made a split
pub decomposes : (told : Option Telling) (j : Job) (s : Decomposition) → Accepted told j s → IsSplit s → Decomposes told j
decomposes told j s accepted split =
    all_decomposed texts_say_one_thing told j s accepted (record { columns = split.indexes; partition = split.partition; strict = split.strict })

-- an end behind what was accepted
pub ends_decomposed : {T : Type 0} (told : Option Telling) (j : Job) (r : Result T Refusal) → Decomposes told j → EndsDecomposed told j r
ends_decomposed told j (Ok _) h = h
ends_decomposed told j (Err _) h = inr h
