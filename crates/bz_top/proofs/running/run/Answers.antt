use Rattle.std.proofs.Common.{◌≡◌, ◌⊎◌, map, sym, subst}
use Rattle.std.specs.String.{string_bytes}
use Rattle.bz_top.specs.declared.status.Status.{Status}
use Rattle.bz_top.specs.declared.status.Status.TheVariants as status
use Rattle.bz_top.specs.Claims.{BreaksOffAsked, BreaksOffUsage, RefusesAsked}
use Rattle.bz_top.specs.Ends.{IsRefused}
use Rattle.bz_top.specs.Jobs.{SomeJob}
use Rattle.bz_top.proofs.RefusalEnds.{memory_refused, memory_written}
use Rattle.bz_top.proofs.running.run.Goals as goal

pub returns-in-Err-OutOfMemory-clause-refused : goal.returns-in-Err-OutOfMemory-clause-refused
returns-in-Err-OutOfMemory-clause-refused g c =
    let words = map (λ w. string_bytes w) c.args.words.now in
    let told = g.D.Desk.told c.args.desk.now in
    let some : SomeJob words = rw c.in-Err-OutOfMemory.field-0-is at c.in-Err-OutOfMemory.ensures in
    subst (λ (s : Status). IsRefused s → RefusesAsked words told s (g.O.Sink.taken c.args.out.now) (g.O.Sink.taken c.put_out_of_memory.new.out))
    (sym c.status_after-in-Err-OutOfMemory.ensures)
    (memory_refused c.put_out_of_memory.result words told _ _ some c.put_out_of_memory.ensures.ok)

pub returns-in-Err-OutOfMemory-clause-written : goal.returns-in-Err-OutOfMemory-clause-written
returns-in-Err-OutOfMemory-clause-written g c =
    let words = map (λ w. string_bytes w) c.args.words.now in
    let told = g.D.Desk.told c.args.desk.now in
    let some : SomeJob words = rw c.in-Err-OutOfMemory.field-0-is at c.in-Err-OutOfMemory.ensures in
    subst (λ (s : Status). s ≡ status.Write → BreaksOffAsked words told (g.O.Sink.taken c.args.out.now) (g.O.Sink.taken c.put_out_of_memory.new.out) (g.D.Desk.faults c.args.desk.now) (g.D.Desk.faults c.args.desk.now) ⊎ BreaksOffUsage words (g.O.Sink.taken c.args.out.now) (g.O.Sink.taken c.put_out_of_memory.new.out))
    (sym c.status_after-in-Err-OutOfMemory.ensures)
    (memory_written c.put_out_of_memory.result words told _ _ _ some c.put_out_of_memory.ensures.failed)
