use Rattle.bz_io.proofs.CallNumbers.{number_now}
use Rattle.bz_io.proofs.mem_desk.MemDesk.is_listed.Goals as goal

pub returns : goal.returns
returns c =
    rw (← c.self.view_is, ← number_now c.self.inside.calls c.self.invariant) (rw (c.deref.ensures.value) at c.contains.ensures.value)
