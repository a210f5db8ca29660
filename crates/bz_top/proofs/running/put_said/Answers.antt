use Rattle.bz_top.proofs.running.put_said.Goals as goal

pub returns-in-Parts : goal.returns-in-Parts
returns-in-Parts g c = rw (c.in-Parts.is, ← c.as_slice.ensures) c.put_parts.ensures
