use Rattle.bz_top.proofs.print.put_refusal.Goals as goal

pub returns-in-Read : goal.returns-in-Read
returns-in-Read g c = rw (c.in-Read.is, ← c.file_name.ensures, ← c.as_bytes.ensures.value) c.put_line.ensures
