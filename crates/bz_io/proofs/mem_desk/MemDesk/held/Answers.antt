use Rattle.bz_io.proofs.Texts.{contents_of-texts_of}
use Rattle.bz_io.proofs.mem_desk.MemDesk.held.Goals as goal

pub returns : goal.returns
returns c =
    rw (← c.self.view_is, contents_of-texts_of c.self.inside.files.items c.args.name.now) (rw (c.deref.ensures.value, c.as_bytes.ensures.value) at c.text_of.ensures)
