use Rattle.std.proofs.Common.{◌≡◌, option_copied}
use Rattle.bz_io.specs.MemDesk.{contents_of}
use Rattle.bz_io.proofs.Texts.{contents_of-texts_of}
use Rattle.bz_io.proofs.mem_desk.MemDeskDesk.load.Goals as goal

pub returns-clause-answer : goal.returns-clause-answer
returns-clause-answer c =
    let text : option_copied c.text_of-text.result ≡ contents_of c.args.self.now.files c.args.name.now =
    rw (← c.self.view_is, contents_of-texts_of c.self.inside.files.items c.args.name.now) (rw (c.deref.ensures.value, c.as_bytes.ensures.value) at c.text_of-text.ensures) in
    rw (← text, ← c.is_listed-listed.ensures) c.copy_within-answer.ensures
