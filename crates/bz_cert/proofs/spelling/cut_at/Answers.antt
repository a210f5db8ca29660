use Rattle.bz_cert.proofs.NumberTexts.{clear_before, begins_there}
use Rattle.bz_cert.proofs.spelling.cut_at.Goals as goal

pub returns-clause-before : goal.returns-clause-before
returns-clause-before c = rw (c.split_at.ensures.front, c.place_of.ensures.place) (clear_before c.args.byte c.args.text.now)

pub returns-clause-from_there : goal.returns-clause-from_there
returns-clause-from_there c = rw (c.split_at.ensures.back, c.place_of.ensures.place) (begins_there c.args.byte c.args.text.now)
