use Rattle.bz_top.proofs.Loads.{file_given, file_longer, file_unread}
use Rattle.bz_top.proofs.loading.load_file.Goals as goal

pub returns-in-Ok-clause-answer : goal.returns-in-Ok-clause-answer
returns-in-Ok-clause-answer g c = λ told first.
    file_given told _ c.args.job.now c.args.file c.in-Ok.bytes first (rw (c.file_name.ensures, c.limit.ensures) at c.in-Ok.ensures.answer)

pub returns-in-Err-Failed-clause-answer : goal.returns-in-Err-Failed-clause-answer
returns-in-Err-Failed-clause-answer g c = λ told first.
    file_unread told _ c.args.job.now c.args.file first (rw (c.in-Err-Failed.field-0-is, c.file_name.ensures, c.limit.ensures) at c.in-Err-Failed.ensures.answer)

pub returns-in-Err-TooLong-clause-answer : goal.returns-in-Err-TooLong-clause-answer
returns-in-Err-TooLong-clause-answer g c = λ told first.
    file_longer told _ c.args.job.now c.args.file first (rw (c.in-Err-TooLong.field-0-is, c.file_name.ensures, c.limit.ensures) at c.in-Err-TooLong.ensures.answer)
