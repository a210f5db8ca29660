use Rattle.std.proofs.Common.{sym}
use Rattle.bz_rules.proofs.answers.judge_stopped_separation.Goals as goal

pub judge_stop_at_post-requires-clause-post : goal.judge_stop_at_post-requires-clause-post
judge_stop_at_post-requires-clause-post c = c.requires.fits.posts c.args.post c.in-Some.post.now (sym c.in-Some.ensures)
