use Rattle.std.proofs.Common.{sym}
use Rattle.bz_rules.proofs.answers.judge_separation.Goals as goal

pub judge_at_post-requires : goal.judge_at_post-requires
judge_at_post-requires c = c.requires.posts c.in-Sep.post c.in-Some.post.now (sym c.in-Some.ensures)
