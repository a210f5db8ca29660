use Rattle.bz_core.proofs.planning_separations.plan_at_post.Goals as goal

pub plan_fill-requires-clause-post : goal.plan_fill-requires-clause-post
plan_fill-requires-clause-post c = c.requires.fits.posts c.args.number c.args.post.now c.requires.post
