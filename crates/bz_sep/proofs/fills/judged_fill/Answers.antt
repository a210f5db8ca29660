use Rattle.bz_model.proofs.InnerCosts.{decomposed}
use Rattle.bz_sep.proofs.FillAnswers.{fills_passed, is_fill, is_wide_fill}
use Rattle.bz_sep.proofs.fills.judged_fill.Goals as goal

pub returns-in_err-judge_fill : goal.returns-in_err-judge_fill
returns-in_err-judge_fill c =
    let m = c.args.split.now.model in
    let part = c.args.split.now.part in
    let task = c.args.task.now in
    let z = c.args.z.now in
    let f = c.in_err-judge_fill.field-0.0 in
    fills_passed m part task.block task.point task.mode z f c.from_residual-in_err-judge_fill.result c.from_residual-in_err-judge_fill.ensures.1
    (is_wide_fill m part (decomposed c.args.split.now c.requires.split) task.block task.point z c.in_ok-fill.fill c.in_ok-fill.ensures task.mode c.requires.meets f c.requires.stays c.in_err-judge_fill.ensures)

pub returns : goal.returns
returns c =
    let m = c.args.split.now.model in
    let part = c.args.split.now.part in
    let task = c.args.task.now in
    is_fill m part (decomposed c.args.split.now c.requires.split) task.block task.point c.args.z.now c.in_ok-fill.fill c.in_ok-fill.ensures task.mode c.requires.meets c.in_ok-judge_fill.ensures
