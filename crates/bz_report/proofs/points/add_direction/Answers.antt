use Rattle.std.proofs.Common.{rules, ◌≡◌, ◌∙◌, ap, sym, length}
use Rattle.std.specs.List.{enumerate_from}
use Rattle.std.proofs.lemmas.List.{length-map}
use Rattle.std.proofs.lemmas.List.FromFn.{length-enumerate_from}
use Rattle.bz_event.specs.Floors.{placed}
use Rattle.bz_report.proofs.points.add_direction.Goals as goal

pub add_steps-requires : goal.add_steps-requires
add_steps-requires c =
    let part = c.args.split.now.part in
    let steps : c.as_slice-3.result.now ≡ placed part c.args.ray.now.block c.args.ray.now.d = search rules in
    let columns : c.as_slice-2.result.now ≡ c.args.split.now.model.columns = search rules in
    ap length steps ∙ length-map (enumerate_from 0 part) _ ∙ length-enumerate_from 0 part
    ∙ c.model.ensures.split.partition.numbers ∙ sym (ap length columns)
