use Rattle.std.specs.Prelude.{codes}
use Rattle.std.specs.Option.{option_copied}
use Rattle.bz_text.specs.Texts.{line}
use Rattle.bz_report.specs.Reports.{direction_where, point_where}
use Rattle.bz_report.proofs.ReportTexts.{adds_three}
use Rattle.bz_report.proofs.reports.add_unbounded.Goals as goal

pub returns : goal.returns
returns c = adds_three c.add_ray.result c.args.page.now.text.items c.add_line.new.self.text.items c.add_best_point.new.page.text.items c.add_ray.new.page.text.items
    (line (codes "verdict unbounded")) (point_where c.args.split.now c.args.best.now) (direction_where c.args.split.now (option_copied c.args.ray))
    c.in_ok-add_line.ensures c.in_ok-add_best_point.ensures c.add_ray.ensures
