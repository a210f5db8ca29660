use Rattle.bz_report.specs.Reports.{place_text, task_text}
use Rattle.bz_report.proofs.ReportTexts.{stop_written}
use Rattle.bz_report.proofs.stops.add_stop.Goals as goal

pub returns : goal.returns
returns c = stop_written c.add-3.result c.args.page.now.text.items c.add.new.self.text.items c.add_task.new.page.text.items c.add-2.new.self.text.items c.add_place.new.page.text.items c.add-3.new.self.text.items
    (task_text c.args.stop.now.task) (place_text c.args.stop.now.answer) c.in_ok-add.ensures c.in_ok-add_task.ensures c.in_ok-add-2.ensures c.in_ok-add_place.ensures c.add-3.ensures
