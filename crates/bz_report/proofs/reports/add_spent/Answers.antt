use Rattle.bz_text.specs.Texts.{number}
use Rattle.bz_report.proofs.ReportTexts.{adds_as, spent_text}
use Rattle.bz_report.proofs.reports.add_spent.Goals as goal

pub returns : goal.returns
returns c = adds_as c.add.result c.args.page.now.text.items c.add.new.self.text.items _ _ (spent_text (number c.args.units) (number c.args.budget)) c.add.ensures
