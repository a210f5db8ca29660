use Rattle.std.proofs.Common.{◌∙◌, ap}
use Rattle.std.specs.Prelude.{bytes_eq}
use Rattle.std.specs.Map.{lookup}
use Rattle.bz_part.proofs.PartitionLemmas.{lookup-now}
use Rattle.bz_part.proofs.numbers.ColumnNumbers.find.Goals as goal

pub returns : goal.returns
returns c = c.copied.ensures ∙ c.get.ensures.value ∙ lookup-now c.args.name.now c.self.inside.table.entries ∙ ap (lookup (bytes_eq c.args.name.now)) c.self.view_is
