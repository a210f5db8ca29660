use Rattle.std.proofs.Common.{arith, bytes_eq}
use Rattle.bz_facts.proofs.TableLemmas.{place-within}
use Rattle.bz_facts.proofs.column_lines.enter.Goals as goal

pub overflow_cast-column : goal.overflow_cast-column
overflow_cast-column c = omega (arith, c.in_ok-column.ensures.place, c.requires, place-within (bytes_eq c.args.name.now) c.args.columns.now.names)
