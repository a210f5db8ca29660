use Rattle.std.proofs.Common.{arith}
use Rattle.bz_facts.specs.LineTests.{is_counted}
use Rattle.bz_facts.proofs.TableLemmas.{filter-shorter}
use Rattle.bz_facts.proofs.tables.RowTypes.push.Goals as goal

pub overflow_add-self : goal.overflow_add-self
overflow_add-self c = omega (arith, c.self.invariant.count, filter-shorter is_counted c.self.inside.list.items, c.in_ok-reserve.ensures.ok)
