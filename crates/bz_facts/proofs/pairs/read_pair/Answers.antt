use Rattle.std.proofs.Common.{arith, bytes_eq}
use Rattle.bz_facts.proofs.TableLemmas.{place-within}
use Rattle.bz_facts.proofs.pairs.read_pair.Goals as goal

pub overflow_cast-result : goal.overflow_cast-result
overflow_cast-result c = omega (arith, c.in-Some.ensures.place, c.requires, place-within (bytes_eq c.args.name.now) c.args.rows.now)
