-- The parts so far are those of the columns so far.
use Rattle.std.proofs.Common.{◌≡◌, map, take}
use Rattle.std.specs.Prelude.{bytes_eq, unwrap_or}
use Rattle.std.specs.Map.{lookup}
use Rattle.bz_part.proofs.part_text.parts_by.Given as goal

abbrev pub invariant-loop-column : goal.invariant-loop-column
invariant-loop-column l = l.part.items ≡ map (λ c. unwrap_or (lookup (bytes_eq c.name) l.numbers) l.first) (take l.column-index l.columns)
