-- A name is among those so far exactly where it is one of the columns so far.
use Rattle.std.proofs.Common.{◌≡◌, ℕ, List, map, take}
use Rattle.bz_lines.specs.NameLists.{is_among}
use Rattle.bz_part.proofs.part_text.column_names.Given as goal

abbrev pub invariant-loop-column : goal.invariant-loop-column
invariant-loop-column l =
    (name : List ℕ) → is_among l.names name ≡ is_among (map (λ c. c.name) (take l.column-index l.columns)) name
