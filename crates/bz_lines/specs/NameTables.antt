-- The two tables that names may stand in.
use Rattle.std.specs.Prelude.{ℕ, List}
use Rattle.bz_lines.specs.declared.names.Table.{Table}
use Rattle.bz_lines.specs.declared.names.Table.TheVariants.{Hashed, Ordered}

-- the names of a table
abbrev pub names_in : Table → List (List ℕ)
names_in (Hashed names) = names
names_in (Ordered names) = names
