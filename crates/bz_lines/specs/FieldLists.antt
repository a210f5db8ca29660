-- The fields of a line, as a list.
use Rattle.std.specs.Prelude.{ℕ, List, []}
use Rattle.std.specs.List.{slice_index_or}

-- the fields of a line
abbrev pub Fields : Type 0
Fields = List (List ℕ)

-- the field at a place, counted from 0; the empty list where there is none, for no field is empty
abbrev pub field : ℕ → Fields → List ℕ
field i fs = slice_index_or fs i []
