-- What the tables of a reader of facts note beside the facts.
use Rattle.std.specs.Prelude.{ℕ, Bool, false, bytes_eq, List, Option, Some, None}
use Rattle.bz_facts.specs.declared.records.Entry.{Entry}
use Rattle.bz_facts.specs.declared.records.Given.{Given}

-- the column and the row of an entry
abbrev pub entry_place : Entry → ℕ × ℕ
entry_place e = (e.column, e.row)

-- the row of a right side or a range
abbrev pub given_place : Given → ℕ
given_place g = g.row

-- the name is the noted one
abbrev pub is_noted : Option (List ℕ) → List ℕ → Bool
is_noted None name = false
is_noted (Some own) name = bytes_eq own name

-- the noted name, and this one where none was noted
abbrev pub first_noted : Option (List ℕ) → List ℕ → Option (List ℕ)
first_noted None name = Some name
first_noted (Some own) name = Some own
