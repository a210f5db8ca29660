-- The fields of the lines of a model's or a partition's text.
use Rattle.std.specs.Prelude.{ℕ, ◌==◌, ◌||◌, Bool, List, length, filter, nat_lt}
use Rattle.std.specs.List.{slice_split}

-- a blank or a tab
abbrev pub is_blank : ℕ → Bool
is_blank b = (b == 32) || (b == 9)

-- the fields of a line: its longest pieces without a blank or a tab
abbrev pub fields_of : List ℕ → List (List ℕ)
fields_of line = filter (λ piece. nat_lt 0 (length piece)) (slice_split is_blank line)
