-- What a reader of lines holds.
use Rattle.std.specs.Prelude.{ℕ, ◌+◌, List}
use Rattle.bz_lines.specs.NumberedLines.{NumberedLine, line_count, numbered_after}

-- the text that is left, and how many lines were read
pub record LineReader : Type 0 where
  pub rest : List ℕ
  pub number : ℕ

-- the lines to come that are neither comment nor empty
abbrev pub to_come : LineReader → List NumberedLine
to_come r = numbered_after r.number r.rest

-- how many lines were read or are to come, comments and empty ones counted
abbrev pub lines_in : LineReader → ℕ
lines_in r = r.number + line_count r.rest
