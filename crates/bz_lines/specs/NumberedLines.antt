-- The lines of a text that are neither comment nor empty, with their numbers.
use Rattle.std.specs.Prelude.{ℕ, ◌+◌, ◌==◌, ◌&&◌, ◌||◌, not, Bool, IsTrue, List, length, map, filter, nat_lt, nat_le, slice_index}
use Rattle.std.specs.List.{list_all, enumerate_from}
use Rattle.std.specs.Str.Lines.{lines}
use Rattle.bz_lines.specs.Lines.{fields_of, is_blank}

-- a line: its number, counted from 1; whether it has no refused byte; whether it is a header, which begins with neither
-- a blank nor a tab; and its fields
pub record NumberedLine : Type 0 where
  pub number : ℕ
  pub text : Bool
  pub header : Bool
  pub fields : List (List ℕ)

-- the line has no refused byte
abbrev pub IsTextLine : NumberedLine → Type 0
IsTextLine line = IsTrue line.text

-- a byte that is not refused: 32 or above, or a tab
abbrev pub is_text_byte : ℕ → Bool
is_text_byte b = nat_le 32 b || (b == 9)

-- neither a comment, which begins with `*` (42), nor empty, which is a line of blanks and tabs alone
abbrev pub is_kept : List ℕ → Bool
is_kept line = not (slice_index line 0 == 42) && nat_lt 0 (length (fields_of line))

-- a line by its number and its bytes
abbrev pub numbered_line : ℕ × List ℕ → NumberedLine
numbered_line e = record {
  number = e.0;
  text = list_all is_text_byte e.1;
  header = not (is_blank (slice_index e.1 0));
  fields = fields_of e.1;
}

-- the lines of a text that are neither comment nor empty, where n lines come before the text
unfoldable pub numbered_after : ℕ → List ℕ → List NumberedLine
numbered_after n text = map numbered_line (filter (λ e. is_kept e.1) (enumerate_from (n + 1) (lines text)))

-- the lines of a whole text that are neither comment nor empty
abbrev pub numbered_lines : List ℕ → List NumberedLine
numbered_lines text = numbered_after 0 text

-- how many lines a text has, comments and empty ones counted
abbrev pub line_count : List ℕ → ℕ
line_count text = length (lines text)
