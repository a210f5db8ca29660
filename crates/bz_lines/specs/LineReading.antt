-- What a reader of lines answers.
use Rattle.std.specs.Prelude.{ℕ, ◌≡◌, List, [], ◌∷◌, true, false, map, Option, Some, None, Result, Ok, Err}
use Rattle.bz_lines.specs.NumberedLines.{NumberedLine}
use Rattle.bz_lines.specs.LineReader.{LineReader, to_come}
use Rattle.bz_lines.specs.declared.reader.Line.{Line}
use Rattle.bz_lines.specs.declared.reader.LineFault.{LineFault}
use Rattle.bz_lines.specs.declared.reader.LineFault.TheVariants.{NotText, OutOfMemory}

-- a line that was read, which has no refused byte
abbrev pub read_line : Line → NumberedLine
read_line l = record { number = l.number; text = true; header = l.header; fields = map (λ f. f.now) l.fields.items }

-- the first of the lines has the number n and a refused byte, and these are the others
abbrev pub BeginsRefused : ℕ → List NumberedLine → List NumberedLine → Type 0
BeginsRefused n others [] = ⊥
BeginsRefused n others (l ∷ ls) = (l.number ≡ n) × (l.text ≡ false) × (ls ≡ others)

-- What the reader answers, and what it holds before and after: nothing exactly at the end of the text; the next line,
-- which has no refused byte; the number of the next line, which has one; and for want of memory all is as before.
abbrev pub NextLine : LineReader → Result (Option Line) LineFault → LineReader → Type 0
NextLine old (Ok None) new = (to_come old ≡ []) × (new.rest ≡ [])
NextLine old (Ok (Some line)) new = (to_come old ≡ read_line line ∷ to_come new) × (line.number ≡ new.number)
NextLine old (Err (NotText n)) new = BeginsRefused n (to_come new) (to_come old) × (n ≡ new.number)
NextLine old (Err OutOfMemory) new = new ≡ old
