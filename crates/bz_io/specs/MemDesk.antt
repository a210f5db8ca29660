-- A desk in memory: what it is at a moment, and what its calls leave of it.
use Rattle.std.specs.Prelude.{◌≡◌, ◌⊎◌, ℕ, ◌+◌, ◌==◌, min, Bool, true, false, List, [], map, find, bytes_eq, None, option_map, Result, Ok, Err, Vec}
use Rattle.std.specs.declared.alloc.Global.{Global}
use Rattle.std.specs.List.{list_any}
use Rattle.bz_io.specs.Faults.{faults_after, last_count, no_faults}
use Rattle.bz_io.specs.Desk.{Contents, Holds, NeedsMemory, Telling}
use Rattle.bz_io.specs.declared.desk.SaveError.{SaveError}
use Rattle.bz_io.specs.declared.faults.FaultCount.{FaultCount}

-- The files, each a name and its text, the numbers of the calls that fail, the number of the next call and the count
-- of faults.
pub record MemDeskState : Type 0 where
  pub files : List (List ℕ × List ℕ)
  pub fails : List ℕ
  pub calls : ℕ
  pub faults : FaultCount

-- the names and texts of these files
abbrev pub texts_of : List (Vec ℕ Global × Vec ℕ Global) → List (List ℕ × List ℕ)
texts_of files = map (λ file. (file.0.items, file.1.items)) files

-- a desk before its first call
abbrev pub new_desk : List (Vec ℕ Global × Vec ℕ Global) → List ℕ → MemDeskState
new_desk files fails = record { files = texts_of files; fails = fails; calls = 0; faults = no_faults }

-- what each name holds: the text of the first file with that name
abbrev pub contents_of : List (List ℕ × List ℕ) → Contents
contents_of files name = option_map (λ file. file.1) (find (λ file. bytes_eq file.0 name) files)

-- the number of a call before which there were so many: all from the last value of a count on have that number
abbrev pub call_number : ℕ → ℕ
call_number calls = min calls last_count

-- so many calls from now, the call is one of those that fail
abbrev pub call_fails : MemDeskState → ℕ → Bool
call_fails desk n = list_any (λ number. number == call_number (desk.calls + n)) desk.fails

-- what the desk tells
abbrev pub telling_of : MemDeskState → Telling
telling_of desk = record { contents = contents_of desk.files; fails = call_fails desk }

-- What a save leaves, by whether its call is one of those that fail. Where it is, the name holds the empty text, but
-- where it held nothing and there is no memory for it. Without memory for the bytes or for the name it changes nothing.
abbrev pub MemSaves : Bool → List ℕ → List ℕ → List (List ℕ × List ℕ) → List (List ℕ × List ℕ) → Result (Unit {0}) SaveError → Type 0
MemSaves true name bytes before after (Ok _) = ⊥
MemSaves true name bytes before after (Err _) = Holds name [] (contents_of before) (contents_of after) ⊎ ((after ≡ before) × (contents_of before name ≡ None))
MemSaves false name bytes before after (Ok _) = Holds name bytes (contents_of before) (contents_of after)
MemSaves false name bytes before after (Err _) = (after ≡ before) × NeedsMemory name bytes (contents_of before)

-- the desk after a call that left these files: one call more, and one fault more where it failed
abbrev pub after_call : MemDeskState → List (List ℕ × List ℕ) → Bool → MemDeskState
after_call desk files failed = record desk { files = files; calls = call_number (desk.calls + 1); faults = faults_after desk.faults failed }
