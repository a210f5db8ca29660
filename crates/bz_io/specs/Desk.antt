-- What a desk holds, which of its calls fail, and what a load and a save do.
use Rattle.std.specs.Prelude.{◌≡◌, ◌≢◌, ◌⊎◌, ℕ, ◌+◌, ◌<◌, ◌≤◌, List, length, take, Option, Some, None, Bool, true, false, Result, Ok, Err, Vec}
use Rattle.std.specs.declared.alloc.Global.{Global}
use Rattle.bz_io.specs.declared.desk.SaveError.{SaveError}
use Rattle.bz_io.specs.declared.desk.LoadError.{LoadError}
use Rattle.bz_io.specs.declared.desk.LoadError.TheVariants.{Failed, TooLong, OutOfMemory}

-- what each name holds: its bytes, or nothing
abbrev pub Contents : Type 0
Contents = List ℕ → Option (List ℕ)

-- What a desk tells: what each name holds, and which of its coming calls fail. The next call, a load or a save, is
-- number 0.
pub record Telling : Type 0 where
  pub contents : Contents
  pub fails : ℕ → Bool

-- each name holds what it held
abbrev pub IsSame : Telling → Telling → Type 0
IsSame before after = (name : List ℕ) → after.contents name ≡ before.contents name

-- after so many calls the coming ones are those that came after these
abbrev pub IsLater : ℕ → Telling → Telling → Type 0
IsLater calls before after = (n : ℕ) → after.fails n ≡ before.fails (calls + n)

-- after so many loads: each name holds what it held
pub record IsAfterLoads (calls : ℕ) (before after : Telling) : Type 0 where
  pub same : IsSame before after
  pub later : IsLater calls before after

-- ---- a load
-- What a load answers, by whether its call is one of those that fail, and by what the name holds. It gives the text,
-- whole, where that is within the limit. It ends with `Failed` exactly where its call is one of those that fail or the
-- name holds nothing, and with `TooLong` exactly where else the text is longer than the limit. Want of memory comes
-- only for a text within the limit that isn't empty.
abbrev pub LoadsText : Bool → Option (List ℕ) → ℕ → Result (Vec ℕ Global) LoadError → Type 0
LoadsText true held limit result = result ≡ Err Failed
LoadsText false None limit result = result ≡ Err Failed
LoadsText false (Some text) limit (Ok bytes) = (bytes.items ≡ text) × (length text ≤ limit)
LoadsText false (Some text) limit (Err Failed) = ⊥
LoadsText false (Some text) limit (Err TooLong) = limit < length text
LoadsText false (Some text) limit (Err OutOfMemory) = (0 < length text) × (length text ≤ limit)

abbrev pub Loads : Telling → List ℕ → ℕ → Result (Vec ℕ Global) LoadError → Type 0
Loads told name limit result = LoadsText (told.fails 0) (told.contents name) limit result

-- a load ended with `Failed`
abbrev pub is_failed : {T : Type 0} → Result T LoadError → Bool
is_failed (Ok _) = false
is_failed (Err Failed) = true
is_failed (Err TooLong) = false
is_failed (Err OutOfMemory) = false

-- ---- a save
-- the name holds the bytes, and each other name what it held
pub record Holds (name bytes : List ℕ) (before after : Contents) : Type 0 where
  pub named : after name ≡ Some bytes
  pub others : (other : List ℕ) → other ≢ name → after other ≡ before other

-- the name holds what it held or a prefix of the bytes, and each other name what it held
pub record HoldsPart (name bytes : List ℕ) (before after : Contents) : Type 0 where
  pub named : (after name ≡ before name) ⊎ ((count : ℕ) × (after name ≡ Some (take count bytes)))
  pub others : (other : List ℕ) → other ≢ name → after other ≡ before other

-- memory is needed: for the bytes, or for a name that holds nothing yet
abbrev pub NeedsMemory : List ℕ → List ℕ → Contents → Type 0
NeedsMemory name bytes before = (0 < length bytes) ⊎ (before name ≡ None)

-- What a save leaves, by whether its call is one of those that fail, and by its answer. Where it is, it fails; else it
-- fails only for want of memory.
abbrev pub SavesText : Bool → List ℕ → List ℕ → Result (Unit {0}) SaveError → Contents → Contents → Type 0
SavesText true name bytes (Ok _) before after = ⊥
SavesText true name bytes (Err _) before after = HoldsPart name bytes before after
SavesText false name bytes (Ok _) before after = Holds name bytes before after
SavesText false name bytes (Err _) before after = HoldsPart name bytes before after × NeedsMemory name bytes before

pub record Saves (name bytes : List ℕ) (result : Result (Unit {0}) SaveError) (before after : Telling) : Type 0 where
  pub text : SavesText (before.fails 0) name bytes result before.contents after.contents
  pub later : IsLater 1 before after
