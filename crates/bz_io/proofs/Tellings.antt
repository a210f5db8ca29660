-- What a desk in memory does is what a desk may do.
use Rattle.std.proofs.Common.{◌≡◌, inl, inr, ℕ, ◌≤◌, Bool, true, false, List, [], length, Option, Some, None, Result, Ok, Err, IfOk, Vec, Global, ap}
use Rattle.bz_io.specs.declared.desk.LoadError.{LoadError}
use Rattle.bz_io.specs.declared.desk.SaveError.{SaveError}
use Rattle.bz_io.specs.Desk.{Contents, Holds, HoldsPart, LoadsText, SavesText}
use Rattle.bz_io.specs.MemDesk.{MemSaves, contents_of}

-- the bytes of a load are within the limit
pub within_limit : (fails : Bool) (held : Option (List ℕ)) (limit : ℕ) (result : Result (Vec ℕ Global) LoadError) → LoadsText fails held limit result → IfOk result (λ bytes. length bytes.items ≤ limit)
within_limit true held limit (Ok bytes) loads = absurd cc
within_limit true held limit (Err error) loads = tt
within_limit false None limit (Ok bytes) loads = absurd cc
within_limit false None limit (Err error) loads = tt
within_limit false (Some text) limit (Ok bytes) loads = rw loads.0 loads.1
within_limit false (Some text) limit (Err error) loads = tt

-- the empty text is a prefix of every text
holds_start : (name bytes : List ℕ) (before after : Contents) → Holds name [] before after → HoldsPart name bytes before after
holds_start name bytes before after holds = record { named = inr (0, holds.named); others = holds.others }

-- nothing was changed
holds_same : (name bytes : List ℕ) (before after : List (List ℕ × List ℕ)) → after ≡ before → HoldsPart name bytes (contents_of before) (contents_of after)
holds_same name bytes before after same = record {
  named = inl (ap (λ (files : List (List ℕ × List ℕ)). contents_of files name) same);
  others = λ other apart. ap (λ (files : List (List ℕ × List ℕ)). contents_of files other) same;
}

pub saves_text : (fails : Bool) (name bytes : List ℕ) (before after : List (List ℕ × List ℕ)) (result : Result (Unit {0}) SaveError) → MemSaves fails name bytes before after result → SavesText fails name bytes result (contents_of before) (contents_of after)
saves_text true name bytes before after (Ok _) saves = saves
saves_text true name bytes before after (Err _) (inl holds) = holds_start name bytes _ _ holds
saves_text true name bytes before after (Err _) (inr same) = holds_same name bytes before after same.0
saves_text false name bytes before after (Ok _) saves = saves
saves_text false name bytes before after (Err _) saves = (holds_same name bytes before after saves.0, saves.1)
