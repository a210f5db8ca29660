-- What a device may tell of itself or not: `Some` of it, or `None`.
use Rattle.std.specs.Prelude.{Option, Some, None}

-- where it is told, this is true of it
abbrev pub IfTold : {A : Type 0} → Option A → (A → Type 0) → Type 0
IfTold None P = Unit {0}
IfTold (Some now) P = P now

-- Where it was told, it is told afterwards too, and went from the one to the other so.
abbrev pub WhereTold : {A : Type 0} → (A → A → Type 0) → Option A → Option A → Type 0
WhereTold Goes None after = Unit {0}
WhereTold Goes (Some before) None = ⊥
WhereTold Goes (Some before) (Some after) = Goes before after

-- The same, and where nothing was told, nothing is told afterwards.
abbrev pub KeepsTelling : {A : Type 0} → (A → A → Type 0) → Option A → Option A → Type 0
KeepsTelling Goes None None = Unit {0}
KeepsTelling Goes None (Some after) = ⊥
KeepsTelling Goes (Some before) None = ⊥
KeepsTelling Goes (Some before) (Some after) = Goes before after
