-- Whole numbers that the product's 128-bit numbers hold.
use Rattle.std.specs.Prelude.{ℤ, ◌<◌, ◌≤◌, ◌^◌}
use Rattle.std.specs.Int.RustNames.{unsigned_abs}

-- at most 2 ^ 127 - 1 in size, as every stored number is; a number of another size is called wide
abbrev pub IsNarrow : ℤ → Type 0
IsNarrow z = unsigned_abs z < 2 ^ 127

-- above 2 ^ 127 - 1 in size
abbrev pub IsWide : ℤ → Type 0
IsWide z = 2 ^ 127 ≤ unsigned_abs z
