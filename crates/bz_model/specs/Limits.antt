-- How large a model and its parts may be.
use Rattle.std.specs.Prelude.{ℕ, ◌^◌}

-- there are fewer columns than this, and fewer rows
abbrev pub list_limit : ℕ
list_limit = 2 ^ 28

-- the most blocks of a partition
abbrev pub block_limit : ℕ
block_limit = 256

-- the most inequalities of a part, two counted for the box of each integer column where it is the master
abbrev pub size_limit : ℕ
size_limit = 1024
