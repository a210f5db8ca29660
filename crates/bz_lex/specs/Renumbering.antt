-- The columns of a relaxed program, but for its column s, by their numbers in the program itself: the slacks stand one further to the front.
use Rattle.std.specs.Prelude.{ℕ, suc, ◌-◌, if◌then◌else◌, nat_lt}

-- the number of the relaxed program's column j, which isn't its column s
abbrev pub unrelaxed : ℕ → ℕ → ℕ
unrelaxed s j = if nat_lt j s then j else j - 1

-- the relaxed program's number of the column j
abbrev pub relaxed_number : ℕ → ℕ → ℕ
relaxed_number s j = if nat_lt j s then j else suc j

-- the places of a basis of the relaxed program, renumbered
abbrev pub unrelaxed_basis : ℕ → (ℕ → ℕ) → ℕ → ℕ
unrelaxed_basis s basis i = unrelaxed s (basis i)
