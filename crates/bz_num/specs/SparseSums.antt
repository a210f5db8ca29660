-- Sums of a row's numbers, each times what stands at its column, while they are made.
use Rattle.std.specs.Prelude.{ℕ, ℤ, pos, ◌≡◌, ◌+ℤ◌, ◌<◌, ◌≤◌, List, drop, length, Result, Ok, Err, slice_index_or}
use Rattle.std.specs.List.{AllByRecursion}
use Rattle.bz_algebra.specs.Sums.{coef}
use Rattle.bz_num.specs.Fold.{Taken, fold_from, pairs_at}
use Rattle.bz_num.specs.declared.products.WideSum.{WideSum}

-- no pair of the row is at the column
abbrev pub IsMissing : ℕ → List (ℕ × ℤ) → Type 0
IsMissing column es = AllByRecursion (λ e. ¬ (e.0 ≡ column)) es

-- the pair at the place is at the column
pub record IsPlace (column : ℕ) (es : List (ℕ × ℤ)) (place : ℕ) : Type 0 where
  pub inside : place < length es
  pub column_is : (slice_index_or es place (0, pos 0)).0 ≡ column

-- what comes of a row's pairs behind those that are taken, each number times what f gives at its column
abbrev pub sum_left : List (ℕ × ℤ) → (ℕ → ℤ) → Taken → Result ℤ WideSum
sum_left es f taken = fold_from taken.count taken.sum (pairs_at (drop taken.count es) f)

-- f gives nothing before the entry's column, its number there, and what g gives behind; before it g gives nothing
pub record IsAhead (e : ℕ × ℤ) (f g : ℕ → ℤ) : Type 0 where
  pub before : (j : ℕ) → j < e.0 → f j ≡ pos 0
  pub here : f e.0 ≡ e.1
  pub behind : (j : ℕ) → e.0 < j → f j ≡ g j
  pub nothing : (j : ℕ) → j < e.0 → g j ≡ pos 0

-- f gives the row's numbers, and what g gives behind them all
pub record AreAhead (es : List (ℕ × ℤ)) (f g : ℕ → ℤ) : Type 0 where
  pub sum : (j : ℕ) → f j ≡ coef es j +ℤ g j
  pub nothing : AllByRecursion (λ e. (j : ℕ) → j ≤ e.0 → g j ≡ pos 0) es

-- what was left of f before a step is left of g after it, or the step tells the first wide place
abbrev pub Steps : List (ℕ × ℤ) → (ℕ → ℤ) → (ℕ → ℤ) → Taken → Taken → Result (Unit {0}) WideSum → Type 0
Steps es f g old new (Ok done) = sum_left es g new ≡ sum_left es f old
Steps es f g old new (Err wide) = Err wide ≡ sum_left es f old

-- so many of the row's pairs are before the column
pub record IsCountBefore (column : ℕ) (es : List (ℕ × ℤ)) (count : ℕ) : Type 0 where
  pub within : count ≤ length es
  pub before : (k : ℕ) → k < count → (slice_index_or es k (0, pos 0)).0 < column
  pub behind : (k : ℕ) → count ≤ k → k < length es → column ≤ (slice_index_or es k (0, pos 0)).0

-- f gives nothing before the column, and what g gives at it and behind it
pub record IsFrom (column : ℕ) (f g : ℕ → ℤ) : Type 0 where
  pub nothing : (j : ℕ) → j < column → f j ≡ pos 0
  pub behind : (j : ℕ) → column ≤ j → f j ≡ g j
