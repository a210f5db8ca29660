-- Systems of linear inequalities in two kinds of variables, points of them, and sums of their rows.
use Rattle.std.specs.Prelude.{ℕ, ℤ, pos, ◌+ℤ◌, ◌*ℤ◌, ◌≤ℤ◌, ◌<ℤ◌, ◌<◌, ◌≡◌, List, [], ◌∷◌}
use Rattle.bz_algebra.specs.Sums.{dot, upto}

-- count rows `first x + second y <= rhs`, in width variables x and depth variables y
pub record System : Type 0 where
  -- how many rows, numbered from 0
  pub count : ℕ
  -- how many variables of the first kind, and of the second
  pub width : ℕ
  pub depth : ℕ
  -- the coefficient of a variable of the first kind, and of the second, by row and variable
  pub first : ℕ → ℕ → ℤ
  pub second : ℕ → ℕ → ℤ
  -- the right side of a row
  pub rhs : ℕ → ℤ

-- the left side of a row, times q, at the point x/q, y/q
abbrev pub left_side : System → (ℕ → ℤ) → (ℕ → ℤ) → ℕ → ℤ
left_side s x y r = upto s.width (λ i. s.first r i *ℤ x i) +ℤ upto s.depth (λ j. s.second r j *ℤ y j)

-- the point x/q, y/q meets each row
pub record Meets (s : System) (x y : ℕ → ℤ) (q : ℤ) : Type 0 where
  pub rows_hold : (r : ℕ) → r < s.count → (left_side s x y r) ≤ℤ (s.rhs r *ℤ q)

-- each entry of a sparse list has an index below n and a positive number
abbrev pub ArePositive : ℕ → List (ℕ × ℤ) → Type 0
ArePositive n [] = Unit {0}
ArePositive n (e ∷ es) = (e.0 < n) × ((pos 0) <ℤ e.1) × ArePositive n es

-- the rows times the multipliers mu, all of them positive, add up to `a x + b y <= c`
pub record SumsTo (s : System) (mu : List (ℕ × ℤ)) (a b : ℕ → ℤ) (c : ℤ) : Type 0 where
  pub multipliers : ArePositive s.count mu
  pub firsts : (i : ℕ) → i < s.width → dot mu (λ r. s.first r i) ≡ a i
  pub seconds : (j : ℕ) → j < s.depth → dot mu (λ r. s.second r j) ≡ b j
  pub right : dot mu s.rhs ≡ c
