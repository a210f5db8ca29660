-- Why a model may not be solved by a partition of its columns. The kinds come in one order: rows that join blocks, then
-- columns that may not be where they are, then parts that are too large. A fault is the first of its kind, and there is
-- none of an earlier kind.
use Rattle.std.specs.Prelude.{ℕ, ℤ, ◌≡◌, ◌<◌, ◌≤◌, ◌⊎◌, List, ◌∷◌, ◌++◌, length, map, IsTrue, IsFalse, IsSome}
use Rattle.std.specs.List.{AllByRecursion, enumerate_from}
use Rattle.bz_model.specs.declared.records.Column.{Column}
use Rattle.bz_model.specs.declared.records.Model.{Model}
use Rattle.bz_model.specs.declared.records.Row.{Row}
use Rattle.bz_model.specs.Limits.{size_limit}
use Rattle.bz_model.specs.Parting.{part_of, blocks_of}
use Rattle.bz_model.specs.Strict.{AreStrictColumns, AreUnjoined, IsInOneBlock, IsStrictColumn, size_of}
use Rattle.bz_split.specs.declared.faults.SplitFault.{SplitFault}
use Rattle.bz_split.specs.declared.faults.SplitFault.TheVariants.{Joins, IntegerInBlock, IntegerOpen, OpenMaster, TooLarge, OutOfMemory}

-- x is the first item of the list that is not P, and it is at place i
pub record IsFirstNot {X : Type 0} (P : X → Type 0) (xs : List X) (i : ℕ) (x : X) : Type 0 where
  pub before : List X
  pub after : List X
  pub whole : xs ≡ before ++ x ∷ after
  pub place : length before ≡ i
  pub others : AllByRecursion P before
  pub fails : P x → ⊥

-- the parts of a row's columns, in the row's order; a row lists only the columns where its number isn't zero
abbrev pub parts_of : List ℕ → List (ℕ × ℤ) → List ℕ
parts_of part terms = map (λ e. part_of part e.0) terms

-- the row's first column in a block is in block a, and its first column in another block is in block b
pub record AreTwoBlocks (part : List ℕ) (terms : List (ℕ × ℤ)) (a b : ℕ) : Type 0 where
  pub i : ℕ
  pub first : IsFirstNot (λ c. c ≡ 0) (parts_of part terms) i a
  pub j : ℕ
  pub other : IsFirstNot (λ c. (c ≡ 0) ⊎ (c ≡ a)) (parts_of part terms) j b

-- row i is the first that joins blocks, and it joins a and b
pub record IsFirstJoin (part : List ℕ) (rows : List Row) (i a b : ℕ) : Type 0 where
  pub row : Row
  pub first : IsFirstNot (λ r. IsInOneBlock part r.terms) rows i row
  pub blocks : AreTwoBlocks part row.terms a b

-- an integer column is in a block
pub record IsIntegerInBlock (own : ℕ) (column : Column) : Type 0 where
  pub integer : IsTrue column.integer
  pub block : 0 < own

-- an integer column of the master lacks a bound
pub record IsIntegerOpen (own : ℕ) (column : Column) : Type 0 where
  pub integer : IsTrue column.integer
  pub master : own ≡ 0
  pub open_side : IsSome column.lower × IsSome column.upper → ⊥

-- a column of the master that is no integer lacks a bound
pub record IsOpenMaster (own : ℕ) (column : Column) : Type 0 where
  pub continuous : IsFalse column.integer
  pub master : own ≡ 0
  pub open_side : IsSome column.lower × IsSome column.upper → ⊥

-- no row joins blocks, and column j, the first that may not be where it is, has the fault F
pub record IsFirstColumn (F : ℕ → Column → Type 0) (m : Model) (part : List ℕ) (j : ℕ) : Type 0 where
  pub rows : AreUnjoined m part
  pub column : Column
  pub first : IsFirstNot (λ e. IsStrictColumn (part_of part e.0) e.1) (enumerate_from 0 m.columns) j (j, column)
  pub fault : F (part_of part j) column

-- no row joins blocks, each column may be where it is, and part b, the first that is too large, has this size
pub record IsFirstLarge (m : Model) (part : List ℕ) (b size : ℕ) : Type 0 where
  pub rows : AreUnjoined m part
  pub columns : AreStrictColumns m part
  pub there : b ≤ blocks_of part
  pub others : (k : ℕ) → k < b → size_of m part k ≤ size_limit
  pub large : size_limit < size
  pub size_is : size ≡ size_of m part b

-- the model may not be solved by the partition, for this reason
abbrev pub IsSplitFault : Model → List ℕ → SplitFault → Type 0
IsSplitFault m part (Joins i a b) = IsFirstJoin part m.rows i a b
IsSplitFault m part (IntegerInBlock j) = IsFirstColumn IsIntegerInBlock m part j
IsSplitFault m part (IntegerOpen j) = IsFirstColumn IsIntegerOpen m part j
IsSplitFault m part (OpenMaster j) = IsFirstColumn IsOpenMaster m part j
IsSplitFault m part (TooLarge b size) = IsFirstLarge m part b size
IsSplitFault m part OutOfMemory = ⊥

-- column j of the part `own` has the fault
abbrev pub IsColumnFault : ℕ → ℕ → Column → SplitFault → Type 0
IsColumnFault own j column (Joins i a b) = ⊥
IsColumnFault own j column (IntegerInBlock k) = (k ≡ j) × IsIntegerInBlock own column
IsColumnFault own j column (IntegerOpen k) = (k ≡ j) × IsIntegerOpen own column
IsColumnFault own j column (OpenMaster k) = (k ≡ j) × IsOpenMaster own column
IsColumnFault own j column (TooLarge b size) = ⊥
IsColumnFault own j column OutOfMemory = ⊥
