-- What a writer adds to the bytes before it, and what the types of a certificate say of its indexes.
use Rattle.std.specs.Prelude.{ℕ, ℤ, pos, ◌≡◌, ◌<◌, ◌^◌, List, [], ◌∷◌, ◌++◌, length}
use Rattle.std.specs.List.{AllByRecursion, flat_map}
use Rattle.bz_algebra.specs.Sums.{AllBelow}
use Rattle.bz_num.specs.Row.{IsSparse}
use Rattle.bz_cut.specs.declared.Cut.{Cut}
use Rattle.bz_tree.specs.declared.TreeNode.{TreeNode}
use Rattle.bz_cert.specs.declared.records.Certificate.{Certificate}
use Rattle.bz_model.specs.Splits.{Decomposition, IsSplit}
use Rattle.bz_cert.specs.Passing.{Passes}
use Rattle.bz_cert.specs.Shapes.{IsShaped}
use Rattle.bz_cert.specs.CertText.{CertLine, HasFewBlocks, laid_out, spelled}

-- the numbers, each behind one blank, stand behind the bytes of before
abbrev pub AddsNumbers : List ℕ → List ℤ → List ℕ → Type 0
AddsNumbers before numbers behind = behind ≡ before ++ spelled numbers

-- pairs of an index and a value, without their count
abbrev pub pair_numbers : List (ℕ × ℤ) → List ℤ
pair_numbers es = flat_map (λ e. pos e.0 ∷ e.1 ∷ []) es

-- the lines stand behind the bytes of before
abbrev pub Adds : List ℕ → List CertLine → List ℕ → Type 0
Adds before lines behind = behind ≡ before ++ laid_out lines

-- the indexes of a sparse list rise and are below 2 ^ 32
pub record IsIndexed (es : List (ℕ × ℤ)) : Type 0 where
  pub sparse : IsSparse es
  pub indexes : AllBelow (2 ^ 32) es

pub record IsIndexedCut (cut : Cut) : Type 0 where
  pub block : cut.block < 2 ^ 32
  pub alpha : IsIndexed cut.alpha
  pub mu : IsIndexed cut.mu

abbrev pub IsIndexedNode : TreeNode → Type 0
IsIndexedNode (TreeNode.Split position left right) = position < 2 ^ 32
IsIndexedNode (TreeNode.Leaf leaf) = IsIndexed leaf.lambda

-- fewer than 2 ^ 32 pairs in each list of a cut
abbrev pub HasShortLists : Cut → Type 0
HasShortLists cut = (length cut.alpha < 2 ^ 32) × (length cut.mu < 2 ^ 32)

abbrev pub HasShortList : TreeNode → Type 0
HasShortList (TreeNode.Split position left right) = Unit {0}
HasShortList (TreeNode.Leaf leaf) = length leaf.lambda < 2 ^ 32

-- Fewer than 2 ^ 32 blocks, and as many pairs in each sparse list: what the types of a certificate leave open of the
-- counts in its text.
pub record HasFewItems (c : Certificate) : Type 0 where
  pub blocks : HasFewBlocks c.parts
  pub cuts : AllByRecursion HasShortLists c.cuts
  pub nodes : AllByRecursion HasShortList c.tree

-- the certificate passes over some split
pub record PassesSome (c : Certificate) : Type 0 where
  pub split : Decomposition
  pub is_split : IsSplit split
  pub passes : Passes split.model split.part c

-- A certificate that passes over a split has fewer than 2 ^ 32 blocks, and as many pairs in each sparse list.
abbrev pub PassingIsShort : Type 0
PassingIsShort = (c : Certificate) → IsShaped c → PassesSome c →
    AllByRecursion IsIndexedCut c.cuts → AllByRecursion IsIndexedNode c.tree → HasFewItems c
