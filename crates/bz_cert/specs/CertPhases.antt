-- What the lines of blocks, of cuts and of a tree are, and how they fail.
use Rattle.std.specs.Prelude.{ℕ, suc, ℤ, ◌≡◌, ◌≢◌, ◌+◌, ◌-◌, ◌<◌, ◌≤◌, ◌^◌, List, [], ◌∷◌, ◌++◌, length, map, None, Some, Bool}
use Rattle.std.specs.List.{AllByRecursion, flat_map}
use Rattle.bz_model.specs.declared.BlockPart.{BlockPart}
use Rattle.bz_cut.specs.declared.Cut.{Cut}
use Rattle.bz_tree.specs.declared.TreeNode.{TreeNode}
use Rattle.bz_tree.specs.Trees.{Tree, IsTreeOf, preorder}
use Rattle.bz_cert.specs.declared.faults.CertKind.{CertKind}
use Rattle.bz_cert.specs.declared.records.Certificate.{Certificate}
use Rattle.bz_cert.specs.declared.records.Verdict.{Verdict}
use Rattle.bz_cert.specs.Shapes.{IsShaped}
use Rattle.bz_cert.specs.declared.words.Word.{Word}
use Rattle.bz_cert.specs.CertText.{CertLine, IsWritable, IsWritableCut, IsWritableNode, block_lines, bound_lines, cert_lines, cut_line, laid_out, line_with, node_line}
use Rattle.bz_cert.specs.CertFaults.{BreaksTree, IsIn, IsWhole, Standing, words_behind, words_of_block, words_of_cuts}
use Rattle.bz_cert.specs.CertReading.{Awaits, BeginsWithCertLine, FailsFrom, PassFrom, Reads, advance_all, tree_words}

-- a block has to come, or a line of the other word, and no block was there
pub record AwaitsBlocks (verdict : Verdict) (before : Standing) (last : Word) : Type 0 where
  pub awaits : Awaits verdict before (Word.Block ∷ last ∷ [])
  pub more : words_of_block verdict ≡ Word.Block ∷ last ∷ []
  pub none : before.blocks ≡ 0
  pub fine : (behind : Standing) (word : Word) → IsIn (Word.Block ∷ last ∷ []) word → BreaksTree verdict behind word → ⊥

abbrev pub FailsAtBlocks : Word → ℕ → List ℕ → ℕ → CertKind → Type 0
FailsAtBlocks last lines rest number kind =
    (verdict : Verdict) (before : Standing) → AwaitsBlocks verdict before last →
    FailsFrom verdict before lines rest number kind

-- blocks, and behind them a line of the other word
pub record ReadsBlocks
    (last : Word) (parts : List BlockPart) (lines : ℕ) (rest : List ℕ) (lines_now : ℕ) (rest_now : List ℕ)
    (numbers : List ℤ) (from_feed : List ℕ) : Type 0 where
  pub reads : (verdict : Verdict) (before : Standing) → AwaitsBlocks verdict before last →
      Reads verdict before (block_lines 1 parts) lines rest lines_now rest_now
      × Awaits verdict (advance_all before (block_lines 1 parts)) (Word.Block ∷ last ∷ [])
  pub last_line : BeginsWithCertLine rest_now (line_with last numbers) from_feed
  pub count : lines_now ≡ lines + length parts

-- so many cuts have to come, and none was there
pub record AwaitsCuts (verdict : Verdict) (before : Standing) (count : ℕ) : Type 0 where
  pub words_are : (to_come : Bool) → words_behind verdict to_come before.last ≡ words_of_cuts to_come
  pub more : before.last ≢ Some Word.End
  pub told : before.told ≡ count
  pub none : before.cuts ≡ 0

abbrev pub FailsAtCuts : ℕ → ℕ → List ℕ → ℕ → CertKind → Type 0
FailsAtCuts count lines rest number kind =
    (verdict : Verdict) (before : Standing) → AwaitsCuts verdict before count →
    FailsFrom verdict before lines rest number kind

pub record ReadsCuts
    (count : ℕ) (cuts : List Cut) (lines : ℕ) (rest : List ℕ) (lines_now : ℕ) (rest_now : List ℕ) : Type 0 where
  pub reads : (verdict : Verdict) (before : Standing) → AwaitsCuts verdict before count →
      Reads verdict before (map cut_line cuts) lines rest lines_now rest_now
      × Awaits verdict (advance_all before (map cut_line cuts)) tree_words
  pub many : length cuts ≡ count
  pub writable : AllByRecursion IsWritableCut cuts

-- a tree has to come, of which no node was there
pub record AwaitsTree (verdict : Verdict) (before : Standing) : Type 0 where
  pub awaits : Awaits verdict before tree_words
  pub splits : before.splits ≡ 0
  pub leaves : before.leaves ≡ 0
  pub ends : (behind : Standing) → (behind.leaves ≡ suc behind.splits → ⊥) → BreaksTree verdict behind Word.End

abbrev pub FailsAtTree : ℕ → List ℕ → ℕ → CertKind → Type 0
FailsAtTree lines rest number kind =
    (verdict : Verdict) (before : Standing) → AwaitsTree verdict before →
    FailsFrom verdict before lines rest number kind

pub record ReadsTree
    (nodes : List TreeNode) (lines : ℕ) (rest : List ℕ) (lines_now : ℕ) (rest_now : List ℕ) : Type 0 where
  pub reads : (verdict : Verdict) (before : Standing) → AwaitsTree verdict before →
      Reads verdict before (map node_line nodes) lines rest lines_now rest_now
      × Awaits verdict (advance_all before (map node_line nodes)) tree_words
      × ((advance_all before (map node_line nodes)).leaves ≡ suc (advance_all before (map node_line nodes)).splits)
  pub few : length nodes ≤ 65535
  pub writable : AllByRecursion IsWritableNode nodes
  pub tree : Tree
  pub is_tree : IsTreeOf nodes tree

-- what is told where so many of so many cuts stand there
pub record CutsTold (verdict : Verdict) (before : Standing) (count cuts : ℕ) : Type 0 where
  pub words_are : (to_come : Bool) → words_behind verdict to_come before.last ≡ words_of_cuts to_come
  pub more : before.last ≢ Some Word.End
  pub told : before.told ≡ count
  pub here : before.cuts ≡ cuts

-- what is told where so many nodes stand there and so many trees are still to come
pub record NodesTold (verdict : Verdict) (before : Standing) (trees nodes : ℕ) : Type 0 where
  pub awaits : Awaits verdict before tree_words
  pub here : before.splits + before.leaves ≡ nodes
  pub to_come : trees + before.leaves ≡ suc before.splits

-- so many trees behind the nodes make them one tree
abbrev pub MakesTree : ℕ → List TreeNode → Type 0
MakesTree count nodes =
    (trees : List Tree) → length trees ≡ count →
    (tree : Tree) × (nodes ++ flat_map preorder trees ≡ preorder tree)

-- how many trees are still to come behind one more node
abbrev pub trees_behind : TreeNode → ℕ → ℕ
trees_behind (TreeNode.Split position left right) trees = trees + 1
trees_behind (TreeNode.Leaf leaf) trees = trees - 1

-- the standing before the first line behind the verdict's
abbrev pub start : Standing
start = record { last = None; blocks = 0; told = 0; cuts = 0; splits = 0; leaves = 0 }

-- blocks, and behind them that line
pub record ReadsBlocksTo
    (line : CertLine) (parts : List BlockPart) (lines : ℕ) (rest : List ℕ)
    (lines_now : ℕ) (rest_now : List ℕ) : Type 0 where
  pub reads : (verdict : Verdict) (before : Standing) → AwaitsBlocks verdict before line.word →
      Reads verdict before (block_lines 1 parts ++ line ∷ []) lines rest lines_now rest_now
  pub few : length parts < 2 ^ 32

-- the number of the cuts has to come, and a tree behind them
pub record AwaitsBound (verdict : Verdict) (before : Standing) : Type 0 where
  pub awaits : Awaits verdict before (Word.Cuts ∷ [])
  pub told : before.told ≡ 0
  pub cuts : before.cuts ≡ 0
  pub splits : before.splits ≡ 0
  pub leaves : before.leaves ≡ 0
  pub ends : (behind : Standing) → (IsWhole behind → ⊥) → BreaksTree verdict behind Word.End
  pub stays : (behind : Standing) → IsWhole behind → BreaksTree verdict behind Word.End → ⊥

abbrev pub FailsAtBound : ℕ → List ℕ → ℕ → CertKind → Type 0
FailsAtBound lines rest number kind =
    (verdict : Verdict) (before : Standing) → AwaitsBound verdict before →
    FailsFrom verdict before lines rest number kind

-- the cuts and the tree, up to the end of the text
pub record ReadsBound (cuts : List Cut) (tree : List TreeNode) (lines : ℕ) (rest : List ℕ) : Type 0 where
  pub reads : (verdict : Verdict) (before : Standing) → AwaitsBound verdict before →
      (rest ≡ laid_out (bound_lines cuts tree)) × PassFrom verdict before (bound_lines cuts tree)
  pub few_cuts : length cuts ≤ 65535
  pub writable_cuts : AllByRecursion IsWritableCut cuts
  pub few_nodes : length tree ≤ 65535
  pub writable_nodes : AllByRecursion IsWritableNode tree
  pub whole : Tree
  pub is_tree : IsTreeOf tree whole

-- the certificate of a verdict, whose lines are the text
pub record ReadsBody (verdict : Verdict) (text : List ℕ) (c : Certificate) : Type 0 where
  pub verdict_is : c.verdict ≡ verdict
  pub shaped : IsShaped c
  pub writable : IsWritable c
  pub joined : text ≡ laid_out (cert_lines c)

abbrev pub FailsBody : Verdict → ℕ → List ℕ → ℕ → CertKind → Type 0
FailsBody verdict lines rest number kind = FailsFrom verdict start lines rest number kind
