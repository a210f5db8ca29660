-- The text of a certificate.
use Rattle.std.specs.Prelude.{ℕ, ℤ, pos, ◌≡◌, ◌<◌, ◌^◌, List, [], ◌∷◌, ◌++◌, length, map, codes, Option, Some, None}
use Rattle.std.specs.Fmt.{signed_decimal}
use Rattle.std.specs.List.{AllByRecursion, enumerate_from, flat_map}
use Rattle.bz_algebra.specs.Sums.{AllBelow}
use Rattle.bz_num.specs.Row.{IsSparse}
use Rattle.bz_model.specs.declared.BlockPart.{BlockPart}
use Rattle.bz_model.specs.declared.Master.{Master}
use Rattle.bz_model.specs.declared.Parts.{Parts}
use Rattle.bz_cut.specs.declared.Cut.{Cut}
use Rattle.bz_tree.specs.declared.TreeNode.{TreeNode}
use Rattle.bz_cert.specs.declared.records.Certificate.{Certificate}
use Rattle.bz_cert.specs.declared.records.Verdict.{Verdict}
use Rattle.bz_cert.specs.declared.records.Verdict.TheVariants.{Optimal, Infeasible, Unbounded}
use Rattle.bz_cert.specs.declared.words.Word.{Word}
use Rattle.bz_cert.specs.Shapes.{IsShaped}

-- the first line
abbrev pub first_line : List ℕ
first_line = codes "bzcert 1"

-- the second line, by the verdict
abbrev pub verdict_line : Verdict → List ℕ
verdict_line Optimal = codes "verdict optimal"
verdict_line Infeasible = codes "verdict infeasible"
verdict_line Unbounded = codes "verdict unbounded"

-- a line behind the first two: its word, and its numbers
pub record CertLine : Type 0 where
  pub word : Word
  pub numbers : List ℤ

abbrev pub line_with : Word → List ℤ → CertLine
line_with word numbers = record { word = word; numbers = numbers }

-- the bytes of a word
abbrev pub word_bytes : Word → List ℕ
word_bytes Word.Master = codes "master"
word_bytes Word.Eta = codes "eta"
word_bytes Word.Block = codes "block"
word_bytes Word.Value = codes "value"
word_bytes Word.Ray = codes "ray"
word_bytes Word.Cuts = codes "cuts"
word_bytes Word.Cut = codes "cut"
word_bytes Word.Split = codes "split"
word_bytes Word.Leaf = codes "leaf"
word_bytes Word.End = codes "end"

-- numbers, each behind one blank
abbrev pub spelled : List ℤ → List ℕ
spelled numbers = flat_map (λ n. 32 ∷ signed_decimal n) numbers

-- a line without its line feed
abbrev pub line_bytes : CertLine → List ℕ
line_bytes line = word_bytes line.word ++ spelled line.numbers

-- lines, each with its line feed
abbrev pub laid_out : List CertLine → List ℕ
laid_out lines = flat_map (λ line. line_bytes line ++ 10 ∷ []) lines

-- a sparse list: its count, and then pairs of an index and a value
abbrev pub sparse_numbers : List (ℕ × ℤ) → List ℤ
sparse_numbers es = pos (length es) ∷ flat_map (λ e. pos e.0 ∷ e.1 ∷ []) es

-- the line of the master's numbers, with their denominator first
abbrev pub master_line : Master → CertLine
master_line master = line_with Word.Master (master.den ∷ master.x)

-- the lines of the blocks, numbered from the first number on
abbrev pub block_lines : ℕ → List BlockPart → List CertLine
block_lines first blocks = map (λ e. line_with Word.Block (pos e.0 ∷ e.1.times ∷ e.1.y)) (enumerate_from first blocks)

-- the line of a cut
abbrev pub cut_line : Cut → CertLine
cut_line cut =
    line_with Word.Cut (pos cut.block ∷ cut.p0 ∷ cut.beta ∷ cut.gcd
    ∷ (sparse_numbers cut.alpha ++ sparse_numbers cut.mu))

-- the line of a node of the tree
abbrev pub node_line : TreeNode → CertLine
node_line (TreeNode.Split position left right) = line_with Word.Split (pos position ∷ left ∷ right ∷ [])
node_line (TreeNode.Leaf leaf) = line_with Word.Leaf (leaf.delta ∷ leaf.bound ∷ sparse_numbers leaf.lambda)

-- the lines of the cuts, of the tree and of the end
abbrev pub bound_lines : List Cut → List TreeNode → List CertLine
bound_lines cuts tree =
    line_with Word.Cuts (pos (length cuts) ∷ [])
    ∷ (map cut_line cuts ++ map node_line tree ++ line_with Word.End [] ∷ [])

-- The lines behind the verdict's: an optimum has a point, its value, cuts and a tree; a model without feasible points
-- has cuts and a tree; an unbounded one has a point and a direction.
abbrev pub lines_by : Verdict → Option Parts → ℤ → List ℤ → List Cut → List TreeNode → List CertLine
lines_by Optimal (Some parts) value ray cuts tree =
    master_line parts.master
    ∷ line_with Word.Eta parts.master.eta
    ∷ (block_lines 1 parts.blocks ++ line_with Word.Value (value ∷ []) ∷ bound_lines cuts tree)
lines_by Infeasible None value ray cuts tree = bound_lines cuts tree
lines_by Unbounded (Some parts) value ray cuts tree =
    master_line parts.master ∷ (block_lines 1 parts.blocks ++ line_with Word.Ray ray ∷ line_with Word.End [] ∷ [])
lines_by _ _ value ray cuts tree = []

abbrev pub cert_lines : Certificate → List CertLine
cert_lines c = lines_by c.verdict c.parts c.value c.ray c.cuts c.tree

-- the two first lines
abbrev pub head_bytes : Verdict → List ℕ
head_bytes verdict = first_line ++ 10 ∷ (verdict_line verdict ++ 10 ∷ [])

-- the text of a certificate
abbrev pub cert_text : Certificate → List ℕ
cert_text c = head_bytes c.verdict ++ laid_out (cert_lines c)

-- a list whose indexes rise and whose values are not zero; indexes and their count are below 2 ^ 32
pub record IsSparseList (es : List (ℕ × ℤ)) : Type 0 where
  pub sparse : IsSparse es
  pub indexes : AllBelow (2 ^ 32) es
  pub count : length es < 2 ^ 32

pub record IsWritableCut (cut : Cut) : Type 0 where
  pub block : cut.block < 2 ^ 32
  pub alpha : IsSparseList cut.alpha
  pub mu : IsSparseList cut.mu

abbrev pub IsWritableNode : TreeNode → Type 0
IsWritableNode (TreeNode.Split position left right) = position < 2 ^ 32
IsWritableNode (TreeNode.Leaf leaf) = IsSparseList leaf.lambda

-- fewer than 2 ^ 32 blocks, where there are parts
abbrev pub HasFewBlocks : Option Parts → Type 0
HasFewBlocks None = Unit {0}
HasFewBlocks (Some parts) = length parts.blocks < 2 ^ 32

-- the counts and indexes are those of a text
pub record IsWritable (c : Certificate) : Type 0 where
  pub blocks : HasFewBlocks c.parts
  pub cuts : AllByRecursion IsWritableCut c.cuts
  pub nodes : AllByRecursion IsWritableNode c.tree

-- the text is that of the certificate, which has what its verdict needs and no count or index that is too great
pub record IsCertText (text : List ℕ) (c : Certificate) : Type 0 where
  pub shaped : IsShaped c
  pub writable : IsWritable c
  pub text_is : text ≡ cert_text c
