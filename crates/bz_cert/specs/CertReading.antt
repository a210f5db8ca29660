-- What the parts of a certificate's text say, and how a part fails.
use Rattle.std.specs.Prelude.{ℕ, suc, ℤ, pos, ◌≡◌, ◌≢◌, ◌+◌, ◌<◌, ◌^◌, ◌⊎◌, List, [], ◌∷◌, ◌++◌, length, Some, Result, Ok, Err, nat_lt, ◌≤◌}
use Rattle.std.specs.Fmt.{signed_decimal}
use Rattle.std.specs.List.{AllByRecursion, flat_map}
use Rattle.bz_algebra.specs.Numbers.{IsNarrow}
use Rattle.bz_algebra.specs.Sums.{AllBelow}
use Rattle.bz_cert.specs.declared.faults.CertKind.{CertKind}
use Rattle.bz_cert.specs.declared.faults.CertStop.{CertStop}
use Rattle.bz_cert.specs.declared.records.Verdict.{Verdict}
use Rattle.bz_cert.specs.declared.words.Word.{Word}
use Rattle.bz_cert.specs.CertText.{CertLine, laid_out, spelled, sparse_numbers, word_bytes, line_bytes}
use Rattle.bz_cert.specs.CertFaults.{AreEnough, AreInOrder, BeginsWith, BeginsWithLine, BreaksTree, FailsAtOnce, IsIn, IsIndex, IsWhole, IsTooMany, Passes, Standing, blocks_in, cuts_in, splits_in, leaves_in, told_in, indexes_of, words_behind}

-- how a stop fails, where it is not for want of memory
abbrev pub StopsAs : (ℕ → CertKind → Type 0) → CertStop → Type 0
StopsAs Fails (CertStop.Fault fault) = Fails fault.line fault.kind
StopsAs Fails CertStop.OutOfMemory = Unit {0}

-- An answer is as P says, and a refusal names a line and a kind as Fails says; want of memory tells nothing.
abbrev pub Answers : {X : Type 0} → (X → Type 0) → (ℕ → CertKind → Type 0) → Result X CertStop → Type 0
Answers P Fails (Ok x) = P x
Answers P Fails (Err stop) = StopsAs Fails stop

-- the field is the number in decimal, which is not wide
pub record IsSpelled (field : List ℕ) (z : ℤ) : Type 0 where
  pub spelling : field ≡ signed_decimal z
  pub narrow : IsNarrow z

-- the bytes are those of the numbers, each behind one blank, and none is wide
pub record AreNumbers (bytes : List ℕ) (numbers : List ℤ) : Type 0 where
  pub spelling : bytes ≡ spelled numbers
  pub narrow : AllByRecursion IsNarrow numbers

-- the same, and the counts and indexes of a line of the word are from 0 to 2 ^ 32 - 1
pub record AreNumbersOf (word : Word) (bytes : List ℕ) (numbers : List ℤ) : Type 0 where
  pub numbers_are : AreNumbers bytes numbers
  pub indexes : AllByRecursion IsIndex (indexes_of word numbers)

-- a fault of one kind on one line
abbrev pub Only : ℕ → CertKind → Type 0 → ℕ → CertKind → Type 0
Only line kind P number found = (number ≡ line) × (found ≡ kind) × P

-- the standing one line on
abbrev pub advance : Standing → CertLine → Standing
advance before line = record {
  last = Some line.word;
  blocks = before.blocks + blocks_in line.word;
  told = before.told + told_in line.word line.numbers;
  cuts = before.cuts + cuts_in line.word;
  splits = before.splits + splits_in line.word;
  leaves = before.leaves + leaves_in line.word;
}

-- the standing behind lines
abbrev pub advance_all : Standing → List CertLine → Standing
advance_all before [] = before
advance_all before (line ∷ lines) = advance_all (advance before line) lines

-- each of the lines breaks no test, behind what is told before
abbrev pub PassFrom : Verdict → Standing → List CertLine → Type 0
PassFrom verdict before [] = Unit {0}
PassFrom verdict before (line ∷ lines) = Passes verdict before line × PassFrom verdict (advance before line) lines

-- behind so many lines, some line of the rest fails, and the lines before it pass
pub record FailsFrom
    (verdict : Verdict) (before : Standing) (lines : ℕ) (rest : List ℕ) (number : ℕ) (kind : CertKind) : Type 0 where
  pub passed : List CertLine
  pub behind : List ℕ
  pub joined : rest ≡ laid_out passed ++ behind
  pub pass : PassFrom verdict before passed
  pub fails : FailsAtOnce verdict (advance_all before passed) (lines + length passed) behind number kind

-- the rest behind so many lines begins with these, which pass, and `rest_now` is left behind `lines_now`
pub record Reads
    (verdict : Verdict) (before : Standing) (passed : List CertLine) (lines : ℕ) (rest : List ℕ)
    (lines_now : ℕ) (rest_now : List ℕ) : Type 0 where
  pub joined : rest ≡ laid_out passed ++ rest_now
  pub count : lines_now ≡ lines + length passed
  pub pass : PassFrom verdict before passed

-- a line has to come whose word is one of these
pub record Awaits (verdict : Verdict) (before : Standing) (words : List Word) : Type 0 where
  pub words_are : words_behind verdict (nat_lt before.cuts before.told) before.last ≡ words
  pub more : before.last ≢ Some Word.End

-- the numbers are those of so many pairs of an index and a value, and the rest behind them
pub record BeginsWithPairs (count : ℕ) (es : List (ℕ × ℤ)) (numbers rest : List ℤ) : Type 0 where
  pub laid_out : numbers ≡ flat_map (λ e. pos e.0 ∷ e.1 ∷ []) es ++ rest
  pub many : length es ≡ count
  pub indexes : AllBelow (2 ^ 32) es

-- the numbers are those of a list, its count first, and the rest behind them
pub record BeginsWithList (es : List (ℕ × ℤ)) (numbers rest : List ℤ) : Type 0 where
  pub laid_out : numbers ≡ sparse_numbers es ++ rest
  pub count : length es < 2 ^ 32
  pub indexes : AllBelow (2 ^ 32) es

-- the numbers are those of two lists
pub record AreTwoLists (first second : List (ℕ × ℤ)) (numbers : List ℤ) : Type 0 where
  pub laid_out : numbers ≡ sparse_numbers first ++ sparse_numbers second
  pub first_count : length first < 2 ^ 32
  pub first_indexes : AllBelow (2 ^ 32) first
  pub second_count : length second < 2 ^ 32
  pub second_indexes : AllBelow (2 ^ 32) second

-- the numbers of a line of the word are too many, then not as many as it has, then out of order
abbrev pub NumbersFail : ℕ → Standing → Word → List ℤ → ℕ → CertKind → Type 0
NumbersFail line before word numbers number kind =
    (number ≡ line)
    × (((kind ≡ CertKind.Limit) × IsTooMany before word numbers)
    ⊎ ((kind ≡ CertKind.Line) × (IsTooMany before word numbers → ⊥) × (AreEnough word numbers → ⊥))
    ⊎ ((kind ≡ CertKind.Order)
    × (IsTooMany before word numbers → ⊥) × AreEnough word numbers × (AreInOrder before word numbers → ⊥)))

-- the same wherever the line stands: in front of a block with this number; where there is room for a node; behind so many
-- nodes; anywhere
abbrev pub FailAsBlock : ℕ → ℕ → List ℤ → ℕ → CertKind → Type 0
FailAsBlock line block numbers number kind =
    (before : Standing) → suc before.blocks ≡ block → NumbersFail line before Word.Block numbers number kind

abbrev pub FailInRoom : ℕ → Word → List ℤ → ℕ → CertKind → Type 0
FailInRoom line word numbers number kind =
    (before : Standing) → before.splits + before.leaves ≤ 65534 → NumbersFail line before word numbers number kind

abbrev pub FailBehind : ℕ → ℕ → Word → List ℤ → ℕ → CertKind → Type 0
FailBehind nodes line word numbers number kind =
    (before : Standing) → before.splits + before.leaves ≡ nodes → NumbersFail line before word numbers number kind

abbrev pub FailAnywhere : ℕ → Word → List ℤ → ℕ → CertKind → Type 0
FailAnywhere line word numbers number kind = (before : Standing) → NumbersFail line before word numbers number kind

-- the rest begins with a line of that word, and what stands behind the word, and from the line's end on
pub record BeginsWithWord (rest : List ℕ) (word : Word) (behind from_feed : List ℕ) : Type 0 where
  pub begins : BeginsWithLine rest (word_bytes word ++ behind) from_feed
  pub apart : BeginsWith 32 behind

-- the rest begins with that line, whose numbers are in their range
pub record BeginsWithCertLine (rest : List ℕ) (line : CertLine) (from_feed : List ℕ) : Type 0 where
  pub begins : BeginsWithLine rest (line_bytes line) from_feed
  pub narrow : AllByRecursion IsNarrow line.numbers
  pub indexes : AllByRecursion IsIndex (indexes_of line.word line.numbers)

-- what is left of a text fails at once, wherever a line of these words has to come that breaks no tree
abbrev pub FailsAwaiting : List Word → ℕ → List ℕ → ℕ → CertKind → Type 0
FailsAwaiting words lines rest number kind =
    (verdict : Verdict) (before : Standing) → Awaits verdict before words
    → ((word : Word) → IsIn words word → BreaksTree verdict before word → ⊥)
    → FailsAtOnce verdict before lines rest number kind

-- the rest begins with that line and its line feed, and `rest_now` is left, one line on
pub record ReadsLine (lines : ℕ) (rest : List ℕ) (line : CertLine) (lines_now : ℕ) (rest_now : List ℕ) : Type 0 where
  pub begins : BeginsWithCertLine rest line (10 ∷ rest_now)
  pub count : lines_now ≡ lines + 1

-- what is left of a text fails at once, wherever the block has to come or the word that ends the blocks
abbrev pub FailsAtBlock : Word → ℕ → ℕ → List ℕ → ℕ → CertKind → Type 0
FailsAtBlock last block lines rest number kind =
    (verdict : Verdict) (before : Standing) → Awaits verdict before (Word.Block ∷ last ∷ []) → suc before.blocks ≡ block
    → ((word : Word) → IsIn (Word.Block ∷ last ∷ []) word → BreaksTree verdict before word → ⊥)
    → FailsAtOnce verdict before lines rest number kind

-- the same, where the line may break the tree
abbrev pub FailsComing : List Word → ℕ → List ℕ → ℕ → CertKind → Type 0
FailsComing words lines rest number kind =
    (verdict : Verdict) (before : Standing) → Awaits verdict before words →
    FailsAtOnce verdict before lines rest number kind

-- the words of a tree's lines, and of the line behind it
abbrev pub tree_words : List Word
tree_words = Word.Split ∷ Word.Leaf ∷ Word.End ∷ []

-- what is left of a text fails at once, wherever a node has to come behind so many in a tree that is not whole
abbrev pub FailsAtNode : ℕ → ℕ → List ℕ → ℕ → CertKind → Type 0
FailsAtNode nodes lines rest number kind =
    (verdict : Verdict) (before : Standing) → Awaits verdict before tree_words → BreaksTree verdict before Word.End
    → (IsWhole before → ⊥) → before.splits + before.leaves ≡ nodes → FailsAtOnce verdict before lines rest number kind

-- what is left of a text fails at once, wherever the last line has to come, before which another word breaks the tree
abbrev pub FailsAtEnd : List Word → ℕ → List ℕ → ℕ → CertKind → Type 0
FailsAtEnd words lines rest number kind =
    (verdict : Verdict) (before : Standing) → Awaits verdict before words → IsIn words Word.End →
    (BreaksTree verdict before Word.End → ⊥)
    → ((word : Word) → IsIn words word → word ≢ Word.End → BreaksTree verdict before word)
    → FailsAtOnce verdict before lines rest number kind

-- ---- what no list is
-- the text is no list of numbers, and none of a line of the word
abbrev pub IsNoNumbers : List ℕ → Type 0
IsNoNumbers text = (numbers : List ℤ) → AreNumbers text numbers → ⊥

abbrev pub IsNoNumbersOf : Word → List ℕ → Type 0
IsNoNumbersOf word text = (numbers : List ℤ) → AreNumbersOf word text numbers → ⊥

-- the numbers begin with no so many pairs, with no list, and are no two lists
abbrev pub BeginWithNoPairs : ℕ → List ℤ → Type 0
BeginWithNoPairs count numbers = (es : List (ℕ × ℤ)) (rest : List ℤ) → BeginsWithPairs count es numbers rest → ⊥

abbrev pub BeginWithNoList : List ℤ → Type 0
BeginWithNoList numbers = (es : List (ℕ × ℤ)) (rest : List ℤ) → BeginsWithList es numbers rest → ⊥

abbrev pub AreNoTwoLists : List ℤ → Type 0
AreNoTwoLists numbers = (es fs : List (ℕ × ℤ)) → AreTwoLists es fs numbers → ⊥
