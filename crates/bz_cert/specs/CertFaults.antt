-- What is wrong with a text that is no certificate's: what its first failing line breaks first.
use Rattle.std.specs.Prelude.{ℕ, suc, ℤ, pos, ◌≡◌, ◌≢◌, ◌+◌, ◌*◌, ◌<◌, ◌≤◌, ◌^◌, ◌⊎◌, List, [], ◌∷◌, ◌++◌, length, drop, take, Option, Some, None, Bool, true, false, slice_index_or, nat_lt}
use Rattle.std.specs.Int.RustNames.{unsigned_abs}
use Rattle.std.specs.List.{AllByRecursion, sum_by}
use Rattle.bz_algebra.specs.Numbers.{IsNarrow}
use Rattle.bz_num.specs.Row.{IsSparse}
use Rattle.bz_cert.specs.declared.faults.CertKind.{CertKind}
use Rattle.bz_cert.specs.declared.records.Verdict.{Verdict}
use Rattle.bz_cert.specs.declared.records.Verdict.TheVariants.{Optimal, Infeasible, Unbounded}
use Rattle.bz_cert.specs.declared.words.Word.{Word}
use Rattle.bz_cert.specs.CertText.{CertLine, first_line, verdict_line, head_bytes, laid_out, line_bytes, spelled, sparse_numbers, word_bytes}

-- the bytes begin with that byte, where there are some
abbrev pub BeginsWith : ℕ → List ℕ → Type 0
BeginsWith byte [] = Unit {0}
BeginsWith byte (b ∷ bs) = b ≡ byte

-- the size of the number at a place, 0 where there is none
abbrev pub number_at : ℕ → List ℤ → ℕ
number_at place numbers = unsigned_abs (slice_index_or numbers place (pos 0))

-- What the lines before a line tell: the last one's word, how many of them are blocks, how many cuts were told of and
-- how many stand there, how many splits and how many leaves.
pub record Standing : Type 0 where
  pub last : Option Word
  pub blocks : ℕ
  pub told : ℕ
  pub cuts : ℕ
  pub splits : ℕ
  pub leaves : ℕ

-- the word of the last line, or the given one where there is no line
abbrev pub last_word : Option Word → List CertLine → Option Word
last_word word [] = word
last_word word (line ∷ lines) = last_word (Some line.word) lines

abbrev pub blocks_in : Word → ℕ
blocks_in Word.Block = 1
blocks_in _ = 0

abbrev pub cuts_in : Word → ℕ
cuts_in Word.Cut = 1
cuts_in _ = 0

abbrev pub splits_in : Word → ℕ
splits_in Word.Split = 1
splits_in _ = 0

abbrev pub leaves_in : Word → ℕ
leaves_in Word.Leaf = 1
leaves_in _ = 0

-- how many cuts a line tells of
abbrev pub told_in : Word → List ℤ → ℕ
told_in Word.Cuts numbers = number_at 0 numbers
told_in _ numbers = 0

abbrev pub standing_of : List CertLine → Standing
standing_of before = record {
  last = last_word None before;
  blocks = sum_by (λ line. blocks_in line.word) before;
  told = sum_by (λ line. told_in line.word line.numbers) before;
  cuts = sum_by (λ line. cuts_in line.word) before;
  splits = sum_by (λ line. splits_in line.word) before;
  leaves = sum_by (λ line. leaves_in line.word) before;
}

-- the words of the cuts that are still to come, and behind the last those of the tree
abbrev pub words_of_cuts : Bool → List Word
words_of_cuts true = Word.Cut ∷ []
words_of_cuts false = Word.Split ∷ Word.Leaf ∷ Word.End ∷ []

-- the words that a line behind the verdict's may have
abbrev pub first_words : Verdict → List Word
first_words Optimal = Word.Master ∷ []
first_words Infeasible = Word.Cuts ∷ []
first_words Unbounded = Word.Master ∷ []

-- the words that may follow the master's
abbrev pub words_of_master : Verdict → List Word
words_of_master Optimal = Word.Eta ∷ []
words_of_master Infeasible = []
words_of_master Unbounded = Word.Block ∷ Word.Ray ∷ []

-- the words that may follow a block
abbrev pub words_of_block : Verdict → List Word
words_of_block Optimal = Word.Block ∷ Word.Value ∷ []
words_of_block Infeasible = []
words_of_block Unbounded = Word.Block ∷ Word.Ray ∷ []

-- the words that a line may have behind one of that word, by the verdict and whether cuts are still to come
abbrev pub words_behind : Verdict → Bool → Option Word → List Word
words_behind verdict to_come None = first_words verdict
words_behind verdict to_come (Some Word.Master) = words_of_master verdict
words_behind verdict to_come (Some Word.Eta) = Word.Block ∷ Word.Value ∷ []
words_behind verdict to_come (Some Word.Block) = words_of_block verdict
words_behind verdict to_come (Some Word.Value) = Word.Cuts ∷ []
words_behind verdict to_come (Some Word.Ray) = Word.End ∷ []
words_behind verdict to_come (Some Word.Cuts) = words_of_cuts to_come
words_behind verdict to_come (Some Word.Cut) = words_of_cuts to_come
words_behind verdict to_come (Some Word.Split) = Word.Split ∷ Word.Leaf ∷ Word.End ∷ []
words_behind verdict to_come (Some Word.Leaf) = Word.Split ∷ Word.Leaf ∷ Word.End ∷ []
words_behind verdict to_come (Some Word.End) = []

abbrev pub IsIn : List Word → Word → Type 0
IsIn [] word = ⊥
IsIn (w ∷ ws) word = (word ≡ w) ⊎ IsIn ws word

-- a line of the word may stand here
abbrev pub IsPossible : Verdict → Standing → Word → Type 0
IsPossible verdict before word = IsIn (words_behind verdict (nat_lt before.cuts before.told) before.last) word

-- the tree is whole: it has one leaf more than splits
abbrev pub IsWhole : Standing → Type 0
IsWhole before = before.leaves ≡ suc before.splits

-- the tree ends here without being whole; an unbounded model's certificate has none
abbrev pub EndsTree : Verdict → Standing → Type 0
EndsTree Unbounded before = ⊥
EndsTree Optimal before = IsWhole before → ⊥
EndsTree Infeasible before = IsWhole before → ⊥

-- a line of the word ends a tree that is not whole, or goes on with one that is
abbrev pub BreaksTree : Verdict → Standing → Word → Type 0
BreaksTree verdict before Word.End = EndsTree verdict before
BreaksTree verdict before Word.Split = IsWhole before
BreaksTree verdict before Word.Leaf = IsWhole before
BreaksTree verdict before _ = ⊥

-- every second number, from the first one on
abbrev pub alternate : List ℤ → List ℤ
alternate [] = []
alternate (n ∷ []) = n ∷ []
alternate (n ∷ m ∷ ns) = n ∷ alternate ns

-- the count and the indexes of a sparse list that begins the numbers, as far as they go
abbrev pub list_indexes : List ℤ → List ℤ
list_indexes [] = []
list_indexes (count ∷ ns) = count ∷ alternate (take (2 * unsigned_abs count) ns)

-- the numbers behind a sparse list that begins them
abbrev pub behind_list : List ℤ → List ℤ
behind_list [] = []
behind_list (count ∷ ns) = drop (2 * unsigned_abs count) ns

-- the counts and indexes of two sparse lists that begin the numbers
abbrev pub lists_indexes : List ℤ → List ℤ
lists_indexes numbers = list_indexes numbers ++ list_indexes (behind_list numbers)

-- the counts and indexes among the numbers of a line: a number of cuts, the numbers of blocks and positions, and those of
-- sparse lists
abbrev pub indexes_of : Word → List ℤ → List ℤ
indexes_of Word.Block numbers = take 1 numbers
indexes_of Word.Cuts numbers = take 1 numbers
indexes_of Word.Cut numbers = take 1 numbers ++ lists_indexes (drop 4 numbers)
indexes_of Word.Split numbers = take 1 numbers
indexes_of Word.Leaf numbers = list_indexes (drop 2 numbers)
indexes_of _ numbers = []

-- from 0 to 2 ^ 32 - 1
abbrev pub IsIndex : ℤ → Type 0
IsIndex number = (index : ℕ) × (number ≡ pos index) × (index < 2 ^ 32)

-- the line is the word and these numbers, each behind one blank; no number is wide, and counts and indexes are from 0 to
-- 2 ^ 32 - 1
pub record IsLineOf (line : List ℕ) (word : Word) (numbers : List ℤ) : Type 0 where
  pub spelling : line ≡ word_bytes word ++ spelled numbers
  pub narrow : AllByRecursion IsNarrow numbers
  pub indexes : AllByRecursion IsIndex (indexes_of word numbers)

-- more than 65,535 cuts are told of, or the node would be one more than 65,535
abbrev pub IsTooMany : Standing → Word → List ℤ → Type 0
IsTooMany before Word.Cuts numbers = 65535 < number_at 0 numbers
IsTooMany before Word.Split numbers = 65535 ≤ before.splits + before.leaves
IsTooMany before Word.Leaf numbers = 65535 ≤ before.splits + before.leaves
IsTooMany before _ numbers = ⊥

-- the numbers are the four and the two sparse lists of a cut, as far as their counts say
pub record AreOfCut (numbers : List ℤ) : Type 0 where
  pub block : ℤ
  pub p0 : ℤ
  pub beta : ℤ
  pub gcd : ℤ
  pub alpha : List (ℕ × ℤ)
  pub mu : List (ℕ × ℤ)
  pub numbers_are : numbers ≡ block ∷ p0 ∷ beta ∷ gcd ∷ (sparse_numbers alpha ++ sparse_numbers mu)

-- the numbers are the two and the sparse list of a leaf, as far as its count says
pub record AreOfLeaf (numbers : List ℤ) : Type 0 where
  pub delta : ℤ
  pub bound : ℤ
  pub lambda : List (ℕ × ℤ)
  pub numbers_are : numbers ≡ delta ∷ bound ∷ sparse_numbers lambda

-- there are as many numbers as a line of the word has
abbrev pub AreEnough : Word → List ℤ → Type 0
AreEnough Word.Master numbers = 1 ≤ length numbers
AreEnough Word.Eta numbers = Unit {0}
AreEnough Word.Block numbers = 2 ≤ length numbers
AreEnough Word.Value numbers = length numbers ≡ 1
AreEnough Word.Ray numbers = Unit {0}
AreEnough Word.Cuts numbers = length numbers ≡ 1
AreEnough Word.Cut numbers = AreOfCut numbers
AreEnough Word.Split numbers = length numbers ≡ 3
AreEnough Word.Leaf numbers = AreOfLeaf numbers
AreEnough Word.End numbers = length numbers ≡ 0

-- the block has the next number; the indexes of lists rise, and none of their values is zero
abbrev pub AreInOrder : Standing → Word → List ℤ → Type 0
AreInOrder before Word.Block numbers = number_at 0 numbers ≡ suc before.blocks
AreInOrder before Word.Cut numbers = (cut : AreOfCut numbers) × IsSparse cut.alpha × IsSparse cut.mu
AreInOrder before Word.Leaf numbers = (leaf : AreOfLeaf numbers) × IsSparse leaf.lambda
AreInOrder before _ numbers = Unit {0}

-- the line's first word, up to a blank or to the line's end
pub record HasWord (line : List ℕ) (word : Word) : Type 0 where
  pub behind : List ℕ
  pub laid_out : line ≡ word_bytes word ++ behind
  pub apart : BeginsWith 32 behind

-- a test of a line: when the line breaks it, and what it breaks then
pub record Test : Type 1 where
  pub breaks : Type 0
  pub kind : CertKind

-- the first of the tests that is broken is one of that kind
abbrev pub BreaksFirst : List {1} Test → CertKind → Type 0
BreaksFirst [] kind = ⊥
BreaksFirst (test ∷ tests) kind = (test.breaks × (kind ≡ test.kind)) ⊎ ((test.breaks → ⊥) × BreaksFirst tests kind)

-- The tests of a line behind the verdict's, in order: its first word, the tree, each of its numbers, the limits, how
-- many numbers there are, and their order.
abbrev pub tests_of : Verdict → Standing → List ℕ → List {1} Test
tests_of verdict before line =
    record { breaks = (word : Word) → HasWord line word → IsPossible verdict before word → ⊥; kind = CertKind.Line }
    ∷ record { breaks = (word : Word) × HasWord line word × BreaksTree verdict before word; kind = CertKind.Tree }
    ∷ record { breaks = (word : Word) (numbers : List ℤ) → IsLineOf line word numbers → ⊥; kind = CertKind.Number }
    ∷ record {
      breaks = (l : CertLine) × IsLineOf line l.word l.numbers
          × IsTooMany before l.word l.numbers;
      kind = CertKind.Limit;
    }
    ∷ record {
      breaks = (l : CertLine) × IsLineOf line l.word l.numbers
          × (AreEnough l.word l.numbers → ⊥);
      kind = CertKind.Line;
    }
    ∷ record {
      breaks = (l : CertLine) × IsLineOf line l.word l.numbers
          × (AreInOrder before l.word l.numbers → ⊥);
      kind = CertKind.Order;
    }
    ∷ []

-- the tests of a line behind one of that word: behind the last line no line may come
abbrev pub tests_behind : Option Word → Verdict → Standing → List ℕ → List {1} Test
tests_behind (Some Word.End) verdict before line = record { breaks = Unit {0}; kind = CertKind.End } ∷ []
tests_behind _ verdict before line = tests_of verdict before line

-- a line that breaks no test behind the lines before
pub record Passes (verdict : Verdict) (before : Standing) (line : CertLine) : Type 0 where
  pub possible : IsPossible verdict before line.word
  pub tree : BreaksTree verdict before line.word → ⊥
  pub narrow : AllByRecursion IsNarrow line.numbers
  pub indexes : AllByRecursion IsIndex (indexes_of line.word line.numbers)
  pub few : IsTooMany before line.word line.numbers → ⊥
  pub enough : AreEnough line.word line.numbers
  pub in_order : AreInOrder before line.word line.numbers

-- each of the lines breaks no test behind those seen before
abbrev pub AllPass : Verdict → List CertLine → List CertLine → Type 0
AllPass verdict seen [] = Unit {0}
AllPass verdict seen (line ∷ lines) = Passes verdict (standing_of seen) line × AllPass verdict (seen ++ line ∷ []) lines

-- the first line of what is left of a text, without its line feed, and what stands from there on
pub record BeginsWithLine (rest line from_feed : List ℕ) : Type 0 where
  pub some : rest ≢ []
  pub joined : rest ≡ line ++ from_feed
  pub clear : AllByRecursion (λ byte. byte ≢ 10) line
  pub apart : BeginsWith 10 from_feed

-- What is left of a text behind so many lines fails at once: it is empty where a line has to come, its first line breaks
-- a test, or that line lacks its line feed alone.
pub data FailsAtOnce
    (verdict : Verdict) (before : Standing) (lines : ℕ) (rest : List ℕ) (number : ℕ) (kind : CertKind) : Type 0 where
  ends : rest ≡ [] → before.last ≢ Some Word.End → number ≡ lines → kind ≡ CertKind.End →
      FailsAtOnce verdict before lines rest number kind
  breaks : (line from_feed : List ℕ) → BeginsWithLine rest line from_feed →
      BreaksFirst (tests_behind before.last verdict before line) kind →
      number ≡ suc lines → FailsAtOnce verdict before lines rest number kind
  lacks_feed : (line : CertLine) → rest ≡ line_bytes line → Passes verdict before line → number ≡ suc lines →
      kind ≡ CertKind.End →
      FailsAtOnce verdict before lines rest number kind

-- behind the first two lines some line fails, and the lines before it pass
pub record FailsBehindHead (text : List ℕ) (number : ℕ) (kind : CertKind) : Type 0 where
  pub verdict : Verdict
  pub before : List CertLine
  pub rest : List ℕ
  pub joined : text ≡ head_bytes verdict ++ laid_out before ++ rest
  pub pass : AllPass verdict [] before
  pub fails : FailsAtOnce verdict (standing_of before) (2 + length before) rest number kind

-- the text is less than two lines, which are as they should be
abbrev pub EndsInHead : List ℕ → ℕ → Type 0
EndsInHead text number =
    ((text ≡ []) × (number ≡ 0))
    ⊎ ((text ≡ first_line) × (number ≡ 1))
    ⊎ ((text ≡ first_line ++ 10 ∷ []) × (number ≡ 1))
    ⊎ ((verdict : Verdict) × (text ≡ first_line ++ 10 ∷ verdict_line verdict) × (number ≡ 2))

-- The text fails first on the line of that number, in that way: the number of the last line where lines are missing at
-- its end.
pub data IsCertFault (text : List ℕ) (number : ℕ) (kind : CertKind) : Type 0 where
  head : (line from_feed : List ℕ) → BeginsWithLine text line from_feed → line ≢ first_line → number ≡ 1 →
      kind ≡ CertKind.Head →
      IsCertFault text number kind
  verdict : (rest line from_feed : List ℕ) → text ≡ first_line ++ 10 ∷ rest → BeginsWithLine rest line from_feed →
      ((verdict : Verdict) → line ≢ verdict_line verdict) → number ≡ 2 → kind ≡ CertKind.Verdict →
      IsCertFault text number kind
  ends : EndsInHead text number → kind ≡ CertKind.End → IsCertFault text number kind
  behind_head : FailsBehindHead text number kind → IsCertFault text number kind
