-- How what is left of a text fails at once, from how its first line does.
use Rattle.std.proofs.Common.{◌≡◌, ◌≢◌, ◌∷◌, ◌++◌, ◌∙◌, [], ℕ, ◌+◌, add-one, ◌<◌, ◌≤◌, ℤ, pos, List, Option, Some, None, false, inl, inr, ap, sym, refl, subst, arith, ◌⊎◌, append-nil, length, ◌==◌, Result}
use Rattle.std.specs.List.{AllByRecursion}
use Rattle.std.proofs.lemmas.List.{append_cancel_left}
use Rattle.bz_cut.specs.declared.Cut.{Cut}
use Rattle.bz_tree.specs.declared.TreeNode.{TreeNode}
use Rattle.bz_cert.specs.declared.faults.CertKind.{CertKind}
use Rattle.bz_cert.specs.declared.records.Verdict.{Verdict}
use Rattle.bz_cert.specs.declared.words.Word.{Word}
use Rattle.bz_cert.specs.CertText.{CertLine, IsWritableNode, cut_line, line_bytes, line_with, node_line, sparse_numbers, spelled, word_bytes}
use Rattle.bz_cert.specs.CertFaults.{AreEnough, AreInOrder, AreOfCut, AreOfLeaf, number_at, BeginsWith, BeginsWithLine, BreaksFirst, BreaksTree, FailsAtOnce, HasWord, IsIn, IsLineOf, IsPossible, IsTooMany, IsWhole, Passes, Standing, tests_behind, tests_of}
use Rattle.bz_cert.specs.CertReading.{Answers, AreNumbersOf, Awaits, FailsAwaiting, StopsAs, BeginsWithCertLine, BeginsWithWord, NumbersFail, Only, tree_words}
use Rattle.bz_cert.proofs.ListLemmas.{same_until}
use Rattle.bz_cert.specs.declared.faults.CertStop.{CertStop}
use Rattle.std.specs.Prelude.{IsErrAnd}
use Rattle.bz_cert.proofs.Refusals.{handed_on}
use Rattle.bz_cert.proofs.SparseLists.{not_empty}
use Rattle.bz_cert.proofs.NumberTexts.{begins_stops}
use Rattle.bz_cert.proofs.TextLines.{same_line as same_bytes_same_line}
use Rattle.bz_cert.proofs.WordTexts.{no_blank, same_word, spelled_apart}

word_of_line : (line : List ℕ) (w : Word) (ns : List ℤ) → IsLineOf line w ns → HasWord line w
word_of_line line w ns h = record { behind = spelled ns; laid_out = h.spelling; apart = spelled_apart ns }

-- a line is of one word and numbers
same_line : (line : List ℕ) (v w : Word) (ms ns : List ℤ) → IsLineOf line v ms → IsLineOf line w ns → (v ≡ w) × (ms ≡ ns)
same_line line v w ms ns h k =
    let e : line_with v ms ≡ line_with w ns = same_bytes_same_line (line_with v ms) (line_with w ns) h.narrow k.narrow (sym h.spelling ∙ k.spelling) in
    (ap (λ l. l.word) e, ap (λ l. l.numbers) e)

-- the tests of a line that is not behind the last one
first_of_tests : (last : Option Word) (verdict : Verdict) (before : Standing) (line : List ℕ) (kind : CertKind) → last ≢ Some Word.End →
    BreaksFirst (tests_of verdict before line) kind → BreaksFirst (tests_behind last verdict before line) kind
first_of_tests None verdict before line kind more h = h
first_of_tests (Some Word.End) verdict before line kind more h = absurd (more refl)
first_of_tests (Some _) verdict before line kind more h = h

possible : (verdict : Verdict) (before : Standing) (words : List Word) (word : Word) → Awaits verdict before words → IsIn words word → IsPossible verdict before word
possible verdict before words word awaits is_in = subst (λ (ws : List Word). IsIn ws word) (sym awaits.words_are) is_in

pub no_line : (verdict : Verdict) (before : Standing) (words : List Word) (lines : ℕ) (rest : List ℕ) → Awaits verdict before words → rest ≡ [] →
    FailsAtOnce verdict before lines rest lines CertKind.End
no_line verdict before words lines rest awaits none = FailsAtOnce.ends none awaits.more refl refl

-- the line of none of the words
pub no_word : (verdict : Verdict) (before : Standing) (words : List Word) (lines : ℕ) (rest line from_feed : List ℕ) → Awaits verdict before words →
    BeginsWithLine rest line from_feed → ((word : Word) → HasWord line word → IsIn words word → ⊥) →
    FailsAtOnce verdict before lines rest (lines + 1) CertKind.Line
no_word verdict before words lines rest line from_feed awaits begins none =
    FailsAtOnce.breaks line from_feed begins
    (first_of_tests before.last verdict before line CertKind.Line awaits.more
    (inl (λ word has may. none word has (subst (λ (ws : List Word). IsIn ws word) awaits.words_are may), refl)))
    (add-one lines)

-- the line's first field is its word
pub field_is_word : (line field behind : List ℕ) (word : Word) → line ≡ field ++ behind → AllByRecursion (λ b. b ≢ 32) field → BeginsWith 32 behind →
    HasWord line word → field ≡ word_bytes word
field_is_word line field behind word joined clear apart has =
    (same_until (λ b. b ≢ 32) field (word_bytes word) behind has.behind clear (no_blank word)
    (begins_stops 32 behind apart) (begins_stops 32 has.behind has.apart) (sym joined ∙ has.laid_out)).0

-- the first line of what is left
pub first_line_is : (rest line from_feed : List ℕ) → (length rest == 0) ≡ false → rest ≡ line ++ from_feed → AllByRecursion (λ b. b ≢ 10) line →
    BeginsWith 10 from_feed → BeginsWithLine rest line from_feed
first_line_is rest line from_feed some joined clear apart = record { some = not_empty rest some; joined = joined; clear = clear; apart = apart }

-- behind a word that may stand there
has_word : (rest : List ℕ) (word : Word) (behind from_feed : List ℕ) → BeginsWithWord rest word behind from_feed → HasWord (word_bytes word ++ behind) word
has_word rest word behind from_feed begins = record { behind = behind; laid_out = refl; apart = begins.apart }

pub breaks_tree : (verdict : Verdict) (before : Standing) (words : List Word) (lines : ℕ) (rest : List ℕ) (word : Word) (behind from_feed : List ℕ) →
    Awaits verdict before words → IsIn words word → BeginsWithWord rest word behind from_feed → BreaksTree verdict before word →
    FailsAtOnce verdict before lines rest (lines + 1) CertKind.Tree
breaks_tree verdict before words lines rest word behind from_feed awaits is_in begins tree =
    let has : HasWord (word_bytes word ++ behind) word = has_word rest word behind from_feed begins in
    FailsAtOnce.breaks (word_bytes word ++ behind) from_feed begins.begins
    (first_of_tests before.last verdict before _ CertKind.Tree awaits.more
    (inr (
      λ none. none word has (possible verdict before words word awaits is_in),
      inl ((word, has, tree), refl),
    )))
    (add-one lines)

-- the tree is not broken by the line's word
no_tree : (verdict : Verdict) (before : Standing) (line : List ℕ) (word : Word) → HasWord line word → (BreaksTree verdict before word → ⊥) →
    (w : Word) × HasWord line w × BreaksTree verdict before w → ⊥
no_tree verdict before line word has fine broken =
    fine (subst (BreaksTree verdict before) (same_word line broken.0 word broken.1 has) broken.2)

pub no_numbers : (verdict : Verdict) (before : Standing) (words : List Word) (lines : ℕ) (rest : List ℕ) (word : Word) (behind from_feed : List ℕ) →
    Awaits verdict before words → IsIn words word → BeginsWithWord rest word behind from_feed → (BreaksTree verdict before word → ⊥) →
    ((numbers : List ℤ) → AreNumbersOf word behind numbers → ⊥) → FailsAtOnce verdict before lines rest (lines + 1) CertKind.Number
no_numbers verdict before words lines rest word behind from_feed awaits is_in begins fine none =
    let has : HasWord (word_bytes word ++ behind) word = has_word rest word behind from_feed begins in
    FailsAtOnce.breaks (word_bytes word ++ behind) from_feed begins.begins
    (first_of_tests before.last verdict before _ CertKind.Number awaits.more
    (inr (
      λ no. no word has (possible verdict before words word awaits is_in),
      inr (
        no_tree verdict before _ word has fine,
        inl (λ w ns is. none ns (of_word w ns is (same_word _ w word (word_of_line _ w ns is) has)), refl),
      ),
    )))
    (add-one lines)
  where
    of_word : (w : Word) (ns : List ℤ) → IsLineOf (word_bytes word ++ behind) w ns → w ≡ word → AreNumbersOf word behind ns
    of_word w ns is same =
        let here : IsLineOf (word_bytes word ++ behind) word ns = subst (λ (x : Word). IsLineOf (word_bytes word ++ behind) x ns) same is in
        record {
          numbers_are = record { spelling = append_cancel_left (word_bytes word) _ _ here.spelling; narrow = here.narrow };
          indexes = here.indexes;
        }

is_line_of : (rest : List ℕ) (line : CertLine) (from_feed : List ℕ) → BeginsWithCertLine rest line from_feed → IsLineOf (line_bytes line) line.word line.numbers
is_line_of rest line from_feed begins = record { spelling = refl; narrow = begins.narrow; indexes = begins.indexes }

-- some word and numbers of the line are as P says
abbrev SomeLine : List ℕ → (Word → List ℤ → Type 0) → Type 0
SomeLine line P = (l : CertLine) × IsLineOf line l.word l.numbers × P l.word l.numbers

of_same : (P : Word → List ℤ → Type 0) (line : List ℕ) (word : Word) (numbers : List ℤ) → IsLineOf line word numbers → SomeLine line P → P word numbers
of_same P line word numbers is other =
    let same : (other.0.word ≡ word) × (other.0.numbers ≡ numbers) = same_line _ other.0.word word other.0.numbers numbers other.1 is in
    subst (λ (ns : List ℤ). P word ns) same.1 (subst (λ (w : Word). P w other.0.numbers) same.0 other.2)

-- the last three tests of a line, of its numbers
last_tests : (before : Standing) (line : List ℕ) (word : Word) (numbers : List ℤ) (kind : CertKind) → IsLineOf line word numbers →
    ((kind ≡ CertKind.Limit) × IsTooMany before word numbers)
    ⊎ ((kind ≡ CertKind.Line) × (IsTooMany before word numbers → ⊥) × (AreEnough word numbers → ⊥))
    ⊎ ((kind ≡ CertKind.Order) × (IsTooMany before word numbers → ⊥) × AreEnough word numbers × (AreInOrder before word numbers → ⊥)) →
    (SomeLine line (IsTooMany before) × (kind ≡ CertKind.Limit))
    ⊎ ((SomeLine line (IsTooMany before) → ⊥)
    × ((SomeLine line (λ w ns. AreEnough w ns → ⊥) × (kind ≡ CertKind.Line))
    ⊎ ((SomeLine line (λ w ns. AreEnough w ns → ⊥) → ⊥)
    × ((SomeLine line (λ w ns. AreInOrder before w ns → ⊥) × (kind ≡ CertKind.Order))
    ⊎ ((SomeLine line (λ w ns. AreInOrder before w ns → ⊥) → ⊥) × ⊥)))))
last_tests before line word numbers kind is (inl h) = inl ((line_with word numbers, is, h.1), h.0)
last_tests before line word numbers kind is (inr (inl h)) =
    inr (λ many. h.1 (of_same (IsTooMany before) line word numbers is many), inl ((line_with word numbers, is, h.2), h.0))
last_tests before line word numbers kind is (inr (inr h)) =
    inr (
      λ many. h.1 (of_same (IsTooMany before) line word numbers is many),
      inr (
        λ few. of_same (λ w ns. AreEnough w ns → ⊥) line word numbers is few h.2,
        inl ((line_with word numbers, is, h.3), h.0),
      ),
    )

-- the line of numbers that are too many, too few or out of order
pub numbers_fail : (verdict : Verdict) (before : Standing) (words : List Word) (lines : ℕ) (rest : List ℕ) (word : Word) (numbers : List ℤ) (from_feed : List ℕ)
    (number : ℕ) (kind : CertKind) → Awaits verdict before words → IsIn words word → BeginsWithCertLine rest (line_with word numbers) from_feed →
    (BreaksTree verdict before word → ⊥) → NumbersFail (lines + 1) before word numbers number kind → FailsAtOnce verdict before lines rest number kind
numbers_fail verdict before words lines rest word numbers from_feed number kind awaits is_in begins fine fail =
    let is : IsLineOf (line_bytes (line_with word numbers)) word numbers = is_line_of rest (line_with word numbers) from_feed begins in
    let has : HasWord (line_bytes (line_with word numbers)) word = word_of_line _ word numbers is in
    FailsAtOnce.breaks (line_bytes (line_with word numbers)) from_feed begins.begins
    (first_of_tests before.last verdict before _ kind awaits.more
    (inr (
      λ no. no word has (possible verdict before words word awaits is_in),
      inr (
        no_tree verdict before _ word has fine,
        inr (λ no. no word numbers is, last_tests before _ word numbers kind is fail.1),
      ),
    )))
    (fail.0 ∙ add-one lines)

-- a line that passes
pub passes : (verdict : Verdict) (before : Standing) (words : List Word) (rest : List ℕ) (word : Word) (numbers : List ℤ) (from_feed : List ℕ) →
    Awaits verdict before words → IsIn words word → BeginsWithCertLine rest (line_with word numbers) from_feed → (BreaksTree verdict before word → ⊥) →
    (IsTooMany before word numbers → ⊥) → AreEnough word numbers → AreInOrder before word numbers → Passes verdict before (line_with word numbers)
passes verdict before words rest word numbers from_feed awaits is_in begins fine few enough order = record {
  possible = possible verdict before words word awaits is_in;
  tree = fine;
  narrow = begins.narrow;
  indexes = begins.indexes;
  few = few;
  enough = enough;
  in_order = order;
}

-- a line that passes but lacks its line feed
pub lacks_feed : (verdict : Verdict) (before : Standing) (lines : ℕ) (rest : List ℕ) (line : CertLine) (from_feed : List ℕ) →
    BeginsWithCertLine rest line from_feed → Passes verdict before line → from_feed ≡ [] → FailsAtOnce verdict before lines rest (lines + 1) CertKind.End
lacks_feed verdict before lines rest line from_feed begins passing none =
    FailsAtOnce.lacks_feed line (begins.begins.joined ∙ ap (λ t. line_bytes line ++ t) none ∙ append-nil _) passing (add-one lines) refl

-- a line of a word with numbers is a line of those
pub line_of_numbers : (rest : List ℕ) (word : Word) (behind from_feed : List ℕ) (numbers : List ℤ) → BeginsWithWord rest word behind from_feed →
    AreNumbersOf word behind numbers → BeginsWithCertLine rest (line_with word numbers) from_feed
line_of_numbers rest word behind from_feed numbers begins are = record {
  begins = subst (λ (b : List ℕ). BeginsWithLine rest (word_bytes word ++ b) from_feed) are.numbers_are.spelling begins.begins;
  narrow = are.numbers_are.narrow;
  indexes = are.indexes;
}

-- the same line and kind
pub failing_is : (verdict : Verdict) (before : Standing) (lines : ℕ) (rest : List ℕ) (number line : ℕ) (found kind : CertKind) → number ≡ line → found ≡ kind →
    FailsAtOnce verdict before lines rest line kind → FailsAtOnce verdict before lines rest number found
failing_is verdict before lines rest number line found kind n k h =
    subst (λ (m : ℕ). FailsAtOnce verdict before lines rest m found) (sym n) (subst (FailsAtOnce verdict before lines rest line) (sym k) h)

-- the answer of a reader whose line has numbers that fail
pub numbers_refused : {X : Type 0} (P : X → Type 0) (words : List Word) (lines : ℕ) (rest : List ℕ) (word : Word) (numbers slice : List ℤ) (from_feed : List ℕ)
    (r : Result X CertStop) (stop : CertStop) → IsErrAnd r (λ e. e ≡ stop) →
    StopsAs (λ number kind. (before : Standing) → NumbersFail (lines + 1) before word slice number kind) stop → slice ≡ numbers →
    IsIn words word → BeginsWithCertLine rest (line_with word numbers) from_feed → Answers P (FailsAwaiting words lines rest) r
numbers_refused P words lines rest word numbers slice from_feed r stop is stops same is_in begins =
    handed_on P _ (FailsAwaiting words lines rest) r stop is stops (λ number kind h verdict before awaits fine.
    numbers_fail verdict before words lines rest word numbers from_feed number kind awaits is_in begins (fine word is_in)
    (subst (λ (ns : List ℤ). NumbersFail (lines + 1) before word ns number kind) same (h before)))

-- the answer of a reader whose line lacks its line feed alone
pub feed_refused : {X : Type 0} (P : X → Type 0) (words : List Word) (lines : ℕ) (rest : List ℕ) (word : Word) (numbers : List ℤ) (from_feed : List ℕ)
    (r : Result X CertStop) (stop : CertStop) → IsErrAnd r (λ e. e ≡ stop) → StopsAs (Only (lines + 1) CertKind.End (from_feed ≡ [])) stop →
    IsIn words word → BeginsWithCertLine rest (line_with word numbers) from_feed →
    ((before : Standing) → IsTooMany before word numbers → ⊥) → AreEnough word numbers → ((before : Standing) → AreInOrder before word numbers) →
    Answers P (FailsAwaiting words lines rest) r
feed_refused P words lines rest word numbers from_feed r stop is stops is_in begins few enough order =
    handed_on P _ (FailsAwaiting words lines rest) r stop is stops (λ number kind h verdict before awaits fine.
    failing_is verdict before lines rest number (lines + 1) kind CertKind.End h.0 h.1
    (lacks_feed verdict before lines rest (line_with word numbers) from_feed begins
    (passes verdict before words rest word numbers from_feed awaits is_in begins (fine word is_in) (few before) enough (order before)) h.2))

-- numbers of a count of cuts that is not too great
pub few_cuts : (numbers : List ℤ) (count : ℕ) → numbers ≡ pos count ∷ [] → count ≤ 65535 → 65535 < number_at 0 numbers → ⊥
few_cuts numbers count e few many = absurd (omega (arith, few, subst (λ (ns : List ℤ). 65535 < number_at 0 ns) e many))

-- the numbers of a cut's line
abbrev pub cut_numbers : (numbers : List ℤ) (cut : Cut) → numbers ≡ (cut_line cut).numbers → AreOfCut numbers
cut_numbers numbers cut e = record {
  block = pos cut.block;
  p0 = cut.p0;
  beta = cut.beta;
  gcd = cut.gcd;
  alpha = cut.alpha;
  mu = cut.mu;
  numbers_are = e;
}

-- a word of a tree's line that is not the last one
pub node_word : (w : Word) → IsIn tree_words w → (w ≡ Word.End → ⊥) → (w ≡ Word.Split) ⊎ (w ≡ Word.Leaf)
node_word w (inl s) other = inl s
node_word w (inr (inl l)) other = inr l
node_word w (inr (inr (inl e))) other = absurd (other e)
node_word w (inr (inr (inr none))) other = absurd none

pub node_fine : (verdict : Verdict) (before : Standing) (w : Word) → (w ≡ Word.Split) ⊎ (w ≡ Word.Leaf) → (IsWhole before → ⊥) →
    BreaksTree verdict before w → ⊥
node_fine verdict before w (inl s) part broken = part (subst (BreaksTree verdict before) s broken)
node_fine verdict before w (inr l) part broken = part (subst (BreaksTree verdict before) l broken)

pub node_few : (before : Standing) (w : Word) (numbers : List ℤ) (nodes : ℕ) → (w ≡ Word.Split) ⊎ (w ≡ Word.Leaf) → before.splits + before.leaves ≡ nodes →
    nodes ≤ 65534 → IsTooMany before w numbers → ⊥
node_few before w numbers nodes (inl s) e few many =
    let m : 65535 ≤ before.splits + before.leaves = subst (λ (x : Word). IsTooMany before x numbers) s many in absurd (omega (arith, m, e, few))
node_few before w numbers nodes (inr l) e few many =
    let m : 65535 ≤ before.splits + before.leaves = subst (λ (x : Word). IsTooMany before x numbers) l many in absurd (omega (arith, m, e, few))

-- the numbers of a node's line are as many as it has, and in order
node_numbers : (before : Standing) (node : TreeNode) → IsWritableNode node →
    AreEnough (node_line node).word (node_line node).numbers × AreInOrder before (node_line node).word (node_line node).numbers
node_numbers before (TreeNode.Split position left right) h = (refl, tt)
node_numbers before (TreeNode.Leaf leaf) h =
    let is : AreOfLeaf (leaf.delta ∷ leaf.bound ∷ sparse_numbers leaf.lambda) =
    record { delta = leaf.delta; bound = leaf.bound; lambda = leaf.lambda; numbers_are = refl } in
    (is, (record { delta = leaf.delta; bound = leaf.bound; lambda = leaf.lambda; numbers_are = refl }, h.sparse))

pub node_line_numbers : (before : Standing) (node : TreeNode) (line : CertLine) → node_line node ≡ line → IsWritableNode node →
    AreEnough line.word line.numbers × AreInOrder before line.word line.numbers
node_line_numbers before node line e h =
    subst (λ (l : CertLine). AreEnough l.word l.numbers × AreInOrder before l.word l.numbers) e (node_numbers before node h)
