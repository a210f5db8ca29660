-- A text has one fault at most, and a certificate's text has none.
use Rattle.std.proofs.Common.{◌≡◌, ◌≢◌, ◌∷◌, ◌++◌, ◌∙◌, [], ℕ, ◌+◌, ◌<◌, ℤ, List, Option, Some, None, inl, inr, ap, sym, refl, subst, arith, append-nil, append_assoc, length, length-append, map, nat_lt}
use Rattle.std.specs.List.{AllByRecursion}
use Rattle.std.proofs.lemmas.List.{append_cancel_left}
use Rattle.bz_model.specs.declared.Parts.{Parts}
use Rattle.bz_cut.specs.declared.Cut.{Cut}
use Rattle.bz_tree.specs.declared.TreeNode.{TreeNode}
use Rattle.bz_cert.specs.declared.faults.CertKind.{CertKind}
use Rattle.bz_cert.specs.declared.records.Certificate.{Certificate}
use Rattle.bz_cert.specs.declared.records.Verdict.{Verdict}
use Rattle.bz_cert.specs.declared.records.Verdict.TheVariants.{Optimal, Infeasible, Unbounded}
use Rattle.bz_cert.specs.declared.words.Word.{Word}
use Rattle.bz_cert.specs.CertText.{CertLine, IsCertText, block_lines, bound_lines, cert_lines, cut_line, first_line, head_bytes, laid_out, line_bytes, line_with, lines_by, node_line, spelled, verdict_line, word_bytes}
use Rattle.bz_cert.specs.Shapes.{HasPartsOf, IsShaped}
use Rattle.bz_cert.specs.CertFaults.{AllPass, BeginsWith, BeginsWithLine, BreaksFirst, BreaksTree, EndsInHead, FailsAtOnce, FailsBehindHead, HasWord, IsCertFault, IsIn, IsLineOf, IsTooMany, AreEnough, AreInOrder, Passes, Standing, Test, last_word, standing_of, tests_behind, tests_of, words_behind}
use Rattle.bz_cert.proofs.ListLemmas.{Stops, same_until}
use Rattle.bz_cert.proofs.NumberTexts.{begins_stops, clear_of}
use Rattle.bz_cert.proofs.TextLines.{IsNarrowLine, first_apart, line_clear, line_in_front, never_empty, same_line}
use Rattle.bz_cert.proofs.WordTexts.{same_words, spelled_apart}
use Rattle.bz_cert.proofs.TextsOnce.{no_feed_in_verdict, same_head_bytes}
use Rattle.bz_cert.proofs.Standings.{all_pass}
use Rattle.bz_cert.proofs.TextsPass.{cert_passes}

-- the first of tests that is broken has one kind
one_kind : (tests : List {1} Test) (j k : CertKind) → BreaksFirst tests j → BreaksFirst tests k → j ≡ k
one_kind [] j k h i = absurd h
one_kind (t ∷ ts) j k (inl h) (inl i) = h.1 ∙ sym i.1
one_kind (t ∷ ts) j k (inl h) (inr i) = absurd (i.0 h.0)
one_kind (t ∷ ts) j k (inr h) (inl i) = absurd (h.0 i.0)
one_kind (t ∷ ts) j k (inr h) (inr i) = one_kind ts j k h.1 i.1

-- a line of a word and numbers has that word first
word_is : (line : CertLine) (word : Word) → HasWord (line_bytes line) word → word ≡ line.word
word_is line word h =
    (same_words word line.word h.behind (spelled line.numbers) h.apart (spelled_apart line.numbers) (sym h.laid_out)).0

-- a line that passes is of its own word and numbers alone
line_is : (line other : CertLine) → IsNarrowLine line → IsLineOf (line_bytes line) other.word other.numbers → other ≡ line
line_is line other h k = same_line other line k.narrow h (sym k.spelling)

-- a line that passes breaks none of the tests
breaks_no_test : (verdict : Verdict) (before : Standing) (line : CertLine) (kind : CertKind) → Passes verdict before line →
    BreaksFirst (tests_of verdict before (line_bytes line)) kind → ⊥
breaks_no_test verdict before line kind p (inl h) =
    h.0 line.word (record { behind = spelled line.numbers; laid_out = refl; apart = spelled_apart line.numbers }) p.possible
breaks_no_test verdict before line kind p (inr (_, inl h)) =
    p.tree (subst (BreaksTree verdict before) (word_is line h.0.0 h.0.1) h.0.2)
breaks_no_test verdict before line kind p (inr (_, inr (_, inl h))) =
    h.0 line.word line.numbers (record { spelling = refl; narrow = p.narrow; indexes = p.indexes })
breaks_no_test verdict before line kind p (inr (_, inr (_, inr (_, inl h)))) =
    p.few (subst (λ (l : CertLine). IsTooMany before l.word l.numbers) (line_is line h.0.0 p.narrow h.0.1) h.0.2)
breaks_no_test verdict before line kind p (inr (_, inr (_, inr (_, inr (_, inl h))))) =
    h.0.2 (subst (λ (l : CertLine). AreEnough l.word l.numbers) (sym (line_is line h.0.0 p.narrow h.0.1)) p.enough)
breaks_no_test verdict before line kind p (inr (_, inr (_, inr (_, inr (_, inr (_, inl h)))))) =
    h.0.2 (subst (λ (l : CertLine). AreInOrder before l.word l.numbers) (sym (line_is line h.0.0 p.narrow h.0.1)) p.in_order)
breaks_no_test verdict before line kind p (inr (_, inr (_, inr (_, inr (_, inr (_, inr (_, none))))))) = none

-- behind the last line no line passes
pub behind_no_end : (verdict : Verdict) (before : Standing) (line : CertLine) → Passes verdict before line → before.last ≡ Some Word.End → ⊥
behind_no_end verdict before line p e =
    subst (λ (w : Option Word). IsIn (words_behind verdict (nat_lt before.cuts before.told) w) line.word) e p.possible

breaks_nothing : (last : Option Word) (verdict : Verdict) (before : Standing) (line : CertLine) (kind : CertKind) → last ≢ Some Word.End →
    Passes verdict before line → BreaksFirst (tests_behind last verdict before (line_bytes line)) kind → ⊥
breaks_nothing None verdict before line kind more p h = breaks_no_test verdict before line kind p h
breaks_nothing (Some Word.End) verdict before line kind more p h = absurd (more refl)
breaks_nothing (Some _) verdict before line kind more p h = breaks_no_test verdict before line kind p h

passing_breaks_nothing : (verdict : Verdict) (before : Standing) (line : CertLine) (kind : CertKind) → Passes verdict before line →
    BreaksFirst (tests_behind before.last verdict before (line_bytes line)) kind → ⊥
passing_breaks_nothing verdict before line kind p h =
    breaks_nothing before.last verdict before line kind (behind_no_end verdict before line p) p h

feed_stops : (bytes : List ℕ) → BeginsWith 10 bytes → Stops (λ b. b ≢ 10) bytes
feed_stops bytes h = begins_stops 10 bytes h

-- what begins with a line that passes, and its line feed, does not fail at once
goes_on : (verdict : Verdict) (before : Standing) (lines : ℕ) (rest : List ℕ) (number : ℕ) (kind : CertKind) (line : CertLine) (behind : List ℕ) →
    Passes verdict before line → rest ≡ line_bytes line ++ 10 ∷ behind → FailsAtOnce verdict before lines rest number kind → ⊥
goes_on verdict before lines rest number kind line behind p is (FailsAtOnce.ends none more n k) = never_empty (line_bytes line) behind (sym is ∙ none)
goes_on verdict before lines rest number kind line behind p is (FailsAtOnce.breaks own from_feed begins breaks n) =
    let parts : (own ≡ line_bytes line) × (from_feed ≡ 10 ∷ behind) =
    same_until (λ b. b ≢ 10) own (line_bytes line) from_feed (10 ∷ behind) begins.clear (line_clear line p.narrow) (feed_stops from_feed begins.apart)
    (λ other. other refl) (sym begins.joined ∙ is) in
    passing_breaks_nothing verdict before line kind p
    (subst (λ (bytes : List ℕ). BreaksFirst (tests_behind before.last verdict before bytes) kind) parts.0 breaks)
goes_on verdict before lines rest number kind line behind p is (FailsAtOnce.lacks_feed own bytes passes n k) =
    let parts : (line_bytes own ≡ line_bytes line) × ([] ≡ 10 ∷ behind) =
    same_until (λ b. b ≢ 10) (line_bytes own) (line_bytes line) [] (10 ∷ behind) (line_clear own passes.narrow) (line_clear line p.narrow) tt
    (λ other. other refl) (append-nil (line_bytes own) ∙ sym bytes ∙ is) in
    never_empty [] behind (sym parts.1)

-- a line is not empty
some_bytes : (line : CertLine) → line_bytes line ≡ [] → ⊥
some_bytes line e = absurd (omega (arith, ap length e, length-append (word_bytes line.word) (spelled line.numbers), some_word line.word))
  where
    some_word : (w : Word) → 0 < length (word_bytes w)
    some_word Word.Master = omega arith
    some_word Word.Eta = omega arith
    some_word Word.Block = omega arith
    some_word Word.Value = omega arith
    some_word Word.Ray = omega arith
    some_word Word.Cuts = omega arith
    some_word Word.Cut = omega arith
    some_word Word.Split = omega arith
    some_word Word.Leaf = omega arith
    some_word Word.End = omega arith

-- what begins with a line that passes, and ends there without its line feed, breaks no test
open_breaks_nothing : (verdict : Verdict) (before : Standing) (rest own from_feed : List ℕ) (kind : CertKind) (line : CertLine) → rest ≡ line_bytes line →
    Passes verdict before line → BeginsWithLine rest own from_feed → BreaksFirst (tests_behind before.last verdict before own) kind → ⊥
open_breaks_nothing verdict before rest own from_feed kind line is p begins breaks =
    let parts : (own ≡ line_bytes line) × (from_feed ≡ []) =
    same_until (λ b. b ≢ 10) own (line_bytes line) from_feed [] begins.clear (line_clear line p.narrow) (feed_stops from_feed begins.apart) tt
    (sym begins.joined ∙ is ∙ sym (append-nil (line_bytes line))) in
    passing_breaks_nothing verdict before line kind p
    (subst (λ (bytes : List ℕ). BreaksFirst (tests_behind before.last verdict before bytes) kind) parts.0 breaks)

-- two faults of the same line
abbrev pub AreSame : ℕ → ℕ → CertKind → CertKind → Type 0
AreSame n m j k = (n ≡ m) × (j ≡ k)

-- what fails at once fails in one way
fails_once : (verdict : Verdict) (before : Standing) (lines : ℕ) (rest : List ℕ) (n m : ℕ) (j k : CertKind) →
    FailsAtOnce verdict before lines rest n j → FailsAtOnce verdict before lines rest m k → AreSame n m j k
fails_once verdict before lines rest n m j k (FailsAtOnce.ends _ _ a b) (FailsAtOnce.ends _ _ x y) = (a ∙ sym x, b ∙ sym y)
fails_once verdict before lines rest n m j k (FailsAtOnce.ends none _ a b) (FailsAtOnce.breaks own from_feed begins breaks x) = absurd (begins.some none)
fails_once verdict before lines rest n m j k (FailsAtOnce.ends none _ a b) (FailsAtOnce.lacks_feed line is p x y) = absurd (some_bytes line (sym is ∙ none))
fails_once verdict before lines rest n m j k (FailsAtOnce.breaks own from_feed begins breaks a) (FailsAtOnce.ends none _ x y) = absurd (begins.some none)
fails_once verdict before lines rest n m j k (FailsAtOnce.breaks own from_feed begins breaks a) (FailsAtOnce.breaks other behind begins' breaks' x) =
    let parts : (own ≡ other) × (from_feed ≡ behind) =
    same_until (λ b. b ≢ 10) own other from_feed behind begins.clear begins'.clear (feed_stops from_feed begins.apart) (feed_stops behind begins'.apart)
    (sym begins.joined ∙ begins'.joined) in (
      a ∙ sym x,
      one_kind (tests_behind before.last verdict before other) j k
          (subst (λ (bytes : List ℕ). BreaksFirst (tests_behind before.last verdict before bytes) j) parts.0 breaks) breaks',
    )
fails_once verdict before lines rest n m j k (FailsAtOnce.breaks own from_feed begins breaks a) (FailsAtOnce.lacks_feed line is p x y) =
    absurd (open_breaks_nothing verdict before rest own from_feed j line is p begins breaks)
fails_once verdict before lines rest n m j k (FailsAtOnce.lacks_feed line is p a b) (FailsAtOnce.ends none _ x y) = absurd (some_bytes line (sym is ∙ none))
fails_once verdict before lines rest n m j k (FailsAtOnce.lacks_feed line is p a b) (FailsAtOnce.breaks own from_feed begins breaks x) =
    absurd (open_breaks_nothing verdict before rest own from_feed k line is p begins breaks)
fails_once verdict before lines rest n m j k (FailsAtOnce.lacks_feed _ _ _ a b) (FailsAtOnce.lacks_feed _ _ _ x y) = (a ∙ sym x, b ∙ sym y)

-- behind lines that were seen, the rest fails in one way
fails_as : (verdict : Verdict) (seen ls ms : List CertLine) (r s : List ℕ) (n m : ℕ) (j k : CertKind) → AllPass verdict seen ls → AllPass verdict seen ms →
    FailsAtOnce verdict (standing_of (seen ++ ls)) (2 + length (seen ++ ls)) r n j → FailsAtOnce verdict (standing_of (seen ++ ms)) (2 + length (seen ++ ms)) s m k →
    laid_out ls ++ r ≡ laid_out ms ++ s → AreSame n m j k
fails_as verdict seen [] [] r s n m j k p q h i e =
    fails_once verdict (standing_of (seen ++ [])) (2 + length (seen ++ [])) s n m j k
    (subst (λ (t : List ℕ). FailsAtOnce verdict (standing_of (seen ++ [])) (2 + length (seen ++ [])) t n j) e h) i
fails_as verdict seen [] (l ∷ ls) r s n m j k p q h i e =
    let h' : FailsAtOnce verdict (standing_of seen) (2 + length seen) r n j =
    subst (λ (ls : List CertLine). FailsAtOnce verdict (standing_of ls) (2 + length ls) r n j) (append-nil seen) h in
    absurd (goes_on verdict (standing_of seen) (2 + length seen) r n j l (laid_out ls ++ s) q.0 (e ∙ first_apart l ls s) h')
fails_as verdict seen (l ∷ ls) [] r s n m j k p q h i e =
    let i' : FailsAtOnce verdict (standing_of seen) (2 + length seen) s m k =
    subst (λ (ls : List CertLine). FailsAtOnce verdict (standing_of ls) (2 + length ls) s m k) (append-nil seen) i in
    absurd (goes_on verdict (standing_of seen) (2 + length seen) s m k l (laid_out ls ++ r) p.0 (sym e ∙ first_apart l ls r) i')
fails_as verdict seen (l ∷ ls) (x ∷ xs) r s n m j k p q h i e =
    let first : (l ≡ x) × (laid_out ls ++ r ≡ laid_out xs ++ s) =
    line_in_front l x (laid_out ls ++ r) (laid_out xs ++ s) p.0.narrow q.0.narrow (sym (first_apart l ls r) ∙ e ∙ first_apart x xs s) in
    let q' : AllPass verdict (seen ++ l ∷ []) xs = subst (λ (y : CertLine). AllPass verdict (seen ++ y ∷ []) xs) (sym first.0) q.1 in
    let here : seen ++ x ∷ xs ≡ (seen ++ l ∷ []) ++ xs = ap (λ y. seen ++ y ∷ xs) (sym first.0) ∙ sym (append_assoc seen (l ∷ []) xs) in
    fails_as verdict (seen ++ l ∷ []) ls xs r s n m j k p.1 q'
    (subst (λ (ls : List CertLine). FailsAtOnce verdict (standing_of ls) (2 + length ls) r n j) (sym (append_assoc seen (l ∷ []) ls)) h)
    (subst (λ (ls : List CertLine). FailsAtOnce verdict (standing_of ls) (2 + length ls) s m k) here i) first.1

-- what all lines of a text pass has no fault behind its first two lines
none_behind : (verdict : Verdict) (seen ls ms : List CertLine) (r : List ℕ) (n : ℕ) (j : CertKind) → AllPass verdict seen ls → AllPass verdict seen ms →
    (standing_of (seen ++ ls)).last ≡ Some Word.End → FailsAtOnce verdict (standing_of (seen ++ ms)) (2 + length (seen ++ ms)) r n j →
    laid_out ls ≡ laid_out ms ++ r → ⊥
none_behind verdict seen [] [] r n j p q last h e =
    at_end r h (sym e)
  where
    at_end : (r : List ℕ) → FailsAtOnce verdict (standing_of (seen ++ [])) (2 + length (seen ++ [])) r n j → r ≡ [] → ⊥
    at_end r (FailsAtOnce.ends none more a b) e = more last
    at_end r (FailsAtOnce.breaks own from_feed begins breaks a) e = begins.some e
    at_end r (FailsAtOnce.lacks_feed line is p a b) e = some_bytes line (sym is ∙ e)
none_behind verdict seen [] (m ∷ ms) r n j p q last h e = never_empty (line_bytes m) (laid_out ms ++ r) (sym (first_apart m ms r) ∙ sym e)
none_behind verdict seen (l ∷ ls) [] r n j p q last h e =
    let h' : FailsAtOnce verdict (standing_of seen) (2 + length seen) r n j =
    subst (λ (ls : List CertLine). FailsAtOnce verdict (standing_of ls) (2 + length ls) r n j) (append-nil seen) h in
    goes_on verdict (standing_of seen) (2 + length seen) r n j l (laid_out ls) p.0
    (sym e ∙ append_assoc (line_bytes l) (10 ∷ []) (laid_out ls)) h'
none_behind verdict seen (l ∷ ls) (x ∷ xs) r n j p q last h e =
    let first : (l ≡ x) × (laid_out ls ≡ laid_out xs ++ r) =
    line_in_front l x (laid_out ls) (laid_out xs ++ r) p.0.narrow q.0.narrow
    (sym (append_assoc (line_bytes l) (10 ∷ []) (laid_out ls)) ∙ e ∙ first_apart x xs r) in
    let q' : AllPass verdict (seen ++ l ∷ []) xs = subst (λ (y : CertLine). AllPass verdict (seen ++ y ∷ []) xs) (sym first.0) q.1 in
    let here : seen ++ x ∷ xs ≡ (seen ++ l ∷ []) ++ xs = ap (λ y. seen ++ y ∷ xs) (sym first.0) ∙ sym (append_assoc seen (l ∷ []) xs) in
    none_behind verdict (seen ++ l ∷ []) ls xs r n j p.1 q'
    (subst (λ (ls : List CertLine). (standing_of ls).last ≡ Some Word.End) (sym (append_assoc seen (l ∷ []) ls)) last)
    (subst (λ (ls : List CertLine). FailsAtOnce verdict (standing_of ls) (2 + length ls) r n j) here h) first.1

-- the first two lines, of which the first ends in its line feed
pub head_apart : (verdict : Verdict) (rest : List ℕ) → head_bytes verdict ++ rest ≡ first_line ++ 10 ∷ (verdict_line verdict ++ 10 ∷ rest)
head_apart verdict rest = ap (λ t. first_line ++ 10 ∷ t) (append_assoc (verdict_line verdict) (10 ∷ []) rest)

no_feed_in_first : AllByRecursion (λ b. b ≢ 10) first_line
no_feed_in_first = clear_of 10 first_line refl

-- what comes first of a text is told by the text
first_told : (text line from_feed known rest : List ℕ) → BeginsWithLine text line from_feed → AllByRecursion (λ b. b ≢ 10) known → BeginsWith 10 rest →
    text ≡ known ++ rest → (line ≡ known) × (from_feed ≡ rest)
first_told text line from_feed known rest begins clear apart is =
    same_until (λ b. b ≢ 10) line known from_feed rest begins.clear clear (feed_stops from_feed begins.apart) (feed_stops rest apart) (sym begins.joined ∙ is)

-- A text that goes on behind its first line's line feed, and one that goes on behind its second line's.
abbrev GoesOn : List ℕ → List ℕ → Type 0
GoesOn text rest = text ≡ first_line ++ 10 ∷ rest

behind_first : (text rest other : List ℕ) → GoesOn text rest → GoesOn text other → rest ≡ other
behind_first text rest other h k = append_cancel_left (first_line ++ 10 ∷ []) rest other (sym h ∙ k)

-- a text whose first line is another one neither ends in its first two lines nor goes on behind them
other_head : (text line from_feed rest : List ℕ) → BeginsWithLine text line from_feed → line ≢ first_line → GoesOn text rest → ⊥
other_head text line from_feed rest begins other on = other (first_told text line from_feed first_line (10 ∷ rest) begins no_feed_in_first refl on).0

other_head_ends : (text line from_feed : List ℕ) (number : ℕ) → BeginsWithLine text line from_feed → line ≢ first_line → EndsInHead text number → ⊥
other_head_ends text line from_feed number begins other (inl h) = begins.some h.0
other_head_ends text line from_feed number begins other (inr (inl h)) =
    other (first_told text line from_feed first_line [] begins no_feed_in_first tt (h.0 ∙ sym (append-nil first_line))).0
other_head_ends text line from_feed number begins other (inr (inr (inl h))) = other_head text line from_feed [] begins other h.0
other_head_ends text line from_feed number begins other (inr (inr (inr h))) = other_head text line from_feed _ begins other h.1

-- nor does one whose second line is of no verdict
other_verdict_ends : (text rest line from_feed : List ℕ) (number : ℕ) → GoesOn text rest → BeginsWithLine rest line from_feed →
    ((verdict : Verdict) → line ≢ verdict_line verdict) → EndsInHead text number → ⊥
other_verdict_ends text rest line from_feed number on begins other (inl h) = never_empty first_line rest (sym on ∙ h.0)
other_verdict_ends text rest line from_feed number on begins other (inr (inl h)) =
    never_empty [] rest (append_cancel_left first_line (10 ∷ rest) [] (sym on ∙ h.0 ∙ sym (append-nil first_line)))
other_verdict_ends text rest line from_feed number on begins other (inr (inr (inl h))) = begins.some (behind_first text rest [] on h.0)
other_verdict_ends text rest line from_feed number on begins other (inr (inr (inr h))) =
    other h.0 (first_told rest line from_feed (verdict_line h.0) [] begins (no_feed_in_verdict h.0) tt
    (behind_first text rest (verdict_line h.0) on h.1 ∙ sym (append-nil (verdict_line h.0)))).0

other_verdict : (text rest line from_feed behind : List ℕ) (verdict : Verdict) → GoesOn text rest → BeginsWithLine rest line from_feed →
    ((verdict : Verdict) → line ≢ verdict_line verdict) → text ≡ head_bytes verdict ++ behind → ⊥
other_verdict text rest line from_feed behind verdict on begins other is =
    other verdict (first_told rest line from_feed (verdict_line verdict) (10 ∷ behind) begins (no_feed_in_verdict verdict) refl
    (behind_first text rest (verdict_line verdict ++ 10 ∷ behind) on (is ∙ head_apart verdict behind))).0

-- a text that goes on behind its first two lines doesn't end in them
ends_no_head : (text behind : List ℕ) (verdict : Verdict) (number : ℕ) → text ≡ head_bytes verdict ++ behind → EndsInHead text number → ⊥
ends_no_head text behind verdict number is (inl h) = never_empty first_line _ (sym (head_apart verdict behind) ∙ sym is ∙ h.0)
ends_no_head text behind verdict number is (inr (inl h)) =
    never_empty [] _ (append_cancel_left first_line (10 ∷ (verdict_line verdict ++ 10 ∷ behind)) []
    (sym (head_apart verdict behind) ∙ sym is ∙ h.0 ∙ sym (append-nil first_line)))
ends_no_head text behind verdict number is (inr (inr (inl h))) =
    never_empty (verdict_line verdict) behind (behind_first text _ [] (is ∙ head_apart verdict behind) h.0)
ends_no_head text behind verdict number is (inr (inr (inr h))) =
    let both : verdict_line verdict ++ 10 ∷ behind ≡ verdict_line h.0 ++ [] =
    behind_first text _ _ (is ∙ head_apart verdict behind) h.1 ∙ sym (append-nil (verdict_line h.0)) in
    let parts : (verdict_line verdict ≡ verdict_line h.0) × (10 ∷ behind ≡ []) =
    same_until (λ b. b ≢ 10) (verdict_line verdict) (verdict_line h.0) (10 ∷ behind) [] (no_feed_in_verdict verdict) (no_feed_in_verdict h.0)
    (λ other. other refl) tt both in
    never_empty [] behind parts.1

-- the lines of a certificate, by what is seen before
cert_all_pass : (c : Certificate) (text : List ℕ) → IsCertText text c → AllPass c.verdict [] (cert_lines c)
cert_all_pass c text h = all_pass c.verdict [] (cert_lines c) (cert_passes c h.shaped h.writable)

-- what fails behind the first two lines, in one
in_one : (text : List ℕ) (n : ℕ) (k : CertKind) (h : FailsBehindHead text n k) → text ≡ head_bytes h.verdict ++ (laid_out h.before ++ h.rest)
in_one text n k h = h.joined ∙ append_assoc (head_bytes h.verdict) (laid_out h.before) h.rest

-- the last line of a certificate
last_joined : (word : Option Word) (ls : List CertLine) (ms : List CertLine) → ((w : Option Word) → last_word w ms ≡ Some Word.End) →
    last_word word (ls ++ ms) ≡ Some Word.End
last_joined word [] ms h = h word
last_joined word (l ∷ ls) ms h = last_joined (Some l.word) ls ms h

bound_end : (word : Option Word) (cuts : List Cut) (nodes : List TreeNode) → last_word word (bound_lines cuts nodes) ≡ Some Word.End
bound_end word cuts nodes = last_joined (Some Word.Cuts) (map cut_line cuts ++ map node_line nodes) (line_with Word.End [] ∷ []) (λ w. refl)

ends_by : (v : Verdict) (p : Option Parts) (x : ℤ) (r : List ℤ) (cuts : List Cut) (nodes : List TreeNode) → HasPartsOf v p →
    last_word None (lines_by v p x r cuts nodes) ≡ Some Word.End
ends_by Optimal None x r cuts nodes h = absurd h
ends_by Optimal (Some p) x r cuts nodes h =
    last_joined (Some Word.Eta) (block_lines 1 p.blocks) (line_with Word.Value (x ∷ []) ∷ bound_lines cuts nodes) (λ w. bound_end (Some Word.Value) cuts nodes)
ends_by Infeasible (Some p) x r cuts nodes h = absurd h
ends_by Infeasible None x r cuts nodes h = bound_end None cuts nodes
ends_by Unbounded None x r cuts nodes h = absurd h
ends_by Unbounded (Some p) x r cuts nodes h =
    last_joined (Some Word.Master) (block_lines 1 p.blocks) (line_with Word.Ray r ∷ line_with Word.End [] ∷ []) (λ w. refl)

cert_ends : (c : Certificate) → IsShaped c → (standing_of (cert_lines c)).last ≡ Some Word.End
cert_ends c h = ends_by c.verdict c.parts c.value c.ray c.cuts c.tree h.parts

-- a certificate's text has no fault
pub no_fault : (text : List ℕ) (c : Certificate) (number : ℕ) (kind : CertKind) → IsCertText text c → IsCertFault text number kind → ⊥
no_fault text c number kind h (IsCertFault.head line from_feed begins other n k) =
    other_head text line from_feed _ begins other (h.text_is ∙ head_apart c.verdict (laid_out (cert_lines c)))
no_fault text c number kind h (IsCertFault.verdict rest line from_feed on begins other n k) =
    other_verdict text rest line from_feed (laid_out (cert_lines c)) c.verdict on begins other h.text_is
no_fault text c number kind h (IsCertFault.ends ends k) = ends_no_head text (laid_out (cert_lines c)) c.verdict number h.text_is ends
no_fault text c number kind h (IsCertFault.behind_head f) =
    let parts : (c.verdict ≡ f.verdict) × (laid_out (cert_lines c) ≡ laid_out f.before ++ f.rest) =
    same_head_bytes c.verdict f.verdict _ _ (sym h.text_is ∙ in_one text number kind f) in
    none_behind c.verdict [] (cert_lines c) f.before f.rest number kind (cert_all_pass c text h)
    (subst (λ (v : Verdict). AllPass v [] f.before) (sym parts.0) f.pass)
    (cert_ends c h.shaped)
    (subst (λ (v : Verdict). FailsAtOnce v (standing_of f.before) (2 + length f.before) f.rest number kind) (sym parts.0) f.fails) parts.1

some_verdict : (v : Verdict) → verdict_line v ≡ [] → ⊥
some_verdict Optimal e = absurd (cc)
some_verdict Infeasible e = absurd (cc)
some_verdict Unbounded e = absurd (cc)

-- two numbers of lines where a text ends in its first two lines
ends_once : (text : List ℕ) (n m : ℕ) → EndsInHead text n → EndsInHead text m → n ≡ m
ends_once text n m (inl h) (inl k) = h.1 ∙ sym k.1
ends_once text n m (inl h) (inr (inl k)) = let e : [] ≡ first_line = sym h.0 ∙ k.0 in absurd (cc)
ends_once text n m (inl h) (inr (inr (inl k))) = absurd (never_empty first_line [] (sym k.0 ∙ h.0))
ends_once text n m (inl h) (inr (inr (inr k))) = absurd (never_empty first_line _ (sym k.1 ∙ h.0))
ends_once text n m (inr (inl h)) (inl k) = let e : [] ≡ first_line = sym k.0 ∙ h.0 in absurd (cc)
ends_once text n m (inr (inl h)) (inr (inl k)) = h.1 ∙ sym k.1
ends_once text n m (inr (inl h)) (inr (inr (inl k))) = h.1 ∙ sym k.1
ends_once text n m (inr (inl h)) (inr (inr (inr k))) =
    absurd (never_empty [] _ (append_cancel_left first_line (10 ∷ verdict_line k.0) [] (sym k.1 ∙ h.0 ∙ sym (append-nil first_line))))
ends_once text n m (inr (inr (inl h))) (inl k) = absurd (never_empty first_line [] (sym h.0 ∙ k.0))
ends_once text n m (inr (inr (inl h))) (inr (inl k)) = h.1 ∙ sym k.1
ends_once text n m (inr (inr (inl h))) (inr (inr (inl k))) = h.1 ∙ sym k.1
ends_once text n m (inr (inr (inl h))) (inr (inr (inr k))) = absurd (some_verdict k.0 (behind_first text (verdict_line k.0) [] k.1 h.0))
ends_once text n m (inr (inr (inr h))) (inl k) = absurd (never_empty first_line _ (sym h.1 ∙ k.0))
ends_once text n m (inr (inr (inr h))) (inr (inl k)) =
    absurd (never_empty [] _ (append_cancel_left first_line (10 ∷ verdict_line h.0) [] (sym h.1 ∙ k.0 ∙ sym (append-nil first_line))))
ends_once text n m (inr (inr (inr h))) (inr (inr (inl k))) = absurd (some_verdict h.0 (behind_first text (verdict_line h.0) [] h.1 k.0))
ends_once text n m (inr (inr (inr h))) (inr (inr (inr k))) = h.2 ∙ sym k.2

-- a text has at most one fault
pub one_fault : (text : List ℕ) (n m : ℕ) (j k : CertKind) → IsCertFault text n j → IsCertFault text m k → (n ≡ m) × (j ≡ k)
one_fault text n m j k (IsCertFault.head l f begins other a b) (IsCertFault.head _ _ _ _ x y) = (a ∙ sym x, b ∙ sym y)
one_fault text n m j k (IsCertFault.head l f begins other a b) (IsCertFault.verdict rest _ _ on _ _ x y) = absurd (other_head text l f rest begins other on)
one_fault text n m j k (IsCertFault.head l f begins other a b) (IsCertFault.ends ends y) = absurd (other_head_ends text l f m begins other ends)
one_fault text n m j k (IsCertFault.head l f begins other a b) (IsCertFault.behind_head h) =
    absurd (other_head text l f _ begins other (in_one text m k h ∙ head_apart h.verdict (laid_out h.before ++ h.rest)))
one_fault text n m j k (IsCertFault.verdict rest _ _ on _ _ a b) (IsCertFault.head l f begins other x y) = absurd (other_head text l f rest begins other on)
one_fault text n m j k (IsCertFault.verdict _ _ _ _ _ _ a b) (IsCertFault.verdict _ _ _ _ _ _ x y) = (a ∙ sym x, b ∙ sym y)
one_fault text n m j k (IsCertFault.verdict rest l f on begins other a b) (IsCertFault.ends ends y) = absurd (other_verdict_ends text rest l f m on begins other ends)
one_fault text n m j k (IsCertFault.verdict rest l f on begins other a b) (IsCertFault.behind_head h) =
    absurd (other_verdict text rest l f (laid_out h.before ++ h.rest) h.verdict on begins other (in_one text m k h))
one_fault text n m j k (IsCertFault.ends ends b) (IsCertFault.head l f begins other x y) = absurd (other_head_ends text l f n begins other ends)
one_fault text n m j k (IsCertFault.ends ends b) (IsCertFault.verdict rest l f on begins other x y) = absurd (other_verdict_ends text rest l f n on begins other ends)
one_fault text n m j k (IsCertFault.ends ends b) (IsCertFault.ends other y) = (ends_once text n m ends other, b ∙ sym y)
one_fault text n m j k (IsCertFault.ends ends b) (IsCertFault.behind_head h) = absurd (ends_no_head text (laid_out h.before ++ h.rest) h.verdict n (in_one text m k h) ends)
one_fault text n m j k (IsCertFault.behind_head h) (IsCertFault.head l f begins other x y) =
    absurd (other_head text l f _ begins other (in_one text n j h ∙ head_apart h.verdict (laid_out h.before ++ h.rest)))
one_fault text n m j k (IsCertFault.behind_head h) (IsCertFault.verdict rest l f on begins other x y) =
    absurd (other_verdict text rest l f (laid_out h.before ++ h.rest) h.verdict on begins other (in_one text n j h))
one_fault text n m j k (IsCertFault.behind_head h) (IsCertFault.ends ends y) = absurd (ends_no_head text (laid_out h.before ++ h.rest) h.verdict m (in_one text n j h) ends)
one_fault text n m j k (IsCertFault.behind_head h) (IsCertFault.behind_head i) =
    let parts : (h.verdict ≡ i.verdict) × (laid_out h.before ++ h.rest ≡ laid_out i.before ++ i.rest) =
    same_head_bytes h.verdict i.verdict _ _ (sym (in_one text n j h) ∙ in_one text m k i) in
    fails_as h.verdict [] h.before i.before h.rest i.rest n m j k h.pass (subst (λ (v : Verdict). AllPass v [] i.before) (sym parts.0) i.pass) h.fails
    (subst (λ (v : Verdict). FailsAtOnce v (standing_of i.before) (2 + length i.before) i.rest m k) (sym parts.0) i.fails) parts.1
