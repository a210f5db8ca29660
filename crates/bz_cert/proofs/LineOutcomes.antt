-- What is left of a text begins with a line that passes, or it fails at once.
use Rattle.std.proofs.Common.{◌≡◌, ◌≢◌, ◌∷◌, ◌++◌, ◌∙◌, [], ℕ, suc, ◌+◌, ◌-◌, ◌≤◌, ◌⊎◌, inl, inr, ℤ, pos, negsuc, List, Option, Some, None, length, length-append, drop, append_assoc, ap, sym, refl, subst, arith, nat_lt}
use Rattle.std.specs.Fmt.{signed_decimal}
use Rattle.std.specs.List.{AllByRecursion}
use Rattle.std.specs.Str.Parse.{digits_value}
use Rattle.std.proofs.lemmas.Bool.{cases_eq}
use Rattle.bz_algebra.specs.Numbers.{IsNarrow}
use Rattle.bz_cert.specs.declared.faults.CertKind.{CertKind}
use Rattle.bz_cert.specs.declared.records.Verdict.{Verdict}
use Rattle.bz_cert.specs.declared.words.Word.{Word}
use Rattle.bz_cert.specs.CertText.{CertLine, laid_out, line_bytes, line_with, word_bytes}
use Rattle.bz_cert.specs.CertFaults.{AreEnough, AreInOrder, BeginsWith, BeginsWithLine, BreaksFirst, BreaksTree, FailsAtOnce, IsIn, IsIndex, IsTooMany, Passes, Standing, indexes_of, tests_behind, words_behind}
use Rattle.bz_cert.specs.CertReading.{AreNumbers, AreNumbersOf, Awaits, BeginsWithCertLine, BeginsWithWord, FailsFrom, IsSpelled, PassFrom, advance, advance_all}
use Rattle.bz_first.proofs.Deciding.{Told, all_told}
use Rattle.bz_cut.proofs.CutDecided.{narrow_told}
use Rattle.bz_cert.proofs.Decisions.{bytes_told, enough_told, index_told, many_told, order_told, tree_told}
use Rattle.bz_cert.proofs.Failing.{breaks_tree, field_is_word, lacks_feed, line_of_numbers, no_numbers, no_word, numbers_fail, passes}
use Rattle.bz_cert.proofs.ListLemmas.{same_head}
use Rattle.bz_cert.proofs.NumberTexts.{minus_value, none_before, none_here, plain_value, same_spelling}
use Rattle.bz_cert.proofs.Phases.{fails_now}
use Rattle.bz_cert.proofs.TextLines.{first_apart}
use Rattle.bz_cert.proofs.WordTexts.{from_bytes, same_word, word_from}

-- the bytes before the first such byte, and those from there on
pub record CutAt (byte : ℕ) (bytes : List ℕ) : Type 0 where
  pub front : List ℕ
  pub behind : List ℕ
  pub joined : bytes ≡ front ++ behind
  pub clear : AllByRecursion (λ b. b ≢ byte) front
  pub apart : BeginsWith byte behind

pub cut_at : (byte : ℕ) (bytes : List ℕ) → CutAt byte bytes
cut_at byte [] = record { front = []; behind = []; joined = refl; clear = tt; apart = tt }
cut_at byte (b ∷ bs) = by (cases_eq b byte) (cut_at byte bs)
  where
    by : Told (b ≡ byte) → CutAt byte bs → CutAt byte (b ∷ bs)
    by (inl same) later = record { front = []; behind = b ∷ bs; joined = refl; clear = tt; apart = same }
    by (inr other) later =
        record { front = b ∷ later.front; behind = later.behind; joined = ap (λ t. b ∷ t) later.joined; clear = (other, later.clear); apart = later.apart }

pub begins_with_front : (bytes : List ℕ) → bytes ≢ [] → (c : CutAt 10 bytes) → BeginsWithLine bytes c.front c.behind
begins_with_front bytes some c = record { some = some; joined = c.joined; clear = c.clear; apart = c.apart }

spelled_told : (field : List ℕ) (z : ℤ) → Told (IsSpelled field z)
spelled_told field z = by (bytes_told field (signed_decimal z)) (narrow_told z)
  where
    by : Told (field ≡ signed_decimal z) → Told (IsNarrow z) → Told (IsSpelled field z)
    by (inl s) (inl n) = inl (record { spelling = s; narrow = n })
    by (inl s) (inr never) = inr (λ h. never h.narrow)
    by (inr never) n = inr (λ h. never h.spelling)

-- the field spells some number
abbrev IsNumber : List ℕ → Type 0
IsNumber field = (z : ℤ) × IsSpelled field z

no_other : (field : List ℕ) (z : ℤ) → (IsSpelled field (pos (digits_value 10 field)) → ⊥) → (IsSpelled field (negsuc (digits_value 10 (drop 1 field) - 1)) → ⊥) →
    IsSpelled field z → ⊥
no_other field (pos n) never none s = never (subst (λ (k : ℕ). IsSpelled field (pos k)) (sym (plain_value field n s)) s)
no_other field (negsuc n) never none s =
    let k : n ≡ digits_value 10 (drop 1 field) - 1 = omega (arith, minus_value field n s) in none (subst (λ (m : ℕ). IsSpelled field (negsuc m)) k s)

number_told : (field : List ℕ) → Told (IsNumber field)
number_told field = by (spelled_told field (pos (digits_value 10 field))) (spelled_told field (negsuc (digits_value 10 (drop 1 field) - 1)))
  where
    by : Told (IsSpelled field (pos (digits_value 10 field))) → Told (IsSpelled field (negsuc (digits_value 10 (drop 1 field) - 1))) → Told (IsNumber field)
    by (inl s) m = inl (pos (digits_value 10 field), s)
    by (inr never) (inl s) = inl (negsuc (digits_value 10 (drop 1 field) - 1), s)
    by (inr never) (inr none) = inr (λ h. no_other field h.0 never none h.1)

-- the bytes spell some numbers
abbrev SpellNumbers : List ℕ → Type 0
SpellNumbers bytes = (ns : List ℤ) × AreNumbers bytes ns

another_first : (b : ℕ) (bs : List ℕ) → (b ≡ 32 → ⊥) → (ns : List ℤ) → AreNumbers (b ∷ bs) ns → ⊥
another_first b bs other [] are = absurd (omega (arith, ap length are.spelling))
another_first b bs other (n ∷ ns) are = other (same_head _ _ _ _ are.spelling)

numbers_here : (b : ℕ) (bs : List ℕ) (c : CutAt 32 bs) → Told (b ≡ 32) → Told (IsNumber c.front) → Told (SpellNumbers c.behind) → Told (SpellNumbers (b ∷ bs))
numbers_here b bs c (inr other) f a = inr (λ h. another_first b bs other h.0 h.1)
numbers_here b bs c (inl blank) (inr none) a =
    inr (λ h. none_here (b ∷ bs) bs c.front c.behind (ap (λ x. x ∷ bs) blank) c.joined c.clear c.apart (λ z s. none (z, s)) h.0 h.1)
numbers_here b bs c (inl blank) (inl f) (inr none) =
    inr (λ h. none_before (b ∷ bs) bs c.front c.behind (ap (λ x. x ∷ bs) blank) c.joined c.clear c.apart (λ ns k. none (ns, k)) h.0 h.1)
numbers_here b bs c (inl blank) (inl f) (inl a) =
    inl (
      f.0 ∷ a.0,
      record {
        spelling = ap (λ x. x ∷ bs) blank
            ∙ ap (λ t. 32 ∷ t) (c.joined ∙ ap (λ t. t ++ c.behind) f.1.spelling ∙ ap (λ t. signed_decimal f.0 ++ t) a.1.spelling);
        narrow = (f.1.narrow, a.1.narrow);
      },
    )

behind_shorter : (bs : List ℕ) (c : CutAt 32 bs) (fuel : ℕ) → length bs ≤ fuel → length c.behind ≤ fuel
behind_shorter bs c fuel l = omega (arith, l, ap length c.joined, length-append c.front c.behind)

numbers_told : (fuel : ℕ) (bytes : List ℕ) → length bytes ≤ fuel → Told (SpellNumbers bytes)
numbers_told fuel [] l = inl ([], record { spelling = refl; narrow = tt })
numbers_told Prim.Native.Nat.zero (b ∷ bs) l = absurd (omega (arith, l))
numbers_told (suc fuel) (b ∷ bs) l =
    numbers_here b bs (cut_at 32 bs) (cases_eq b 32) (number_told (cut_at 32 bs).front)
    (numbers_told fuel (cut_at 32 bs).behind (behind_shorter bs (cut_at 32 bs) fuel (omega (arith, l))))

abbrev SpellNumbersOf : Word → List ℕ → Type 0
SpellNumbersOf word bytes = (ns : List ℤ) × AreNumbersOf word bytes ns

numbers_of_told : (word : Word) (bytes : List ℕ) → Told (SpellNumbersOf word bytes)
numbers_of_told word bytes = by (numbers_told (length bytes) bytes (omega arith))
  where
    indexed : (ns : List ℤ) → AreNumbers bytes ns → Told (AllByRecursion IsIndex (indexes_of word ns)) → Told (SpellNumbersOf word bytes)
    indexed ns are (inl i) = inl (ns, record { numbers_are = are; indexes = i })
    indexed ns are (inr never) =
        inr (λ h. never (subst (λ (ms : List ℤ). AllByRecursion IsIndex (indexes_of word ms)) (same_spelling bytes h.0 ns h.1.numbers_are are) h.1.indexes))

    by : Told (SpellNumbers bytes) → Told (SpellNumbersOf word bytes)
    by (inl (ns, are)) = indexed ns are (all_told IsIndex (indexes_of word ns) index_told)
    by (inr none) = inr (λ h. none (h.0, h.1.numbers_are))

-- the field is some word
abbrev IsWord : List ℕ → Type 0
IsWord field = (word : Word) × (field ≡ word_bytes word)

word_told : (field : List ℕ) → Told (IsWord field)
word_told field = by (bytes_told field (word_bytes (word_from field)))
  where
    by : Told (field ≡ word_bytes (word_from field)) → Told (IsWord field)
    by (inl e) = inl (word_from field, e)
    by (inr n) = inr (λ h. n (h.1 ∙ ap word_bytes (sym (from_bytes h.0) ∙ ap word_from (sym h.1))))

same_word_told : (v w : Word) → Told (v ≡ w)
same_word_told v w = by (bytes_told (word_bytes v) (word_bytes w))
  where
    by : Told (word_bytes v ≡ word_bytes w) → Told (v ≡ w)
    by (inl e) = inl (sym (from_bytes v) ∙ ap word_from e ∙ from_bytes w)
    by (inr n) = inr (λ e. n (ap word_bytes e))

in_told : (words : List Word) (word : Word) → Told (IsIn words word)
in_told [] word = inr (λ h. h)
in_told (w ∷ ws) word = by (same_word_told word w) (in_told ws word)
  where
    other : (word ≡ w → ⊥) → (IsIn ws word → ⊥) → IsIn (w ∷ ws) word → ⊥
    other n m (inl e) = n e
    other n m (inr i) = m i

    by : Told (word ≡ w) → Told (IsIn ws word) → Told (IsIn (w ∷ ws) word)
    by (inl e) i = inl (inl e)
    by (inr n) (inl i) = inl (inr i)
    by (inr n) (inr m) = inr (other n m)

-- the words that a line may have here
abbrev words_here : Verdict → Standing → List Word
words_here verdict before = words_behind verdict (nat_lt before.cuts before.told) before.last

awaits_here : (verdict : Verdict) (before : Standing) → before.last ≢ Some Word.End → Awaits verdict before (words_here verdict before)
awaits_here verdict before more = record { words_are = refl; more = more }

-- the rest begins with a line that passes, and its line feed
abbrev pub PassesOn : Verdict → Standing → List ℕ → Type 0
PassesOn verdict before rest = (line : CertLine) × (behind : List ℕ) × (rest ≡ line_bytes line ++ 10 ∷ behind) × Passes verdict before line

-- it does, or it fails at once
abbrev pub LineTold : Verdict → Standing → ℕ → List ℕ → Type 0
LineTold verdict before lines rest = PassesOn verdict before rest ⊎ ((number : ℕ) × (kind : CertKind) × FailsAtOnce verdict before lines rest number kind)

at_feed : (verdict : Verdict) (before : Standing) (lines : ℕ) (rest : List ℕ) (line : CertLine) (from_feed : List ℕ) → BeginsWithCertLine rest line from_feed →
    Passes verdict before line → LineTold verdict before lines rest
at_feed verdict before lines rest line [] begins passing =
    inr (lines + 1, CertKind.End, lacks_feed verdict before lines rest line [] begins passing refl)
at_feed verdict before lines rest line (b ∷ bs) begins passing =
    inl (line, bs, begins.begins.joined ∙ ap (λ x. line_bytes line ++ x ∷ bs) begins.begins.apart, passing)

at_tests : (verdict : Verdict) (before : Standing) (lines : ℕ) (rest : List ℕ) (word : Word) (numbers : List ℤ) (from_feed : List ℕ) → before.last ≢ Some Word.End →
    IsIn (words_here verdict before) word → BeginsWithCertLine rest (line_with word numbers) from_feed → (BreaksTree verdict before word → ⊥) →
    Told (IsTooMany before word numbers) → Told (AreEnough word numbers) → Told (AreInOrder before word numbers) → LineTold verdict before lines rest
at_tests verdict before lines rest word numbers from_feed more is_in begins fine (inl many) e o =
    inr (
      lines + 1,
      CertKind.Limit,
      numbers_fail verdict before _ lines rest word numbers from_feed (lines + 1) CertKind.Limit (awaits_here verdict before more)
          is_in begins fine (refl, inl (refl, many)),
    )
at_tests verdict before lines rest word numbers from_feed more is_in begins fine (inr few) (inr short) o =
    inr (
      lines + 1,
      CertKind.Line,
      numbers_fail verdict before _ lines rest word numbers from_feed (lines + 1) CertKind.Line (awaits_here verdict before more)
          is_in begins fine (refl, inr (inl (refl, few, short))),
    )
at_tests verdict before lines rest word numbers from_feed more is_in begins fine (inr few) (inl enough) (inr apart) =
    inr (
      lines + 1,
      CertKind.Order,
      numbers_fail verdict before _ lines rest word numbers from_feed (lines + 1) CertKind.Order (awaits_here verdict before more)
          is_in begins fine (refl, inr (inr (refl, few, enough, apart))),
    )
at_tests verdict before lines rest word numbers from_feed more is_in begins fine (inr few) (inl enough) (inl order) =
    at_feed verdict before lines rest (line_with word numbers) from_feed begins
    (passes verdict before _ rest word numbers from_feed (awaits_here verdict before more) is_in begins fine few enough order)

at_numbers : (verdict : Verdict) (before : Standing) (lines : ℕ) (rest : List ℕ) (word : Word) (behind from_feed : List ℕ) → before.last ≢ Some Word.End →
    IsIn (words_here verdict before) word → BeginsWithWord rest word behind from_feed → (BreaksTree verdict before word → ⊥) →
    Told (SpellNumbersOf word behind) → LineTold verdict before lines rest
at_numbers verdict before lines rest word behind from_feed more is_in begins fine (inl (ns, are)) =
    at_tests verdict before lines rest word ns from_feed more is_in (line_of_numbers rest word behind from_feed ns begins are) fine
    (many_told before word ns) (enough_told word ns) (order_told before word ns)
at_numbers verdict before lines rest word behind from_feed more is_in begins fine (inr none) =
    inr (
      lines + 1,
      CertKind.Number,
      no_numbers verdict before _ lines rest word behind from_feed (awaits_here verdict before more) is_in begins fine
          (λ ns h. none (ns, h)),
    )

at_tree : (verdict : Verdict) (before : Standing) (lines : ℕ) (rest : List ℕ) (word : Word) (behind from_feed : List ℕ) → before.last ≢ Some Word.End →
    IsIn (words_here verdict before) word → BeginsWithWord rest word behind from_feed → Told (BreaksTree verdict before word) → LineTold verdict before lines rest
at_tree verdict before lines rest word behind from_feed more is_in begins (inl broken) =
    inr (lines + 1, CertKind.Tree, breaks_tree verdict before _ lines rest word behind from_feed (awaits_here verdict before more) is_in begins broken)
at_tree verdict before lines rest word behind from_feed more is_in begins (inr fine) =
    at_numbers verdict before lines rest word behind from_feed more is_in begins fine (numbers_of_told word behind)

at_possible : (verdict : Verdict) (before : Standing) (lines : ℕ) (rest : List ℕ) (word : Word) (behind from_feed : List ℕ) → before.last ≢ Some Word.End →
    BeginsWithWord rest word behind from_feed → Told (IsIn (words_here verdict before) word) → LineTold verdict before lines rest
at_possible verdict before lines rest word behind from_feed more begins (inl is_in) =
    at_tree verdict before lines rest word behind from_feed more is_in begins (tree_told verdict before word)
at_possible verdict before lines rest word behind from_feed more begins (inr never) =
    inr (
      lines + 1,
      CertKind.Line,
      no_word verdict before _ lines rest (word_bytes word ++ behind) from_feed (awaits_here verdict before more) begins.begins
          (λ w has may. never (subst (IsIn (words_here verdict before)) (same_word _ w word has (record { behind = behind; laid_out = refl; apart = begins.apart })) may)),
    )

at_word : (verdict : Verdict) (before : Standing) (lines : ℕ) (rest line from_feed : List ℕ) → before.last ≢ Some Word.End → BeginsWithLine rest line from_feed →
    (c : CutAt 32 line) → Told (IsWord c.front) → LineTold verdict before lines rest
at_word verdict before lines rest line from_feed more begins c (inl (word, e)) =
    at_possible verdict before lines rest word c.behind from_feed more
    (record {
      begins = subst (λ (l : List ℕ). BeginsWithLine rest l from_feed) (c.joined ∙ ap (λ f. f ++ c.behind) e) begins;
      apart = c.apart;
    }) (in_told (words_here verdict before) word)
at_word verdict before lines rest line from_feed more begins c (inr none) =
    inr (
      lines + 1,
      CertKind.Line,
      no_word verdict before _ lines rest line from_feed (awaits_here verdict before more) begins
          (λ word has may. none (word, field_is_word line c.front c.behind word c.joined c.clear c.apart has)),
    )

pub line_told : (verdict : Verdict) (before : Standing) (lines : ℕ) (rest : List ℕ) → before.last ≢ Some Word.End → rest ≢ [] → LineTold verdict before lines rest
line_told verdict before lines rest more some =
    at_word verdict before lines rest (cut_at 10 rest).front (cut_at 10 rest).behind more (begins_with_front rest some (cut_at 10 rest))
    (cut_at 32 (cut_at 10 rest).front) (word_told (cut_at 32 (cut_at 10 rest).front).front)

-- the rest is lines that pass, the last of which is the text's last line
abbrev pub PassesToEnd : Verdict → Standing → List ℕ → Type 0
PassesToEnd verdict before rest =
    (ls : List CertLine) × (rest ≡ laid_out ls) × PassFrom verdict before ls × ((advance_all before ls).last ≡ Some Word.End)

abbrev pub RestTold : Verdict → Standing → ℕ → List ℕ → Type 0
RestTold verdict before lines rest = PassesToEnd verdict before rest ⊎ ((number : ℕ) × (kind : CertKind) × FailsFrom verdict before lines rest number kind)

last_told : (last : Option Word) → Told (last ≡ Some Word.End)
last_told None = inr (λ e. absurd (cc))
last_told (Some Word.End) = inl refl
last_told (Some _) = inr (λ e. absurd (cc))

behind_line : (verdict : Verdict) (before : Standing) (lines : ℕ) (rest : List ℕ) (line : CertLine) (behind : List ℕ) → rest ≡ line_bytes line ++ 10 ∷ behind →
    Passes verdict before line → RestTold verdict (advance before line) (suc lines) behind → RestTold verdict before lines rest
behind_line verdict before lines rest line behind e p (inl (ls, k, pass, last)) =
    inl (line ∷ ls, e ∙ ap (λ t. line_bytes line ++ 10 ∷ t) k ∙ sym (one_line line ls), (p, pass), last)
  where
    one_line : (l : CertLine) (ls : List CertLine) → laid_out (l ∷ ls) ≡ line_bytes l ++ 10 ∷ laid_out ls
    one_line l ls = append_assoc (line_bytes l) (10 ∷ []) (laid_out ls)
behind_line verdict before lines rest line behind e p (inr (number, kind, f)) =
    let count : suc lines + length f.passed ≡ lines + suc (length f.passed) = omega arith in
    inr (
      number,
      kind,
      record {
        passed = line ∷ f.passed;
        behind = f.behind;
        joined = e ∙ ap (λ t. line_bytes line ++ 10 ∷ t) f.joined ∙ sym (first_apart line f.passed f.behind);
        pass = (p, f.pass);
        fails = subst (λ (n : ℕ). FailsAtOnce verdict (advance_all (advance before line) f.passed) n f.behind number kind) count f.fails;
      },
    )

rest_behind : (fuel : ℕ) (verdict : Verdict) (before : Standing) (lines : ℕ) (rest : List ℕ) → length rest ≤ suc fuel → LineTold verdict before lines rest →
    ((line : CertLine) (behind : List ℕ) → length behind ≤ fuel → RestTold verdict (advance before line) (suc lines) behind) → RestTold verdict before lines rest
rest_behind fuel verdict before lines rest l (inl (line, behind, e, p)) later =
    behind_line verdict before lines rest line behind e p
    (later line behind (omega (arith, l, ap length e, length-append (line_bytes line) (10 ∷ behind))))
rest_behind fuel verdict before lines rest l (inr (number, kind, f)) later = inr (number, kind, fails_now verdict before lines rest number kind f)

goes_on_behind_end : (verdict : Verdict) (before : Standing) (lines b : ℕ) (bs : List ℕ) → before.last ≡ Some Word.End →
    FailsAtOnce verdict before lines (b ∷ bs) (suc lines) CertKind.End
goes_on_behind_end verdict before lines b bs last =
    FailsAtOnce.breaks (cut_at 10 (b ∷ bs)).front (cut_at 10 (b ∷ bs)).behind (begins_with_front (b ∷ bs) (λ e. absurd (cc)) (cut_at 10 (b ∷ bs)))
    (subst (λ (w : Option Word). BreaksFirst (tests_behind w verdict before (cut_at 10 (b ∷ bs)).front) CertKind.End) (sym last) (inl (tt, refl))) refl

at_end : (verdict : Verdict) (before : Standing) (lines : ℕ) (rest : List ℕ) → before.last ≡ Some Word.End → RestTold verdict before lines rest
at_end verdict before lines [] last = inl ([], refl, tt, last)
at_end verdict before lines (b ∷ bs) last =
    inr (suc lines, CertKind.End, fails_now verdict before lines (b ∷ bs) (suc lines) CertKind.End (goes_on_behind_end verdict before lines b bs last))

pub rest_told : (fuel : ℕ) (verdict : Verdict) (before : Standing) (lines : ℕ) (rest : List ℕ) → length rest ≤ fuel → RestTold verdict before lines rest
rest_told fuel verdict before lines [] l = by (last_told before.last)
  where
    by : Told (before.last ≡ Some Word.End) → RestTold verdict before lines []
    by (inl last) = at_end verdict before lines [] last
    by (inr more) = inr (lines, CertKind.End, fails_now verdict before lines [] lines CertKind.End (FailsAtOnce.ends refl more refl refl))
rest_told Prim.Native.Nat.zero verdict before lines (b ∷ bs) l = absurd (omega (arith, l))
rest_told (suc fuel) verdict before lines (b ∷ bs) l =
    by (last_told before.last) (λ line behind short. rest_told fuel verdict (advance before line) (suc lines) behind short)
  where
    by : Told (before.last ≡ Some Word.End) →
        ((line : CertLine) (behind : List ℕ) → length behind ≤ fuel → RestTold verdict (advance before line) (suc lines) behind) → RestTold verdict before lines (b ∷ bs)
    by (inl last) later = at_end verdict before lines (b ∷ bs) last
    by (inr more) later = rest_behind fuel verdict before lines (b ∷ bs) l (line_told verdict before lines (b ∷ bs) more (λ e. absurd (cc))) later
