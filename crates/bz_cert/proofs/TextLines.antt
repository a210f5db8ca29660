-- The bytes of lines tell the lines.
use Rattle.std.proofs.Common.{◌≡◌, ◌≢◌, ◌∷◌, ◌++◌, ◌∙◌, [], ℕ, List, ap, sym, refl, append-nil, append_assoc}
use Rattle.std.specs.List.{AllByRecursion}
use Rattle.bz_algebra.specs.Numbers.{IsNarrow}
use Rattle.bz_cert.specs.CertText.{CertLine, laid_out, line_bytes, line_with, spelled, word_bytes}
use Rattle.bz_model.proofs.MeetingParts.{all_append}
use Rattle.bz_cert.proofs.ListLemmas.{same_tail, same_until}
use Rattle.bz_cert.proofs.NumberTexts.{same_numbers, spelled_clear}
use Rattle.bz_cert.proofs.WordTexts.{no_feed, same_words, spelled_apart}

-- no number of the line is wide
abbrev pub IsNarrowLine : CertLine → Type 0
IsNarrowLine line = AllByRecursion IsNarrow line.numbers

-- the bytes of a line tell its word and its numbers
pub same_line : (l m : CertLine) → IsNarrowLine l → IsNarrowLine m → line_bytes l ≡ line_bytes m → l ≡ m
same_line l m h k e =
    let words : (l.word ≡ m.word) × (spelled l.numbers ≡ spelled m.numbers) =
    same_words l.word m.word (spelled l.numbers) (spelled m.numbers) (spelled_apart l.numbers) (spelled_apart m.numbers) e in
    let numbers : l.numbers ≡ m.numbers = (same_numbers l.numbers m.numbers [] [] h k tt tt (append-nil _ ∙ words.1 ∙ sym (append-nil _))).0 in
    ap (λ w. line_with w l.numbers) words.0 ∙ ap (λ ns. line_with m.word ns) numbers

-- a line has no line feed
pub line_clear : (l : CertLine) → IsNarrowLine l → AllByRecursion (λ b. b ≢ 10) (line_bytes l)
line_clear l h = all_append (λ b. b ≢ 10) (word_bytes l.word) (spelled l.numbers) (no_feed l.word) (spelled_clear l.numbers h)

-- lines, the first of them apart
pub first_apart : (l : CertLine) (ls : List CertLine) (rest : List ℕ) → laid_out (l ∷ ls) ++ rest ≡ line_bytes l ++ 10 ∷ (laid_out ls ++ rest)
first_apart l ls rest = append_assoc (line_bytes l ++ 10 ∷ []) (laid_out ls) rest ∙ append_assoc (line_bytes l) (10 ∷ []) (laid_out ls ++ rest)

-- a line in front of its line feed
pub line_in_front : (l m : CertLine) (r s : List ℕ) → IsNarrowLine l → IsNarrowLine m → line_bytes l ++ 10 ∷ r ≡ line_bytes m ++ 10 ∷ s → (l ≡ m) × (r ≡ s)
line_in_front l m r s h k e =
    let parts : (line_bytes l ≡ line_bytes m) × (10 ∷ r ≡ 10 ∷ s) =
    same_until (λ b. b ≢ 10) (line_bytes l) (line_bytes m) (10 ∷ r) (10 ∷ s) (line_clear l h) (line_clear m k) (λ other. other refl) (λ other. other refl) e in
    (same_line l m h k parts.0, same_tail 10 10 r s parts.1)

-- a line with its line feed is not empty
pub never_empty : (xs rest : List ℕ) → xs ++ 10 ∷ rest ≡ [] → ⊥
never_empty [] rest e = absurd (cc)
never_empty (x ∷ xs) rest e = absurd (cc)

-- the bytes of lines tell the lines
pub same_laid_out : (ls ms : List CertLine) → AllByRecursion IsNarrowLine ls → AllByRecursion IsNarrowLine ms → laid_out ls ≡ laid_out ms → ls ≡ ms
same_laid_out [] [] h k e = refl
same_laid_out [] (m ∷ ms) h k e = absurd (never_empty (line_bytes m) (laid_out ms) (sym (append_assoc (line_bytes m) (10 ∷ []) (laid_out ms)) ∙ sym e))
same_laid_out (l ∷ ls) [] h k e = absurd (never_empty (line_bytes l) (laid_out ls) (sym (append_assoc (line_bytes l) (10 ∷ []) (laid_out ls)) ∙ e))
same_laid_out (l ∷ ls) (m ∷ ms) h k e =
    let all : line_bytes l ++ 10 ∷ laid_out ls ≡ line_bytes m ++ 10 ∷ laid_out ms =
    sym (append_assoc (line_bytes l) (10 ∷ []) (laid_out ls)) ∙ e ∙ append_assoc (line_bytes m) (10 ∷ []) (laid_out ms) in
    let first : (l ≡ m) × (laid_out ls ≡ laid_out ms) = line_in_front l m (laid_out ls) (laid_out ms) h.0 k.0 all in
    ap (λ x. x ∷ ls) first.0 ∙ ap (λ xs. m ∷ xs) (same_laid_out ls ms h.1 k.1 first.1)
