-- The facts of some lines and of one more.
use Rattle.std.proofs.Common.{ℕ, ◌≡◌, refl, ap, ◌∙◌, Bool, true, false, ◌||◌, List, [], ◌∷◌, ◌++◌, Option, Some, None, cond, fold, append-nil}
use Rattle.std.specs.List.{cons_option, last_or, list_any}
use Rattle.std.proofs.lemmas.Grind.{fold-append}
use Rattle.std.proofs.lemmas.List.Elements.{filter_map-append}
use Rattle.bz_lines.specs.NameLists.{with_name}
use Rattle.bz_lines.specs.NumberedLines.{NumberedLine}
use Rattle.bz_lines.proofs.BeforeLemmas.{gathered_more}
use Rattle.bz_facts.specs.declared.records.Heading.{Heading}
use Rattle.bz_facts.specs.Headings.{Lines, gathered_in, heading_on, headings, is_end, on_line_in, section, up_to_end}
use Rattle.bz_facts.specs.LineFacts.{columns, columns_named, sense_on, sense_words}

-- the last of some items and one more
last_or_more : {A : Type 0} (o : Option A) (xs : List A) (x : A) → last_or o (xs ++ x ∷ []) ≡ Some x
last_or_more o [] x = refl
last_or_more o (y ∷ ys) x = last_or_more (Some y) ys x

pub headings_more : (ls : Lines) (l : NumberedLine) → headings (ls ++ l ∷ []) ≡ headings ls ++ cons_option (heading_on l) []
headings_more ls l = filter_map-append heading_on ls (l ∷ [])

-- a header begins its section
pub section-header : (ls : Lines) (l : NumberedLine) (h : Heading) → heading_on l ≡ Some h → section (ls ++ l ∷ []) ≡ Some h
section-header ls l h e =
    ap (last_or None) (headings_more ls l)
    ∙ ap (λ o. last_or None (headings ls ++ cons_option o [])) e
    ∙ last_or_more None (headings ls) h

-- every other line leaves the section as it is
pub section-data : (ls : Lines) (l : NumberedLine) → heading_on l ≡ None → section (ls ++ l ∷ []) ≡ section ls
section-data ls l e =
    ap (last_or None) (headings_more ls l)
    ∙ ap (λ o. last_or None (headings ls ++ cons_option o [])) e
    ∙ ap (last_or None) (append-nil (headings ls))

-- what is gathered of some lines and one more
pub gathered_in_more : {F : Type 0} (h : Heading) (f : Lines → NumberedLine → List F) (ls : Lines) (l : NumberedLine) → gathered_in h f (ls ++ l ∷ []) ≡ gathered_in h f ls ++ on_line_in h f ls l
gathered_in_more h f ls l = gathered_more (on_line_in h f) [] ls l

pub sense_words_more : (ls : Lines) (l : NumberedLine) → sense_words (ls ++ l ∷ []) ≡ sense_words ls ++ sense_on ls l
sense_words_more ls l = gathered_more sense_on [] ls l

-- the columns of some lines, and of one more that names these columns
pub columns_more : (ls : Lines) (l : NumberedLine) (more : List (List ℕ)) → columns_named (ls ++ l ∷ []) ≡ columns_named ls ++ more → columns (ls ++ l ∷ []) ≡ fold with_name (columns ls) more
columns_more ls l more e = ap (fold with_name []) e ∙ fold-append with_name [] (columns_named ls) more

-- Lines before ENDATA, then more lines.

up_to_end_next : (b : Bool) (l : NumberedLine) (before ls : Lines) → (b || list_any is_end before) ≡ false → (list_any is_end before ≡ false → up_to_end (before ++ ls) ≡ before ++ up_to_end ls) → (l ∷ cond b [] (up_to_end (before ++ ls))) ≡ l ∷ before ++ up_to_end ls
up_to_end_next true l before ls e rest = absurd cc
up_to_end_next false l before ls e rest = ap (λ x. l ∷ x) (rest e)

pub up_to_end-behind : (before ls : Lines) → list_any is_end before ≡ false → up_to_end (before ++ ls) ≡ before ++ up_to_end ls
up_to_end-behind [] ls e = refl
up_to_end-behind (l ∷ before) ls e = up_to_end_next (is_end l) l before ls e (up_to_end-behind before ls)

-- the line of ENDATA is the last one read
pub up_to_end-end : (l : NumberedLine) (ls : Lines) → is_end l ≡ true → up_to_end (l ∷ ls) ≡ l ∷ []
up_to_end-end l ls e = ap (λ b. l ∷ cond b [] (up_to_end ls)) e

pub up_to_end-more : (l : NumberedLine) (ls : Lines) → is_end l ≡ false → up_to_end (l ∷ ls) ≡ l ∷ up_to_end ls
up_to_end-more l ls e = ap (λ b. l ∷ cond b [] (up_to_end ls)) e
