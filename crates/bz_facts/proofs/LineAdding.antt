-- Tables that hold the facts of some lines hold those of one more, once the line is added.
use Rattle.std.proofs.Common.{ℕ, suc, ◌≡◌, refl, sym, ap, ◌∙◌, subst, arith, Bool, true, false, ◌&&◌, ◌||◌, not, nat_lt, List, [], ◌∷◌, ◌++◌, length, drop, fold, map, Option, Some, None, option_to_list, cond, bytes_eq, append-nil, if◌then◌else◌}
use Rattle.std.specs.List.{cons_option, last_or, list_any}
use Rattle.std.proofs.lemmas.List.Folds.{list_any-append}
use Rattle.std.proofs.lemmas.Bool.{lt-ltb}
use Rattle.bz_lines.specs.FieldLists.{Fields, field}
use Rattle.bz_lines.specs.NameLists.{is_among, place, with_name}
use Rattle.bz_lines.specs.NumberedLines.{NumberedLine}
use Rattle.bz_facts.specs.declared.records.BoundType.{BoundType}
use Rattle.bz_facts.specs.declared.records.Heading.{Heading}
use Rattle.bz_facts.specs.declared.records.Heading.TheVariants.{Name, ObjSense, Rows, Columns, Rhs, Ranges, Bounds, EndData}
use Rattle.bz_facts.specs.declared.tables.Begun.{Begun}
use Rattle.bz_facts.specs.declared.tables.BoundTable.{BoundTable}
use Rattle.bz_facts.specs.declared.tables.Columns.{Columns as ColumnTable}
use Rattle.bz_facts.specs.declared.tables.GivenTable.{GivenTable}
use Rattle.bz_facts.specs.declared.tables.Headers.{Headers}
use Rattle.bz_facts.specs.declared.tables.Rows.{Rows as RowTable}
use Rattle.bz_facts.specs.declared.tables.Sense.{Sense}
use Rattle.bz_facts.specs.Headings.{Lines, gathered_in, has, heading_on, headings, is_in, is_it, is_same, section, word}
use Rattle.bz_facts.specs.LineFacts.{begins_column, bound_on, bound_set, bound_sets, bounds, columns, columns_named, entries, entries_on, entry_of, given, given_on, integers, is_open, is_opening, is_own, markers, maximises, pairs, row_names, sense_on, sense_words, set_of, sets}
use Rattle.bz_facts.specs.LineSteps.{BoundAdded, EntriesAdded, GivenAdded, HeaderAdded, MarkerAdded, RowAdded, as_sets, with_begun, with_header, with_word}
use Rattle.bz_facts.specs.LineTests.{goes_on, is_too_long}
use Rattle.bz_facts.specs.TableNotes.{first_noted, is_noted}
use Rattle.bz_facts.specs.Words.{bound_type, heading, is_greater_word, is_marker, row_type}
use Rattle.bz_facts.proofs.FactLemmas.{columns_more, gathered_in_more, headings_more, section-data, section-header, sense_words_more}
use Rattle.bz_facts.proofs.Held.{AreBegun, HoldsBounds, HoldsColumns, HoldsGiven, HoldsHeaders, HoldsRows, HoldsSense, first_of, has_some}

-- Lines of one section and of others.

-- the line is a data line of the section
abbrev pub acts : Heading → Lines → NumberedLine → Bool
acts h seen l = not l.header && is_in h seen

-- a header is a data line of no section
pub acts-header : (h : Heading) (seen : Lines) (l : NumberedLine) → l.header ≡ true → acts h seen l ≡ false
acts-header h seen l e = ap (λ b. not b && is_in h seen) e

-- a data line is one of the section in which it stands
pub acts-data : (h : Heading) (seen : Lines) (l : NumberedLine) (o : Option Heading) → l.header ≡ false → section seen ≡ o → acts h seen l ≡ is_it h o
acts-data h seen l o e s = ap (λ b. not b && is_in h seen) e ∙ ap (is_it h) s

pub heading-header : (l : NumberedLine) → l.header ≡ true → heading_on l ≡ heading (word l)
heading-header l e = ap (λ b. cond b (heading (word l)) None) e

pub heading-data : (l : NumberedLine) → l.header ≡ false → heading_on l ≡ None
heading-data l e = ap (λ b. cond b (heading (word l)) None) e

-- what another line leaves, and what a line of the section adds
stays : {F : Type 0} (h : Heading) (f : Lines → NumberedLine → List F) (seen : Lines) (l : NumberedLine) → acts h seen l ≡ false → gathered_in h f (seen ++ l ∷ []) ≡ gathered_in h f seen
stays h f seen l e =
    gathered_in_more h f seen l
    ∙ ap (λ b. gathered_in h f seen ++ cond b (f seen l) []) e
    ∙ append-nil (gathered_in h f seen)

grows : {F : Type 0} (h : Heading) (f : Lines → NumberedLine → List F) (seen : Lines) (l : NumberedLine) → acts h seen l ≡ true → gathered_in h f (seen ++ l ∷ []) ≡ gathered_in h f seen ++ f seen l
grows h f seen l e = gathered_in_more h f seen l ∙ ap (λ b. gathered_in h f seen ++ cond b (f seen l) []) e

pub last-more : {A : Type 0} (o : Option A) (xs : List A) (x : A) → last_or o (xs ++ x ∷ []) ≡ Some x
last-more o [] x = refl
last-more o (y ∷ ys) x = last-more (Some y) ys x

-- Headers.

flag : (x : Heading) (hs : List Heading) (h : Heading) (b : Bool) → b ≡ has x hs → (is_same x h || b) ≡ has x (hs ++ h ∷ [])
flag x hs h b e = ap (λ b. is_same x h || b) e ∙ turned (is_same x h) (has x hs) ∙ sym (list_any-append (is_same x) hs (h ∷ []))
  where
    turned : (a b : Bool) → (a || b) ≡ (b || (a || false))
    turned true true = refl
    turned true false = refl
    turned false true = refl
    turned false false = refl

some-more : (hs : List Heading) (h : Heading) → true ≡ nat_lt 0 (length (hs ++ h ∷ []))
some-more [] h = refl
some-more (g ∷ hs) h = sym (lt-ltb 0 (suc (length (hs ++ h ∷ []))) (omega arith))

begun-more : (hs : List Heading) (b : Begun) (h : Heading) → AreBegun hs b → AreBegun (hs ++ h ∷ []) (with_begun b h)
begun-more hs b Name a = record { any = some-more hs Name; sense = flag ObjSense hs Name b.sense a.sense; rows = flag Rows hs Name b.rows a.rows; columns = flag Columns hs Name b.columns a.columns; rhs = flag Rhs hs Name b.rhs a.rhs; ranges = flag Ranges hs Name b.ranges a.ranges; bounds = flag Bounds hs Name b.bounds a.bounds }
begun-more hs b ObjSense a = record { any = some-more hs ObjSense; sense = flag ObjSense hs ObjSense b.sense a.sense; rows = flag Rows hs ObjSense b.rows a.rows; columns = flag Columns hs ObjSense b.columns a.columns; rhs = flag Rhs hs ObjSense b.rhs a.rhs; ranges = flag Ranges hs ObjSense b.ranges a.ranges; bounds = flag Bounds hs ObjSense b.bounds a.bounds }
begun-more hs b Rows a = record { any = some-more hs Rows; sense = flag ObjSense hs Rows b.sense a.sense; rows = flag Rows hs Rows b.rows a.rows; columns = flag Columns hs Rows b.columns a.columns; rhs = flag Rhs hs Rows b.rhs a.rhs; ranges = flag Ranges hs Rows b.ranges a.ranges; bounds = flag Bounds hs Rows b.bounds a.bounds }
begun-more hs b Columns a = record { any = some-more hs Columns; sense = flag ObjSense hs Columns b.sense a.sense; rows = flag Rows hs Columns b.rows a.rows; columns = flag Columns hs Columns b.columns a.columns; rhs = flag Rhs hs Columns b.rhs a.rhs; ranges = flag Ranges hs Columns b.ranges a.ranges; bounds = flag Bounds hs Columns b.bounds a.bounds }
begun-more hs b Rhs a = record { any = some-more hs Rhs; sense = flag ObjSense hs Rhs b.sense a.sense; rows = flag Rows hs Rhs b.rows a.rows; columns = flag Columns hs Rhs b.columns a.columns; rhs = flag Rhs hs Rhs b.rhs a.rhs; ranges = flag Ranges hs Rhs b.ranges a.ranges; bounds = flag Bounds hs Rhs b.bounds a.bounds }
begun-more hs b Ranges a = record { any = some-more hs Ranges; sense = flag ObjSense hs Ranges b.sense a.sense; rows = flag Rows hs Ranges b.rows a.rows; columns = flag Columns hs Ranges b.columns a.columns; rhs = flag Rhs hs Ranges b.rhs a.rhs; ranges = flag Ranges hs Ranges b.ranges a.ranges; bounds = flag Bounds hs Ranges b.bounds a.bounds }
begun-more hs b Bounds a = record { any = some-more hs Bounds; sense = flag ObjSense hs Bounds b.sense a.sense; rows = flag Rows hs Bounds b.rows a.rows; columns = flag Columns hs Bounds b.columns a.columns; rhs = flag Rhs hs Bounds b.rhs a.rhs; ranges = flag Ranges hs Bounds b.ranges a.ranges; bounds = flag Bounds hs Bounds b.bounds a.bounds }
begun-more hs b EndData a = record { any = some-more hs EndData; sense = flag ObjSense hs EndData b.sense a.sense; rows = flag Rows hs EndData b.rows a.rows; columns = flag Columns hs EndData b.columns a.columns; rhs = flag Rhs hs EndData b.rhs a.rhs; ranges = flag Ranges hs EndData b.ranges a.ranges; bounds = flag Bounds hs EndData b.bounds a.bounds }

pub headers-added : (seen : Lines) (l : NumberedLine) (old new : Headers) → l.header ≡ true → HoldsHeaders seen old → HeaderAdded l.fields old new → HoldsHeaders (seen ++ l ∷ []) new
headers-added seen l old new e h a =
    let this : heading_on l ≡ Some a.this = heading-header l e ∙ a.word in
    let heads : headings (seen ++ l ∷ []) ≡ headings seen ++ a.this ∷ [] =
    headings_more seen l ∙ ap (λ o. headings seen ++ cons_option o []) this in
    record {
      section = a.section ∙ sym (section-header seen l a.this this);
      begun = subst (AreBegun (headings (seen ++ l ∷ []))) (sym a.begun) (subst (λ hs. AreBegun hs (with_begun old.begun a.this)) (sym heads) (begun-more (headings seen) old.begun a.this h.begun));
    }

headings-data : (seen : Lines) (l : NumberedLine) → l.header ≡ false → headings (seen ++ l ∷ []) ≡ headings seen
headings-data seen l e =
    headings_more seen l
    ∙ ap (λ o. headings seen ++ cons_option o []) (heading-data l e)
    ∙ append-nil (headings seen)

pub headers-stay : (seen : Lines) (l : NumberedLine) (t : Headers) → l.header ≡ false → HoldsHeaders seen t → HoldsHeaders (seen ++ l ∷ []) t
headers-stay seen l t e h = record {
  section = h.section ∙ sym (section-data seen l (heading-data l e));
  begun = subst (λ hs. AreBegun hs t.begun) (sym (headings-data seen l e)) h.begun;
}

-- OBJSENSE.

some-word : (ws : List (List ℕ)) (w : List ℕ) → true ≡ has_some (ws ++ w ∷ [])
some-word [] w = refl
some-word (v ∷ ws) w = refl

or-false : (b : Bool) → (b || false) ≡ b
or-false true = refl
or-false false = refl

pub sense-word : (seen : Lines) (l : NumberedLine) (w : List ℕ) (t : Sense) → sense_on seen l ≡ w ∷ [] → HoldsSense seen t → HoldsSense (seen ++ l ∷ []) (with_word t w)
sense-word seen l w t e h =
    let words : sense_words (seen ++ l ∷ []) ≡ sense_words seen ++ w ∷ [] =
    sense_words_more seen l ∙ ap (λ x. sense_words seen ++ x) e in
    record {
      maximise = ap (λ b. b || is_greater_word w) h.maximise
          ∙ ap (λ b. maximises seen || b) (sym (or-false (is_greater_word w)))
          ∙ sym (ap (list_any is_greater_word) words ∙ list_any-append is_greater_word (sense_words seen) (w ∷ []));
      told = some-word (sense_words seen) w ∙ ap has_some (sym words);
    }

pub sense-none : (seen : Lines) (l : NumberedLine) (t : Sense) → sense_on seen l ≡ [] → HoldsSense seen t → HoldsSense (seen ++ l ∷ []) t
sense-none seen l t e h =
    let words : sense_words (seen ++ l ∷ []) ≡ sense_words seen =
    sense_words_more seen l ∙ ap (λ x. sense_words seen ++ x) e ∙ append-nil (sense_words seen) in
    record { maximise = h.maximise ∙ ap (list_any is_greater_word) (sym words); told = h.told ∙ ap has_some (sym words) }

-- a data line of another section
pub sense-stays : (seen : Lines) (l : NumberedLine) (t : Sense) → l.header ≡ false → is_in ObjSense seen ≡ false → HoldsSense seen t → HoldsSense (seen ++ l ∷ []) t
sense-stays seen l t e i h =
    sense-none seen l t (ap (λ b. cond b (cond (is_it ObjSense (heading_on l)) (drop 1 l.fields) []) (cond (is_in ObjSense seen) (field 0 l.fields ∷ []) [])) e ∙ ap (λ b. cond b (field 0 l.fields ∷ []) []) i) h

-- the word on a data line
pub sense-told : (seen : Lines) (l : NumberedLine) (t : Sense) → l.header ≡ false → is_in ObjSense seen ≡ true → HoldsSense seen t → HoldsSense (seen ++ l ∷ []) (with_word t (field 0 l.fields))
sense-told seen l t e i h =
    sense-word seen l (field 0 l.fields) t (ap (λ b. cond b (cond (is_it ObjSense (heading_on l)) (drop 1 l.fields) []) (cond (is_in ObjSense seen) (field 0 l.fields ∷ []) [])) e ∙ ap (λ b. cond b (field 0 l.fields ∷ []) []) i) h

-- a header, which may have the word
header_words : (seen : Lines) (l : NumberedLine) (h : Heading) → l.header ≡ true → heading (word l) ≡ Some h → sense_on seen l ≡ cond (is_it ObjSense (Some h)) (drop 1 l.fields) []
header_words seen l h e w =
    ap (λ b. cond b (cond (is_it ObjSense (heading_on l)) (drop 1 l.fields) []) (cond (is_in ObjSense seen) (field 0 l.fields ∷ []) [])) e
    ∙ ap (λ o. cond (is_it ObjSense o) (drop 1 l.fields) []) (heading-header l e ∙ w)

with_header-is : (t : Sense) (fs : Fields) (h : Heading) → heading (field 0 fs) ≡ Some h → with_header t fs ≡ cond (is_it ObjSense (Some h) && nat_lt 1 (length fs)) (with_word t (field 1 fs)) t
with_header-is t fs h e = ap (λ o. cond (is_it ObjSense o && nat_lt 1 (length fs)) (with_word t (field 1 fs)) t) e

-- the fields of OBJSENSE
sense_fields : (seen : Lines) (l : NumberedLine) (fs : Fields) (t : Sense) → sense_on seen l ≡ drop 1 fs → nat_lt 2 (length fs) ≡ false → HoldsSense seen t → HoldsSense (seen ++ l ∷ []) (cond (nat_lt 1 (length fs)) (with_word t (field 1 fs)) t)
sense_fields seen l [] t e n h = sense-none seen l t e h
sense_fields seen l (a ∷ []) t e n h = sense-none seen l t e h
sense_fields seen l (a ∷ b ∷ []) t e n h = sense-word seen l b t e h
sense_fields seen l (a ∷ b ∷ c ∷ fs) t e n h = absurd (cc3 (sym (lt-ltb 2 (suc (suc (suc (length fs)))) (omega arith)) ∙ n))
  where
    cc3 : true ≡ false → ⊥
    cc3 e = absurd cc

by_heading : (seen : Lines) (l : NumberedLine) (t : Sense) (h : Heading) → sense_on seen l ≡ cond (is_it ObjSense (Some h)) (drop 1 l.fields) [] → is_too_long (Some h) (length l.fields) ≡ false → HoldsSense seen t → HoldsSense (seen ++ l ∷ []) (cond (is_it ObjSense (Some h) && nat_lt 1 (length l.fields)) (with_word t (field 1 l.fields)) t)
by_heading seen l t Name e n h = sense-none seen l t e h
by_heading seen l t ObjSense e n h = sense_fields seen l l.fields t e n h
by_heading seen l t Rows e n h = sense-none seen l t e h
by_heading seen l t Columns e n h = sense-none seen l t e h
by_heading seen l t Rhs e n h = sense-none seen l t e h
by_heading seen l t Ranges e n h = sense-none seen l t e h
by_heading seen l t Bounds e n h = sense-none seen l t e h
by_heading seen l t EndData e n h = sense-none seen l t e h

pub sense-header : (seen : Lines) (l : NumberedLine) (t : Sense) (h : Heading) → l.header ≡ true → heading (field 0 l.fields) ≡ Some h → is_too_long (Some h) (length l.fields) ≡ false → HoldsSense seen t → HoldsSense (seen ++ l ∷ []) (with_header t l.fields)
sense-header seen l t h e w n k =
    subst (HoldsSense (seen ++ l ∷ [])) (sym (with_header-is t l.fields h w))
    (by_heading seen l t h (header_words seen l h e w) n k)

-- ROWS.

pub rows-stay : (seen : Lines) (l : NumberedLine) (t : RowTable) → acts Rows seen l ≡ false → HoldsRows seen t → HoldsRows (seen ++ l ∷ []) t
rows-stay seen l t e h = record {
  names = h.names ∙ sym (stays Rows (λ seen l. field 1 l.fields ∷ []) seen l e);
  types = h.types ∙ sym (stays Rows (λ seen l. option_to_list (row_type (field 0 l.fields))) seen l e);
}

pub rows-added : (seen : Lines) (l : NumberedLine) (old new : RowTable) → acts Rows seen l ≡ true → HoldsRows seen old → RowAdded l.fields old new → HoldsRows (seen ++ l ∷ []) new
rows-added seen l old new e h a = record {
  names = a.names ∙ ap (λ ns. ns ++ field 1 l.fields ∷ []) h.names ∙ sym (grows Rows (λ seen l. field 1 l.fields ∷ []) seen l e);
  types = a.types
      ∙ ap (λ ts. ts ++ option_to_list (row_type (field 0 l.fields))) h.types
      ∙ sym (grows Rows (λ seen l. option_to_list (row_type (field 0 l.fields))) seen l e);
}

-- COLUMNS.

-- the columns, where the line names none
columns-same : (seen : Lines) (l : NumberedLine) → columns_named (seen ++ l ∷ []) ≡ columns_named seen → columns (seen ++ l ∷ []) ≡ columns seen
columns-same seen l e = ap (fold with_name []) e

columns_stay : (seen : Lines) (l : NumberedLine) → acts Columns seen l ≡ false → columns (seen ++ l ∷ []) ≡ columns seen
columns_stay seen l e =
    columns-same seen l (stays Columns (λ seen l. if is_marker l.fields then [] else field 0 l.fields ∷ []) seen l e)

open_stays : (seen : Lines) (l : NumberedLine) → acts Columns seen l ≡ false → is_open (seen ++ l ∷ []) ≡ is_open seen
open_stays seen l e =
    ap (λ ws. is_opening (last_or None ws)) (stays Columns (λ seen l. if is_marker l.fields then field 2 l.fields ∷ [] else []) seen l e)

integers_stay : (seen : Lines) (l : NumberedLine) → acts Columns seen l ≡ false → integers (seen ++ l ∷ []) ≡ integers seen
integers_stay seen l e =
    stays Columns (λ seen l. if begins_column (columns seen) l.fields then is_open seen ∷ [] else []) seen l e

entries_stay : (seen : Lines) (l : NumberedLine) → acts Columns seen l ≡ false → entries (seen ++ l ∷ []) ≡ entries seen
entries_stay seen l e = stays Columns (λ seen l. entries_on (row_names seen) (columns seen) l.fields) seen l e

goes_on-last : (seen : Lines) (l : NumberedLine) (name : List ℕ) → goes_on (last_or None (seen ++ l ∷ [])) name ≡ goes_on (Some l) name
goes_on-last seen l name = ap (λ o. goes_on o name) (last-more None seen l)

pub columns-header : (seen : Lines) (l : NumberedLine) (t : ColumnTable) → l.header ≡ true → HoldsColumns seen t → HoldsColumns (seen ++ l ∷ []) (record t { current = None })
columns-header seen l t e h =
    let a : acts Columns seen l ≡ false = acts-header Columns seen l e in
    record {
      names = h.names ∙ sym (columns_stay seen l a);
      integers = h.integers ∙ sym (integers_stay seen l a);
      entries = h.entries ∙ sym (entries_stay seen l a);
      opened = h.opened ∙ sym (open_stays seen l a);
      current = λ i name. sym (goes_on-last seen l name ∙ ap (λ b. not b && (not (is_marker l.fields) && bytes_eq (field 0 l.fields) name)) e);
    }

-- a data line of another section
pub columns-stay : (seen : Lines) (l : NumberedLine) (t : ColumnTable) → l.header ≡ false → is_in Columns seen ≡ false → HoldsColumns seen t → HoldsColumns (seen ++ l ∷ []) t
columns-stay seen l t e i h =
    let a : acts Columns seen l ≡ false = ap (λ b. not b && is_in Columns seen) e ∙ i in
    let none : is_in Columns (seen ++ l ∷ []) ≡ false = ap (is_it Columns) (section-data seen l (heading-data l e)) ∙ i in
    record {
      names = h.names ∙ sym (columns_stay seen l a);
      integers = h.integers ∙ sym (integers_stay seen l a);
      entries = h.entries ∙ sym (entries_stay seen l a);
      opened = h.opened ∙ sym (open_stays seen l a);
      current = λ k name. absurd (apart (sym k ∙ none));
    }
  where
    apart : true ≡ false → ⊥
    apart e = absurd cc

pub columns-marker : (seen : Lines) (l : NumberedLine) (old new : ColumnTable) → l.header ≡ false → acts Columns seen l ≡ true → is_marker l.fields ≡ true → HoldsColumns seen old → MarkerAdded l.fields old new → HoldsColumns (seen ++ l ∷ []) new
columns-marker seen l old new e a m h k = record {
  names = k.names ∙ h.names ∙ sym (columns-same seen l (grows Columns (λ seen l. if is_marker l.fields then [] else field 0 l.fields ∷ []) seen l a
      ∙ ap (λ b. columns_named seen ++ cond b [] (field 0 l.fields ∷ [])) m ∙ append-nil (columns_named seen)));
  integers = k.integers ∙ h.integers
      ∙ sym (grows Columns (λ seen l. if begins_column (columns seen) l.fields then is_open seen ∷ [] else []) seen l a
      ∙ ap (λ b. integers seen ++ cond (not b && not (is_among (columns seen) (field 0 l.fields))) (is_open seen ∷ []) []) m
      ∙ append-nil (integers seen));
  entries = k.entries ∙ h.entries
      ∙ sym (grows Columns (λ seen l. entries_on (row_names seen) (columns seen) l.fields) seen l a
      ∙ ap (λ x. entries seen ++ x) (no_entries m)
      ∙ append-nil (entries seen));
  opened = k.opened
      ∙ sym (ap (λ ws. is_opening (last_or None ws)) (grows Columns (λ seen l. if is_marker l.fields then field 2 l.fields ∷ [] else []) seen l a
      ∙ ap (λ b. markers seen ++ cond b (field 2 l.fields ∷ []) []) m)
      ∙ ap is_opening (last-more None (markers seen) (field 2 l.fields)));
  current = λ i name. ap (λ o. is_noted o name) k.current
      ∙ sym (goes_on-last seen l name
      ∙ ap (λ b. not b && (not (is_marker l.fields) && bytes_eq (field 0 l.fields) name)) e
      ∙ ap (λ b. not b && bytes_eq (field 0 l.fields) name) m);
}
  where
    no_entries : is_marker l.fields ≡ true → entries_on (row_names seen) (columns seen) l.fields ≡ []
    no_entries m = ap (λ b. cond b [] (map (entry_of (row_names seen) (place (columns seen) (field 0 l.fields))) (pairs (drop 1 l.fields)))) m

pub columns-entries : (seen : Lines) (l : NumberedLine) (rows : List (List ℕ)) (old new : ColumnTable) → l.header ≡ false → acts Columns seen l ≡ true → is_marker l.fields ≡ false → rows ≡ row_names seen → HoldsColumns seen old → EntriesAdded (field 0 l.fields) (entries_on rows old.names l.fields) old new → HoldsColumns (seen ++ l ∷ []) new
columns-entries seen l rows old new e a m r h k = record {
  names = k.names ∙ ap (λ ns. with_name ns (field 0 l.fields)) h.names
      ∙ sym (columns_more seen l (field 0 l.fields ∷ []) (grows Columns (λ seen l. if is_marker l.fields then [] else field 0 l.fields ∷ []) seen l a
      ∙ ap (λ b. columns_named seen ++ cond b [] (field 0 l.fields ∷ [])) m));
  integers = k.integers
      ∙ (λ i. h.integers i ++ cond (is_among (h.names i) (field 0 l.fields)) [] (h.opened i ∷ []))
      ∙ ap (λ x. integers seen ++ x) (turned (is_among (columns seen) (field 0 l.fields)) (is_open seen))
      ∙ sym (grows Columns (λ seen l. if begins_column (columns seen) l.fields then is_open seen ∷ [] else []) seen l a
      ∙ ap (λ b. integers seen ++ cond (not b && not (is_among (columns seen) (field 0 l.fields))) (is_open seen ∷ []) []) m);
  entries = k.entries
      ∙ (λ i. h.entries i ++ entries_on (r i) (h.names i) l.fields)
      ∙ sym (grows Columns (λ seen l. entries_on (row_names seen) (columns seen) l.fields) seen l a);
  opened = k.opened ∙ h.opened
      ∙ sym (ap (λ ws. is_opening (last_or None ws)) (grows Columns (λ seen l. if is_marker l.fields then field 2 l.fields ∷ [] else []) seen l a
      ∙ ap (λ b. markers seen ++ cond b (field 2 l.fields ∷ []) []) m
      ∙ append-nil (markers seen)));
  current = λ i name. ap (λ o. is_noted o name) k.current
      ∙ sym (goes_on-last seen l name
      ∙ ap (λ b. not b && (not (is_marker l.fields) && bytes_eq (field 0 l.fields) name)) e
      ∙ ap (λ b. not b && bytes_eq (field 0 l.fields) name) m);
}
  where
    turned : (b o : Bool) → cond b [] (o ∷ []) ≡ cond (not b) (o ∷ []) []
    turned true o = refl
    turned false o = refl

-- RHS and RANGES.

-- the first of some sets and one more
first-more : (sets : List (List ℕ)) (set : List ℕ) → first_noted (first_of sets) set ≡ first_of (sets ++ set ∷ [])
first-more [] set = refl
first-more (own ∷ sets) set = refl

-- a set is the section's own by the first set alone
pub own-first : (sets : List (List ℕ)) (set : List ℕ) → is_own (as_sets (first_of sets)) set ≡ is_own sets set
own-first [] set = refl
own-first (own ∷ sets) set = refl

pub given-stay : (h : Heading) (seen : Lines) (l : NumberedLine) (t : GivenTable) → acts h seen l ≡ false → HoldsGiven h seen t → HoldsGiven h (seen ++ l ∷ []) t
given-stay h seen l t e k = record {
  set = k.set ∙ ap first_of (sym (stays h (λ seen l. set_of l.fields ∷ []) seen l e));
  givens = k.givens ∙ sym (stays h (λ seen l. given_on (row_names seen) (sets h seen) l.fields) seen l e);
}

pub given-added : (h : Heading) (seen : Lines) (l : NumberedLine) (rows : List (List ℕ)) (old new : GivenTable) → acts h seen l ≡ true → rows ≡ row_names seen → HoldsGiven h seen old → GivenAdded rows l.fields old new → HoldsGiven h (seen ++ l ∷ []) new
given-added h seen l rows old new e r k a = record {
  set = a.set
      ∙ ap (λ o. first_noted o (set_of l.fields)) k.set
      ∙ first-more (sets h seen) (set_of l.fields)
      ∙ ap first_of (sym (grows h (λ seen l. set_of l.fields ∷ []) seen l e));
  givens = a.givens
      ∙ (λ i. k.givens i ++ given_on (r i) (as_sets (k.set i)) l.fields)
      ∙ ap (λ x. given h seen ++ x) (given-own (row_names seen) (sets h seen) l.fields)
      ∙ sym (grows h (λ seen l. given_on (row_names seen) (sets h seen) l.fields) seen l e);
}
  where
    given-own : (rows sets : List (List ℕ)) (fs : Fields) → given_on rows (as_sets (first_of sets)) fs ≡ given_on rows sets fs
    given-own rows [] fs = refl
    given-own rows (own ∷ sets) fs = refl

-- BOUNDS.

pub bounds-stay : (seen : Lines) (l : NumberedLine) (t : BoundTable) → acts Bounds seen l ≡ false → HoldsBounds seen t → HoldsBounds (seen ++ l ∷ []) t
bounds-stay seen l t e k = record {
  set = k.set ∙ ap first_of (sym (stays Bounds (λ seen l. bound_set (bound_type (field 0 l.fields)) l.fields ∷ []) seen l e));
  lines = k.lines
      ∙ sym (stays Bounds (λ seen l. bound_on (columns seen) (bound_sets seen) l.number (bound_type (field 0 l.fields)) l.fields) seen l e);
}

pub bounds-added : (seen : Lines) (l : NumberedLine) (names : List (List ℕ)) (old new : BoundTable) → acts Bounds seen l ≡ true → names ≡ columns seen → HoldsBounds seen old → BoundAdded names l.number l.fields old new → HoldsBounds (seen ++ l ∷ []) new
bounds-added seen l names old new e r k a = record {
  set = a.set
      ∙ ap (λ o. first_noted o (bound_set (bound_type (field 0 l.fields)) l.fields)) k.set
      ∙ first-more (bound_sets seen) (bound_set (bound_type (field 0 l.fields)) l.fields)
      ∙ ap first_of (sym (grows Bounds (λ seen l. bound_set (bound_type (field 0 l.fields)) l.fields ∷ []) seen l e));
  lines = a.lines
      ∙ (λ i. k.lines i ++ bound_on (r i) (as_sets (k.set i)) l.number (bound_type (field 0 l.fields)) l.fields)
      ∙ ap (λ x. bounds seen ++ x) (bound-own (bound_type (field 0 l.fields)) (columns seen) (bound_sets seen) l.number l.fields)
      ∙ sym (grows Bounds (λ seen l. bound_on (columns seen) (bound_sets seen) l.number (bound_type (field 0 l.fields)) l.fields) seen l e);
}
  where
    bound-own : (o : Option BoundType) (names sets : List (List ℕ)) (line : ℕ) (fs : Fields) → bound_on names (as_sets (first_of sets)) line o fs ≡ bound_on names sets line o fs
    bound-own None names sets line fs = refl
    bound-own (Some t) names [] line fs = refl
    bound-own (Some t) names (own ∷ sets) line fs = refl
