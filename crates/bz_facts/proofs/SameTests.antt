-- The tests of a line by the lines before it are those by their tables.
use Rattle.std.proofs.Common.{ℕ, suc, ◌≡◌, refl, sym, ap, ◌∙◌, Bool, true, false, ◌==◌, ◌&&◌, ◌||◌, not, nat_le, is_none, List, [], ◌∷◌, ◌++◌, length, drop, flat_map, map, Option, Some, None, cond, ne_eqb, arith, if◌then◌else◌}
use Rattle.std.specs.List.{list_any}
use Rattle.bz_lines.specs.FieldLists.{Fields as FieldList, field}
use Rattle.bz_lines.specs.NameLists.{is_among}
use Rattle.bz_lines.specs.NumberedLines.{NumberedLine}
use Rattle.bz_facts.specs.declared.faults.MpsKind.TheVariants.{DoubleEntry, Fields, Limit, MarkerOpen, NoObjective, NotText, Order, Section, SectionOut, Sense, SplitColumn}
use Rattle.bz_facts.specs.declared.records.Entry.{Entry}
use Rattle.bz_facts.specs.declared.records.Given.{Given}
use Rattle.bz_facts.specs.declared.records.Heading.{Heading}
use Rattle.bz_facts.specs.declared.records.Heading.TheVariants.{Name, ObjSense, Rows, Columns, Rhs, Ranges, Bounds, EndData}
use Rattle.bz_facts.specs.declared.tables.Begun.{Begun}
use Rattle.bz_facts.specs.declared.tables.Tables.{Tables}
use Rattle.bz_facts.specs.declared.tables.BoundTable.{BoundTable}
use Rattle.bz_facts.specs.declared.tables.GivenTable.{GivenTable}
use Rattle.bz_facts.specs.Headings.{Lines, headings, is_in, is_it, section}
use Rattle.bz_facts.specs.LineFacts.{behind_set, bound_sets, columns, entries_on, given_of, is_own, pairs, row_names, sense_words, set_of, sets}
use Rattle.bz_facts.specs.LineSteps.{as_sets, bound_tests_by, column_tests_by, data_tests_by, given_tests_by, header_tests_by, is_out_of_order_by, is_waiting, line_tests_by}
use Rattle.bz_facts.specs.LineTests.{Tests as TestList, bound_tests, bound_tests_of, column_tests, given_tests, has_wrong_sense, header_tests, is_free, is_out_of_order, is_past_limit, is_same_entry, is_too_long, line_tests, marker_tests, own_given_tests, pair_tests, repeats, row_tests, section_tests, sense_tests, waits_for_sense}
use Rattle.bz_facts.specs.declared.records.BoundType.{BoundType}
use Rattle.bz_facts.specs.Words.{bound_type, heading, is_left_out, is_marker}
use Rattle.bz_facts.proofs.Held.{AreBegun, Holds, HoldsBounds, HoldsGiven, first_of, has_some}
use Rattle.bz_facts.proofs.LineAdding.{own-first}

-- Headers.

none-or-some : (ws : List (List ℕ)) → not (has_some ws) ≡ (length ws == 0)
none-or-some [] = refl
none-or-some (w ∷ ws) = sym (ne_eqb (suc (length ws)) 0 (λ e. absurd (omega arith)))

waits-same : (seen : Lines) (t : Tables) → Holds seen t → is_waiting t.headers.section t.sense ≡ waits_for_sense seen
waits-same seen t h = (λ i. is_it ObjSense (h.headers.section i) && not (h.sense.told i)) ∙ ap (λ b. is_in ObjSense seen && b) (none-or-some (sense_words seen))

misplaced-same : (hs : List Heading) (b : Begun) (o : Option Heading) → AreBegun hs b → is_out_of_order_by b o ≡ is_out_of_order hs o
misplaced-same hs b None a = refl
misplaced-same hs b (Some Name) a = a.any
misplaced-same hs b (Some ObjSense) a = λ i. a.sense i || a.rows i
misplaced-same hs b (Some Rows) a = a.rows
misplaced-same hs b (Some Columns) a = λ i. not (a.rows i) || a.columns i
misplaced-same hs b (Some Rhs) a = λ i. not (a.columns i) || a.rhs i
misplaced-same hs b (Some Ranges) a = λ i. not (a.columns i) || a.ranges i
misplaced-same hs b (Some Bounds) a = λ i. not (a.columns i) || a.bounds i
misplaced-same hs b (Some EndData) a = ap not a.columns

header-same : (seen : Lines) (t : Tables) (fs : FieldList) → Holds seen t → header_tests_by t.headers t.sense t.columns.marked t.rows.types fs ≡ header_tests seen fs
header-same seen t fs h =
    λ i. (is_left_out (field 0 fs), SectionOut)
    ∷ (is_none (heading (field 0 fs)), Section)
    ∷ (is_too_long (heading (field 0 fs)) (length fs), Fields)
    ∷ (has_wrong_sense (heading (field 0 fs)) fs || waits-same seen t h i, Sense)
    ∷ (is_it Columns (h.headers.section i) && h.columns.opened i, MarkerOpen)
    ∷ (misplaced-same (headings seen) t.headers.begun (heading (field 0 fs)) h.headers.begun i, Order)
    ∷ (is_it Columns (heading (field 0 fs)) && not (list_any is_free (h.rows.types i)), NoObjective)
    ∷ []

-- Data lines.

-- the tests of entries by what the tables hold
abbrev entry_tests_at : List (List ℕ) → List (List ℕ) → List Entry → Bool → FieldList → TestList
entry_tests_at rows names before split fs =
    let more = entries_on rows names fs in
    (not ((length fs == 3) || (length fs == 5)), Fields)
    ∷ (is_among names (field 0 fs) && not split, SplitColumn)
    ∷ flat_map (pair_tests rows) (pairs (drop 1 fs))
    ++ (repeats is_same_entry before more, DoubleEntry)
    ∷ (is_past_limit names before fs more, Limit)
    ∷ []

column-same : (seen : Lines) (t : Tables) (fs : FieldList) → section seen ≡ Some Columns → Holds seen t → column_tests_by t.rows.names t.columns fs ≡ column_tests seen fs
column-same seen t fs s h =
    let c = h.columns.current (ap (is_it Columns) s) (field 0 fs) in
    λ i. cond (is_marker fs) (marker_tests (h.columns.opened i) (field 2 fs)) (entry_tests_at (h.rows.names i) (h.columns.names i) (h.columns.entries i) (c i) fs)

-- the tests of right sides by what the tables hold
abbrev given_tests_at : Bool → List (List ℕ) → List Given → FieldList → TestList
given_tests_at own rows before fs =
    (not (nat_le 2 (length fs) && nat_le (length fs) 5), Fields)
    ∷ (if own then own_given_tests rows before (if own then map (given_of rows) (pairs (behind_set fs)) else []) (behind_set fs) else [])

given-same : (h : Heading) (seen : Lines) (t : GivenTable) (rows : List (List ℕ)) (fs : FieldList) → rows ≡ row_names seen → HoldsGiven h seen t → given_tests_by rows t fs ≡ given_tests h seen fs
given-same h seen t rows fs r k =
    let own = ap (λ o. is_own (as_sets o) (set_of fs)) k.set ∙ own-first (sets h seen) (set_of fs) in
    λ i. given_tests_at (own i) (r i) (k.givens i) fs

bound_tests-own : (o : Option BoundType) (names sets : List (List ℕ)) (fs : FieldList) → bound_tests_of names (as_sets (first_of sets)) o fs ≡ bound_tests_of names sets o fs
bound_tests-own None names sets fs = refl
bound_tests-own (Some b) names [] fs = refl
bound_tests-own (Some b) names (own ∷ sets) fs = refl

bound-same : (seen : Lines) (t : BoundTable) (names : List (List ℕ)) (fs : FieldList) → names ≡ columns seen → HoldsBounds seen t → bound_tests_by names t fs ≡ bound_tests seen fs
bound-same seen t names fs n k =
    (λ i. bound_tests_of (n i) (as_sets (k.set i)) (bound_type (field 0 fs)) fs)
    ∙ bound_tests-own (bound_type (field 0 fs)) (columns seen) (bound_sets seen) fs

not-waiting : (told : Bool) → not (not told) ≡ told
not-waiting true = refl
not-waiting false = refl

sense-same : (seen : Lines) (t : Tables) (fs : FieldList) → section seen ≡ Some ObjSense → Holds seen t → (t.sense.told, Section) ∷ sense_tests fs ≡ (not (waits_for_sense seen), Section) ∷ sense_tests fs
sense-same seen t fs s h =
    let waits : waits_for_sense seen ≡ not t.sense.told = sym (waits-same seen t h) ∙ ap (λ o. is_it ObjSense o && not t.sense.told) (h.headers.section ∙ s) in
    ap (λ b. (b, Section) ∷ sense_tests fs) (sym (ap not waits ∙ not-waiting t.sense.told))

data-same : (o : Option Heading) (seen : Lines) (t : Tables) (fs : FieldList) → section seen ≡ o → Holds seen t → data_tests_by o t fs ≡ section_tests o seen fs
data-same None seen t fs s h = refl
data-same (Some Name) seen t fs s h = refl
data-same (Some ObjSense) seen t fs s h = sense-same seen t fs s h
data-same (Some Rows) seen t fs s h = λ i. row_tests (h.rows.names i) (h.rows.types i) fs
data-same (Some Columns) seen t fs s h = column-same seen t fs s h
data-same (Some Rhs) seen t fs s h = given-same Rhs seen t.right_sides t.rows.names fs h.rows.names h.right_sides
data-same (Some Ranges) seen t fs s h = given-same Ranges seen t.ranges t.rows.names fs h.rows.names h.ranges
data-same (Some Bounds) seen t fs s h = bound-same seen t.bounds t.columns.names fs h.columns.names h.bounds
data-same (Some EndData) seen t fs s h = refl

section-same : (seen : Lines) (t : Tables) (fs : FieldList) → Holds seen t → data_tests_by t.headers.section t fs ≡ section_tests (section seen) seen fs
section-same seen t fs h =
    ap (λ o. data_tests_by o t fs) h.headers.section ∙ data-same (section seen) seen t fs refl h

pub tests-same : (seen : Lines) (t : Tables) (l : NumberedLine) → Holds seen t → line_tests_by t l ≡ line_tests seen l
unfolding line_tests
tests-same seen t l h =
    λ i. (not l.text, NotText) ∷ cond l.header (header-same seen t l.fields h i) (section-same seen t l.fields h i)
