-- Lines of entries and of bounds, by their parts.
use Rattle.std.proofs.Common.{ℕ, ◌≡◌, refl, sym, ap, ◌∙◌, subst, true, false, ◌==◌, ◌||◌, ◌&&◌, not, nat_le, nat_lt, ◌+◌, List, [], ◌∷◌, ◌++◌, length, drop, map, flat_map, None, Result, Ok, Err, cond}
use Rattle.bz_lines.specs.FieldLists.{Fields as FieldList, field}
use Rattle.bz_lines.specs.FirstFault.{first_failing}
use Rattle.bz_lines.specs.NameLists.{is_among, place}
use Rattle.bz_facts.specs.declared.faults.MpsKind.{MpsKind}
use Rattle.bz_facts.specs.declared.faults.MpsKind.TheVariants.{DoubleEntry, Fields, Limit, SplitColumn}
use Rattle.bz_facts.specs.declared.pairs.Pairs.{Pairs}
use Rattle.bz_facts.specs.declared.records.BoundLine.{BoundLine}
use Rattle.bz_facts.specs.declared.records.BoundType.{BoundType}
use Rattle.bz_facts.specs.declared.refusals.Refusal.{Refusal}
use Rattle.bz_facts.specs.declared.refusals.Refusal.TheVariants.{Fault, OutOfMemory}
use Rattle.bz_facts.specs.declared.tables.Columns.{Columns as ColumnTable}
use Rattle.bz_facts.specs.LineAnswers.{Passes, PassesLine}
use Rattle.bz_facts.specs.LineFacts.{behind_bound_set, bound_number, entries_on, entry_of, given_of, names_bound_set, pairs}
use Rattle.bz_facts.specs.LineSteps.{EntriesAdded, entry_in, entry_tests_by, last_entry_tests, pairs_read}
use Rattle.bz_facts.specs.LineTests.{Tests, is_past_limit, is_same_entry, own_bound_tests, pair_tests, repeats}
use Rattle.bz_facts.specs.TableNotes.{is_noted}
use Rattle.bz_facts.specs.Words.{is_marker}
use Rattle.bz_facts.proofs.FailingTests.{front-passes, passes-on}

-- what is answered by some tests is so by others with the same first failing one
passes_same : {X : Type 0} (ts us : Tests) (Is : X → Type 0) (r : Result X Refusal) → first_failing ts ≡ first_failing us → PassesLine ts Is r → PassesLine us Is r
passes_same ts us Is (Ok x) e h = (sym e ∙ h.0, h.1)
passes_same ts us Is (Err (Fault k)) e h = sym e ∙ h
passes_same ts us Is (Err OutOfMemory) e h = tt

-- the entries of a line, by its pairs
entries_mapped : (rows : List (List ℕ)) (column : ℕ) (ps : List (List ℕ × List ℕ)) → map (entry_in column) (map (given_of rows) ps) ≡ map (entry_of rows column) ps
entries_mapped rows column [] = refl
entries_mapped rows column (p ∷ ps) = ap (λ es. entry_of rows column p ∷ es) (entries_mapped rows column ps)

entries_read : (rows names : List (List ℕ)) (fs : FieldList) (p : Pairs) → is_marker fs ≡ false → pairs_read p ≡ map (given_of rows) (pairs (drop 1 fs)) → map (entry_in (place names (field 0 fs))) (pairs_read p) ≡ entries_on rows names fs
entries_read rows names fs p m e =
    ap (map (entry_in (place names (field 0 fs)))) e
    ∙ entries_mapped rows (place names (field 0 fs)) (pairs (drop 1 fs))
    ∙ sym (ap (λ b. cond b [] (map (entry_of rows (place names (field 0 fs))) (pairs (drop 1 fs)))) m)

-- the tests of a line of entries that has the right number of fields and isn't split, and whose pairs pass
last_tests : (rows : List (List ℕ)) (t : ColumnTable) (fs : FieldList) → is_marker fs ≡ false → ((length fs == 3) || (length fs == 5)) ≡ true → (is_among t.names (field 0 fs) && not (is_noted t.current (field 0 fs))) ≡ false → first_failing (flat_map (pair_tests rows) (pairs (drop 1 fs))) ≡ None → first_failing (last_entry_tests t (field 0 fs) (entries_on rows t.names fs)) ≡ first_failing (entry_tests_by rows t fs)
last_tests rows t fs m l s p =
    let more = entries_on rows t.names fs in
    let last : Tests = (repeats is_same_entry t.entries more, DoubleEntry) ∷ (is_past_limit t.names t.entries fs more, Limit) ∷ [] in
    let front = flat_map (pair_tests rows) (pairs (drop 1 fs)) in
    sym (passes-on (not ((length fs == 3) || (length fs == 5))) Fields ((is_among t.names (field 0 fs) && not (is_noted t.current (field 0 fs)), SplitColumn) ∷ front ++ last) (ap not l)
    ∙ passes-on (is_among t.names (field 0 fs) && not (is_noted t.current (field 0 fs))) SplitColumn (front ++ last) s
    ∙ front-passes front last p
    ∙ ap (λ b. first_failing ((repeats is_same_entry t.entries more, DoubleEntry) ∷ (((not b && not (is_among t.names (field 0 fs))) && nat_le 2048 (length t.names)) || nat_lt 65536 (length t.entries + length more), Limit) ∷ [])) m)

pub entry-line : (rows : List (List ℕ)) (t new : ColumnTable) (fs : FieldList) (p : Pairs) (r : Result (Unit {0}) Refusal) → is_marker fs ≡ false → ((length fs == 3) || (length fs == 5)) ≡ true → (is_among t.names (field 0 fs) && not (is_noted t.current (field 0 fs))) ≡ false → first_failing (flat_map (pair_tests rows) (pairs (drop 1 fs))) ≡ None → pairs_read p ≡ map (given_of rows) (pairs (drop 1 fs)) → PassesLine (last_entry_tests t (field 0 fs) (map (entry_in (place t.names (field 0 fs))) (pairs_read p))) (λ _. EntriesAdded (field 0 fs) (map (entry_in (place t.names (field 0 fs))) (pairs_read p)) t new) r → PassesLine (entry_tests_by rows t fs) (λ _. EntriesAdded (field 0 fs) (entries_on rows t.names fs) t new) r
entry-line rows t new fs p r m l s f e h =
    passes_same (last_entry_tests t (field 0 fs) (entries_on rows t.names fs)) (entry_tests_by rows t fs) (λ _. EntriesAdded (field 0 fs) (entries_on rows t.names fs) t new) r (last_tests rows t fs m l s f)
    (subst (λ es. PassesLine (last_entry_tests t (field 0 fs) es) (λ _. EntriesAdded (field 0 fs) es t new) r) (entries_read rows t.names fs p m e) h)

-- Bounds.

-- a bound is read by its first two fields
pub own-bound : (names : List (List ℕ)) (t : BoundType) (line : ℕ) (fs gs : FieldList) (r : Result BoundLine MpsKind) → field 0 fs ≡ field 0 gs → field 1 fs ≡ field 1 gs → Passes (own_bound_tests names t fs) (λ b. b ≡ record { line = line; kind = t; column = place names (field 0 fs); number = bound_number t (field 1 fs) }) r → Passes (own_bound_tests names t gs) (λ b. b ≡ record { line = line; kind = t; column = place names (field 0 gs); number = bound_number t (field 1 gs) }) r
own-bound names t line fs gs r e f h =
    subst (λ (p : List ℕ × List ℕ). Passes (own_bound_tests names t (p.0 ∷ p.1 ∷ [])) (λ b. b ≡ record { line = line; kind = t; column = place names p.0; number = bound_number t p.1 }) r) (λ i. (e i, f i)) h

pub behind-named : (t : BoundType) (fs : FieldList) → names_bound_set t fs ≡ true → behind_bound_set t fs ≡ drop 2 fs
behind-named t fs e = ap (λ b. cond b (drop 2 fs) (drop 1 fs)) e

pub behind-unnamed : (t : BoundType) (fs : FieldList) → names_bound_set t fs ≡ false → behind_bound_set t fs ≡ drop 1 fs
behind-unnamed t fs e = ap (λ b. cond b (drop 2 fs) (drop 1 fs)) e

pub two-behind_two : (fs : FieldList) → (field 2 fs ≡ field 0 (drop 2 fs)) × (field 3 fs ≡ field 1 (drop 2 fs))
two-behind_two [] = (refl, refl)
two-behind_two (a ∷ []) = (refl, refl)
two-behind_two (a ∷ b ∷ fs) = (refl, refl)

pub two-behind_one : (fs : FieldList) → (field 1 fs ≡ field 0 (drop 1 fs)) × (field 2 fs ≡ field 1 (drop 1 fs))
two-behind_one [] = (refl, refl)
two-behind_one (a ∷ fs) = (refl, refl)
