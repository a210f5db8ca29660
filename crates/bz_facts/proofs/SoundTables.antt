-- What holds of the tables behind lines none of which fails.
use Rattle.std.proofs.Common.{ℕ, ℤ, pos, ◌+◌, ◌<◌, ◌≤◌, ◌≡◌, ◌⊎◌, inl, inr, refl, sym, ap, ◌∙◌, subst, arith, Bool, true, false, ◌&&◌, not, nat_le, nat_lt, bytes_eq, List, [], ◌∷◌, ◌++◌, drop, filter, length, map, flat_map, Option, Some, None, cond, option_to_list, append-nil}
use Rattle.std.specs.Prelude.{is_none}
use Rattle.std.specs.Int.{◌∣◌}
use Rattle.std.specs.Int.RustNames.{unsigned_abs}
use Rattle.std.specs.List.{AllByRecursion, IsDistinct}
use Rattle.std.specs.Option.{ForSome}
use Rattle.std.proofs.lemmas.Bool.{leb-false, ltb-false}
use Rattle.std.proofs.lemmas.List.{length-append}
use Rattle.std.proofs.lemmas.Slice.Eq.{bytes_eq-Decides}
use Rattle.std.proofs.lemmas.List.Elements.{filter-append}
use Rattle.bz_lines.specs.FieldLists.{Fields as FieldList, field}
use Rattle.bz_lines.specs.FirstFault.{NoneFails, first_failing}
use Rattle.bz_lines.specs.NameLists.{is_among, place, with_name}
use Rattle.bz_lines.proofs.FirstFaults.{first_failing-none, none_fails}
use Rattle.bz_facts.specs.declared.faults.MpsKind.TheVariants.{DoubleEntry, Limit, Number}
use Rattle.bz_num.specs.declared.decimal.Dec.{Dec}
use Rattle.bz_num.specs.Decimals.{IsReduced, IsWithinLimits, exponent, mantissa}
use Rattle.bz_facts.specs.declared.records.BoundLine.{BoundLine}
use Rattle.bz_facts.specs.declared.records.BoundType.{BoundType}
use Rattle.bz_facts.specs.declared.records.Entry.{Entry}
use Rattle.bz_facts.specs.declared.records.Given.{Given}
use Rattle.bz_facts.specs.declared.records.RowType.{RowType}
use Rattle.bz_facts.specs.declared.tables.BoundTable.{BoundTable}
use Rattle.bz_facts.specs.declared.tables.Columns.{Columns as ColumnTable}
use Rattle.bz_facts.specs.declared.tables.GivenTable.{GivenTable}
use Rattle.bz_facts.specs.declared.tables.Rows.{Rows as RowTable}
use Rattle.bz_facts.specs.LineFacts.{behind_bound_set, behind_set, bound_number, bound_on, bound_set, entries_on, entry_of, given_of, given_on, is_own, names_bound_set, names_set, number_of, pairs, set_of}
use Rattle.bz_facts.specs.LineSteps.{BoundAdded, EntriesAdded, GivenAdded, MarkerAdded, RowAdded, as_sets, bound_tests_by, entry_tests_by, given_tests_by}
use Rattle.bz_facts.specs.LineTests.{bound_tests_of, is_wrong_side, number_tests, is_counted, is_row_past_limit, is_past_limit, is_same_entry, is_same_row, own_bound_tests, own_given_tests, pair_tests, repeats, row_tests}
use Rattle.bz_facts.specs.SoundFacts.{IsBoundAmong, IsEntryAmong, IsFinite, IsGivenAmong, IsReadDecimal, NeverFallFrom}
use Rattle.bz_facts.specs.Spellings.{IsSpelled, Spelled, is_infinite, is_no_number, is_too_wide, no_number, number, spelled, too_wide, value}
use Rattle.bz_facts.specs.TableNotes.{is_noted}
use Rattle.bz_facts.specs.Words.{bound_type, has_number, is_marker, row_type}
use Rattle.bz_facts.proofs.SoundLists.{all-append, all-map, all-tested, all-weaker, distinct-more, equal-turned, front-none, never-fall-more, not-none, or-none, place-inside, place-new, place-pushed}
use Rattle.bz_facts.proofs.ShortFields.{IsShort, short-drop, short-field, short-pairs}
use Rattle.bz_facts.proofs.SpellingLaws.{spelled_is_exact}

-- Pairs and numbers that pass their tests.

-- the value of a spelling has no zero at its end
ends_once : (n e : ℤ) (d : Dec) → IsReduced n e d → (d.exp ≡ pos 0) ⊎ (10 ∣ unsigned_abs d.mant → ⊥)
ends_once n e d (inl z) = inl z.exp
ends_once n e d (inr m) = inr m.last

by_spelled : (word : List ℕ) (s : Spelled) → IsSpelled word s → is_no_number s ≡ false → is_too_wide s ≡ false → IsReadDecimal (value s)
by_spelled word (number d) h a b = record { within = h.1; ends = ends_once (mantissa h.0.spelling) (exponent h.0.spelling) d h.0.value }
by_spelled word too_wide h a b = absurd cc
by_spelled word no_number h a b = absurd cc

number_read : (word : List ℕ) → IsShort word → is_no_number (spelled word) ≡ false → is_too_wide (spelled word) ≡ false → IsReadDecimal (number_of word)
number_read word l a b = by_spelled word (spelled word) (spelled_is_exact word l) a b

pub record IsPair (rows : List (List ℕ)) (p : List ℕ × List ℕ) : Type 0 where
  pub there : is_among rows p.0 ≡ true
  pub read : IsReadDecimal (number_of p.1)

pair_passes : (rows : List (List ℕ)) (p : List ℕ × List ℕ) → IsShort p.1 → first_failing (pair_tests rows p) ≡ None → IsPair rows p
pair_passes rows p l e =
    let h = none_fails (pair_tests rows p) e in
    record { there = not-none (is_among rows p.0) h.0; read = number_read p.1 l h.1.0 h.1.1.0 }

pairs_pass : (rows : List (List ℕ)) (fs : FieldList) → AllByRecursion IsShort fs → first_failing (flat_map (pair_tests rows) (pairs fs)) ≡ None → AllByRecursion (IsPair rows) (pairs fs)
pairs_pass rows fs l e =
    all-tested (pair_tests rows) (λ p. IsShort p.1) (IsPair rows) (pair_passes rows) (pairs fs) (short-pairs fs l) e

-- ROWS.

pub record SoundRows (t : RowTable) : Type 0 where
  pub types : length t.types ≡ length t.names
  pub few : length (filter is_counted t.types) ≤ 2048

counted_more : (types : List RowType) (o : Option RowType) → (o ≡ None → ⊥) → is_row_past_limit types o ≡ false → length (filter is_counted types) ≤ 2048 → (length (types ++ option_to_list o) ≡ length types + 1) × (length (filter is_counted (types ++ option_to_list o)) ≤ 2048)
counted_more types None some past few = absurd (some refl)
counted_more types (Some t) some past few =
    (length-append types (t ∷ []) ∙ omega arith, by (is_counted t) refl past)
  where
    by : (b : Bool) → is_counted t ≡ b → (b && nat_le 2048 (length (filter is_counted types))) ≡ false → length (filter is_counted (types ++ t ∷ [])) ≤ 2048
    by true e p =
        let below : length (filter is_counted types) < 2048 = leb-false 2048 (length (filter is_counted types)) p in
        omega (arith, ap length (filter-append is_counted types (t ∷ [])), length-append (filter is_counted types) (filter is_counted (t ∷ [])), ap (λ b. length (cond b (t ∷ []) [])) e)
    by false e p =
        omega (arith, ap length (filter-append is_counted types (t ∷ [])), length-append (filter is_counted types) (filter is_counted (t ∷ [])), ap (λ b. length (cond b (t ∷ []) [])) e)

is_some_not : {X : Type 0} (o : Option X) → is_none o ≡ false → o ≡ None → ⊥
is_some_not None e f = absurd cc
is_some_not (Some x) e f = absurd cc

pub sound-row : (fs : FieldList) (old new : RowTable) → SoundRows old → first_failing (row_tests old.names old.types fs) ≡ None → RowAdded fs old new → SoundRows new
sound-row fs old new s e a =
    let h = none_fails (row_tests old.names old.types fs) e in
    let more = counted_more old.types (row_type (field 0 fs)) (is_some_not (row_type (field 0 fs)) h.1.0) h.1.1.1.0 s.few in
    record {
      types = ap length a.types ∙ more.0 ∙ ap (λ n. n + 1) s.types ∙ sym (ap length a.names ∙ length-append old.names (field 1 fs ∷ []) ∙ omega arith);
      few = subst (λ ts. length (filter is_counted ts) ≤ 2048) (sym a.types) more.1;
    }

-- COLUMNS.

pub record SoundColumns (rows : ℕ) (t : ColumnTable) : Type 0 where
  pub integers : length t.integers.items ≡ length t.names
  pub few_columns : length t.names ≤ 2048
  pub few_entries : length t.entries ≤ 65536
  pub entries : AllByRecursion (IsEntryAmong (length t.names) rows) t.entries
  pub in_order : NeverFallFrom 0 t.entries
  pub current : (name : List ℕ) → is_among t.names name ≡ true → is_noted t.current name ≡ true → place t.names name + 1 ≡ length t.names
  pub once : IsDistinct is_same_entry t.entries

-- nothing is noted
none_noted : (o : Option (List ℕ)) (name : List ℕ) → o ≡ None → is_noted o name ≡ true → ⊥
none_noted o name e h = let f = sym h ∙ ap (λ o. is_noted o name) e in absurd cc

-- more rows
pub columns-more_rows : (rows more : ℕ) (t : ColumnTable) → rows ≤ more → SoundColumns rows t → SoundColumns more t
columns-more_rows rows more t l s = record {
  integers = s.integers;
  few_columns = s.few_columns;
  few_entries = s.few_entries;
  entries = all-weaker (IsEntryAmong (length t.names) rows) (IsEntryAmong (length t.names) more) (λ e h. record { column = h.column; row = omega (arith, h.row, l); read = h.read }) t.entries s.entries;
  in_order = s.in_order;
  current = s.current;
  once = s.once;
}

pub columns-ended : (rows : ℕ) (t : ColumnTable) → SoundColumns rows t → SoundColumns rows (record t { current = None })
columns-ended rows t s = record {
  integers = s.integers;
  few_columns = s.few_columns;
  few_entries = s.few_entries;
  entries = s.entries;
  in_order = s.in_order;
  current = λ name a h. absurd (none_noted None name refl h);
  once = s.once;
}

pub sound-marker : (rows : ℕ) (fs : FieldList) (old new : ColumnTable) → SoundColumns rows old → MarkerAdded fs old new → SoundColumns rows new
sound-marker rows fs old new s a = record {
  integers = ap length a.integers ∙ s.integers ∙ sym (ap length a.names);
  few_columns = omega (arith, s.few_columns, ap length a.names);
  few_entries = omega (arith, s.few_entries, ap length a.entries);
  entries = subst (λ n. AllByRecursion (IsEntryAmong (length n) rows) new.entries) (sym a.names) (subst (AllByRecursion (IsEntryAmong (length old.names) rows)) (sym a.entries) s.entries);
  in_order = subst (NeverFallFrom 0) (sym a.entries) s.in_order;
  current = λ name i h. absurd (none_noted new.current name a.current h);
  once = subst (IsDistinct is_same_entry) (sym a.entries) s.once;
}

same_entry_turned : (a b : Entry) → is_same_entry a b ≡ is_same_entry b a
same_entry_turned a b = λ i. equal-turned a.column b.column i && equal-turned a.row b.row i

-- what passing tests say of a line of entries
pub record EntriesPass (rows : List (List ℕ)) (t : ColumnTable) (fs : FieldList) : Type 0 where
  pub whole : (is_among t.names (field 0 fs) && not (is_noted t.current (field 0 fs))) ≡ false
  pub tested : AllByRecursion (IsPair rows) (pairs (drop 1 fs))
  pub apart : repeats is_same_entry t.entries (entries_on rows t.names fs) ≡ false
  pub few : is_past_limit t.names t.entries fs (entries_on rows t.names fs) ≡ false

pub entries_pass : (rows : List (List ℕ)) (t : ColumnTable) (fs : FieldList) → AllByRecursion IsShort fs → first_failing (entry_tests_by rows t fs) ≡ None → EntriesPass rows t fs
entries_pass rows t fs l e =
    let more = entries_on rows t.names fs in
    let last = (repeats is_same_entry t.entries more, DoubleEntry) ∷ (is_past_limit t.names t.entries fs more, Limit) ∷ [] in
    let h = none_fails (entry_tests_by rows t fs) e in
    let rest : first_failing (flat_map (pair_tests rows) (pairs (drop 1 fs)) ++ last) ≡ None =
    first_failing-none (flat_map (pair_tests rows) (pairs (drop 1 fs)) ++ last) h.1.1 in
    let both = front-none (flat_map (pair_tests rows) (pairs (drop 1 fs))) last rest in
    let two = none_fails last both.1 in
    record {
      whole = h.1.0;
      tested = pairs_pass rows (drop 1 fs) (short-drop 1 fs l) both.0;
      apart = two.0;
      few = two.1.0;
    }

-- the names and one that may be new
grown : (names : List (List ℕ)) (name : List ℕ) → length (with_name names name) ≡ cond (is_among names name) (length names) (length names + 1)
grown names name = by (is_among names name)
  where
    by : (b : Bool) → length (cond b names (names ++ name ∷ [])) ≡ cond b (length names) (length names + 1)
    by true = refl
    by false = length-append names (name ∷ []) ∙ omega arith

-- where the column of a line stands: last among the names and the new one
last_place : (rows : ℕ) (t : ColumnTable) (name : List ℕ) → SoundColumns rows t → (is_among t.names name && not (is_noted t.current name)) ≡ false → place t.names name + 1 ≡ length (with_name t.names name)
last_place rows t name s e = by (is_among t.names name) refl e
  where
    by : (b : Bool) → is_among t.names name ≡ b → (b && not (is_noted t.current name)) ≡ false → place t.names name + 1 ≡ length (with_name t.names name)
    by true i f = s.current name i (not-none (is_noted t.current name) f) ∙ sym (grown t.names name ∙ ap (λ b. cond b (length t.names) (length t.names + 1)) i)
    by false i f = ap (λ n. n + 1) (place-new (bytes_eq name) t.names i) ∙ sym (grown t.names name ∙ ap (λ b. cond b (length t.names) (length t.names + 1)) i)

entries_of_pairs : (rows names : List (List ℕ)) (fs : FieldList) → is_marker fs ≡ false → entries_on rows names fs ≡ map (entry_of rows (place names (field 0 fs))) (pairs (drop 1 fs))
entries_of_pairs rows names fs m = ap (λ b. cond b [] (map (entry_of rows (place names (field 0 fs))) (pairs (drop 1 fs)))) m

same_bytes : (xs ys : List ℕ) → bytes_eq xs ys ≡ true → xs ≡ ys
same_bytes xs ys e = (bytes_eq-Decides xs ys).0 e

own_bytes : (xs : List ℕ) → bytes_eq xs xs ≡ true
own_bytes xs = (bytes_eq-Decides xs xs).1 refl

-- the place of the noted column among the names once it is one of them
noted_place : (names : List (List ℕ)) (name other : List ℕ) → place names name + 1 ≡ length (with_name names name) → bytes_eq name other ≡ true → place (with_name names name) other + 1 ≡ length (with_name names name)
noted_place names name other e h =
    subst (λ o. place (with_name names name) o + 1 ≡ length (with_name names name)) (same_bytes name other h) (by (is_among names name) refl e)
  where
    by : (b : Bool) → is_among names name ≡ b → place names name + 1 ≡ length (with_name names name) → place (with_name names name) name + 1 ≡ length (with_name names name)
    by true i f = ap (λ b. place (cond b names (names ++ name ∷ [])) name + 1) i ∙ f
    by false i f = ap (λ b. place (cond b names (names ++ name ∷ [])) name + 1) i
        ∙ ap (λ n. n + 1) (place-pushed (bytes_eq name) names name i (own_bytes name))
        ∙ sym (ap (λ b. length (cond b names (names ++ name ∷ []))) i ∙ length-append names (name ∷ []) ∙ omega arith)

noted_same : (o : Option (List ℕ)) (name other : List ℕ) → o ≡ Some name → is_noted o other ≡ true → bytes_eq name other ≡ true
noted_same o name other e h = sym (ap (λ o. is_noted o other) e) ∙ h

-- one integer mark for a column that is new, and one column at most where there is room
one_each : (b open_now : Bool) (marks names : ℕ) → marks ≡ names → length (cond b [] (open_now ∷ [])) + marks ≡ cond b names (names + 1)
one_each true o marks names e = omega (arith, e)
one_each false o marks names e = omega (arith, e)

room : (b : Bool) (names : ℕ) → names ≤ 2048 → (not b && nat_le 2048 names) ≡ false → cond b names (names + 1) ≤ 2048
room true names l e = l
room false names l e = let below : names < 2048 = leb-false 2048 names e in omega arith

not_fewer : (b : Bool) (n : ℕ) → n ≤ cond b n (n + 1)
not_fewer true n = omega arith
not_fewer false n = omega arith

pub sound-entries : (rows : List (List ℕ)) (fs : FieldList) (old new : ColumnTable) → is_marker fs ≡ false → SoundColumns (length rows) old → EntriesPass rows old fs → EntriesAdded (field 0 fs) (entries_on rows old.names fs) old new → SoundColumns (length rows) new
sound-entries rows fs old new m s p a =
    let name = field 0 fs in
    let more = entries_on rows old.names fs in
    let among = is_among old.names name in
    let c = place old.names name in
    let size : length new.names ≡ cond among (length old.names) (length old.names + 1) = ap length a.names ∙ grown old.names name in
    let last : c + 1 ≡ length new.names = last_place (length rows) old name s p.whole ∙ sym (ap length a.names) in
    let limits = or-none ((not (is_marker fs) && not among) && nat_le 2048 (length old.names)) (nat_lt 65536 (length old.entries + length more)) p.few in
    let columns : (not among && nat_le 2048 (length old.names)) ≡ false = sym (ap (λ b. (not b && not among) && nat_le 2048 (length old.names)) m) ∙ limits.0 in
    let few : length old.entries + length more ≤ 65536 = ltb-false 65536 (length old.entries + length more) limits.1 in
    let below : AllByRecursion (λ e. e.column ≤ c) old.entries =
    all-weaker (IsEntryAmong (length old.names) (length rows)) (λ e. e.column ≤ c) (λ e h. omega (arith, h.column, last, size, not_fewer among (length old.names))) old.entries s.entries in
    let is : more ≡ map (entry_of rows c) (pairs (drop 1 fs)) = entries_of_pairs rows old.names fs m in
    let here : AllByRecursion (λ e. e.column ≡ c) more =
    subst (AllByRecursion (λ e. e.column ≡ c)) (sym is) (all-map (IsPair rows) (λ e. e.column ≡ c) (entry_of rows c) (λ q h. refl) (pairs (drop 1 fs)) p.tested) in
    let added : AllByRecursion (IsEntryAmong (length new.names) (length rows)) more =
    subst (AllByRecursion (IsEntryAmong (length new.names) (length rows))) (sym is)
    (all-map (IsPair rows) (IsEntryAmong (length new.names) (length rows)) (entry_of rows c) (λ q h. record { column = omega (arith, last); row = place-inside (bytes_eq q.0) rows h.there; read = h.read }) (pairs (drop 1 fs)) p.tested) in
    let kept : AllByRecursion (IsEntryAmong (length new.names) (length rows)) old.entries =
    all-weaker (IsEntryAmong (length old.names) (length rows)) (IsEntryAmong (length new.names) (length rows)) (λ e h. record { column = omega (arith, h.column, size, not_fewer among (length old.names)); row = h.row; read = h.read }) old.entries s.entries in
    record {
      integers = ap length a.integers ∙ length-append old.integers.items (cond among [] (old.marked ∷ [])) ∙ omega (arith, one_each among old.marked (length old.integers.items) (length old.names) s.integers, size);
      few_columns = omega (arith, size, room among (length old.names) s.few_columns columns);
      few_entries = omega (arith, few, ap length a.entries, length-append old.entries more);
      entries = subst (AllByRecursion (IsEntryAmong (length new.names) (length rows))) (sym a.entries) (all-append (IsEntryAmong (length new.names) (length rows)) old.entries more kept added);
      in_order = subst (NeverFallFrom 0) (sym a.entries) (never-fall-more c old.entries more s.in_order below here);
      current = λ other i h. subst (λ ns. place ns other + 1 ≡ length ns) (sym a.names) (noted_place old.names name other (last_place (length rows) old name s p.whole) (noted_same new.current name other a.current h));
      once = subst (IsDistinct is_same_entry) (sym a.entries) (distinct-more is_same_entry same_entry_turned old.entries more s.once p.apart);
    }

-- RHS and RANGES.

pub record SoundGivens (rows : ℕ) (gs : List Given) : Type 0 where
  pub all : AllByRecursion (IsGivenAmong rows) gs
  pub once : IsDistinct is_same_row gs

pub givens-more_rows : (rows more : ℕ) (gs : List Given) → rows ≤ more → SoundGivens rows gs → SoundGivens more gs
givens-more_rows rows more gs l s = record {
  all = all-weaker (IsGivenAmong rows) (IsGivenAmong more) (λ g h. record { row = omega (arith, h.row, l); read = h.read }) gs s.all;
  once = s.once;
}

-- what passing tests say of the line's own
given_pass : (rows : List (List ℕ)) (before : List Given) (own : Bool) (fs : FieldList) → AllByRecursion IsShort fs → SoundGivens (length rows) before → first_failing (cond own (own_given_tests rows before (cond own (map (given_of rows) (pairs fs)) []) fs) []) ≡ None → SoundGivens (length rows) (before ++ cond own (map (given_of rows) (pairs fs)) [])
given_pass rows before false fs l s e = subst (SoundGivens (length rows)) (sym (append-nil before)) s
given_pass rows before true fs l s e =
    let more = map (given_of rows) (pairs fs) in
    let both = front-none (flat_map (pair_tests rows) (pairs fs)) ((repeats is_same_row before more, DoubleEntry) ∷ []) e in
    let apart = none_fails ((repeats is_same_row before more, DoubleEntry) ∷ []) both.1 in
    let tested = pairs_pass rows fs l both.0 in
    record {
      all = all-append (IsGivenAmong (length rows)) before more s.all
          (all-map (IsPair rows) (IsGivenAmong (length rows)) (given_of rows) (λ q h. record { row = place-inside (bytes_eq q.0) rows h.there; read = h.read }) (pairs fs) tested);
      once = distinct-more is_same_row (λ a b. equal-turned a.row b.row) before more s.once apart.0;
    }

short-behind_set : (fs : FieldList) → AllByRecursion IsShort fs → AllByRecursion IsShort (behind_set fs)
short-behind_set fs l = by (names_set fs)
  where
    by : (b : Bool) → AllByRecursion IsShort (cond b (drop 1 fs) fs)
    by true = short-drop 1 fs l
    by false = l

pub sound-given : (rows : List (List ℕ)) (fs : FieldList) (old new : GivenTable) → AllByRecursion IsShort fs → SoundGivens (length rows) old.givens → first_failing (given_tests_by rows old fs) ≡ None → GivenAdded rows fs old new → SoundGivens (length rows) new.givens
sound-given rows fs old new l s e a =
    let h = none_fails (given_tests_by rows old fs) e in
    subst (SoundGivens (length rows)) (sym a.givens)
    (given_pass rows old.givens (is_own (as_sets old.set) (set_of fs)) (behind_set fs) (short-behind_set fs l) s
    (first_failing-none (cond (is_own (as_sets old.set) (set_of fs)) (own_given_tests rows old.givens (given_on rows (as_sets old.set) fs) (behind_set fs)) []) h.1))

-- BOUNDS.

pub bounds-more_columns : (columns more : ℕ) (bs : List BoundLine) → columns ≤ more → AllByRecursion (IsBoundAmong columns) bs → AllByRecursion (IsBoundAmong more) bs
bounds-more_columns columns more bs l s =
    all-weaker (IsBoundAmong columns) (IsBoundAmong more) (λ b h. record { column = omega (arith, h.column, l); finite = h.finite }) bs s

finite_number : (d : Dec) (b : Bool) → is_infinite d ≡ b → IsWithinLimits d → ForSome (cond b None (Some d)) IsFinite
finite_number d true e w x h = absurd cc
finite_number d false e w x h = let same : d ≡ x = cc in subst IsFinite same (record { within = w; finite = e })

nothing_finite : ForSome None IsFinite
nothing_finite x e = absurd cc

bound_finite : (names : List (List ℕ)) (t : BoundType) (b : Bool) (fs : FieldList) → AllByRecursion IsShort fs → NoneFails (cond b (number_tests (field 1 fs) ++ (is_wrong_side t (number_of (field 1 fs)), Number) ∷ []) []) → ForSome (cond b (cond (is_infinite (number_of (field 1 fs))) None (Some (number_of (field 1 fs)))) None) IsFinite
bound_finite names t false fs l h = nothing_finite
bound_finite names t true fs l h = finite_number (number_of (field 1 fs)) (is_infinite (number_of (field 1 fs))) refl (number_read (field 1 fs) (short-field 1 fs l) h.0 h.1.0).within

bound_pass : (names sets : List (List ℕ)) (line : ℕ) (t : BoundType) (own : Bool) (fs : FieldList) → AllByRecursion IsShort fs → NoneFails (cond own (own_bound_tests names t fs) []) → AllByRecursion (IsBoundAmong (length names)) (cond own (record { line = line; kind = t; column = place names (field 0 fs); number = bound_number t (field 1 fs) } ∷ []) [])
bound_pass names sets line t false fs l h = tt
bound_pass names sets line t true fs l h = (
  record {
    column = place-inside (bytes_eq (field 0 fs)) names (not-none (is_among names (field 0 fs)) h.0);
    finite = bound_finite names t (has_number t) fs l h.1;
  },
  tt,
)

short-behind_bound_set : (t : BoundType) (fs : FieldList) → AllByRecursion IsShort fs → AllByRecursion IsShort (behind_bound_set t fs)
short-behind_bound_set t fs l = by (names_bound_set t fs)
  where
    by : (b : Bool) → AllByRecursion IsShort (cond b (drop 2 fs) (drop 1 fs))
    by true = short-drop 2 fs l
    by false = short-drop 1 fs l

by_kind : (names sets : List (List ℕ)) (line : ℕ) (o : Option BoundType) (fs : FieldList) → AllByRecursion IsShort fs → first_failing (bound_tests_of names sets o fs) ≡ None → AllByRecursion (IsBoundAmong (length names)) (bound_on names sets line o fs)
by_kind names sets line None fs l e = tt
by_kind names sets line (Some t) fs l e =
    let h = none_fails (bound_tests_of names sets (Some t) fs) e in
    bound_pass names sets line t (is_own sets (bound_set (Some t) fs)) (behind_bound_set t fs) (short-behind_bound_set t fs l) h.1

pub sound-bound : (names : List (List ℕ)) (line : ℕ) (fs : FieldList) (old new : BoundTable) → AllByRecursion IsShort fs → AllByRecursion (IsBoundAmong (length names)) old.lines.items → first_failing (bound_tests_by names old fs) ≡ None → BoundAdded names line fs old new → AllByRecursion (IsBoundAmong (length names)) new.lines.items
sound-bound names line fs old new l s e a =
    subst (AllByRecursion (IsBoundAmong (length names))) (sym a.lines)
    (all-append (IsBoundAmong (length names)) old.lines.items (bound_on names (as_sets old.set) line (bound_type (field 0 fs)) fs) s (by_kind names (as_sets old.set) line (bound_type (field 0 fs)) fs l e))
