-- The rows and the objective of a model, one by one.
use Rattle.std.proofs.Common.{ℕ, suc, ◌<◌, ◌≤◌, ◌+◌, ◌≡◌, refl, inl, sym, ap, ◌∙◌, subst, arith, true≢false, is_some, lt-ltb, Bool, true, false, not, ◌||◌, cond, if◌then◌else◌, List, [], ◌∷◌, ◌++◌, map, filter, take, drop, get_or, eqb-true, eq-eqb, Option, Some, None}
use Rattle.std.specs.Prelude.{length, find, slice_get, ◌==◌, ◌&&◌, Result, IfOk}
use Rattle.std.specs.List.{AllByRecursion, AllZip, IsDistinct, enumerate_from, list_any, position, position_or_len}
use Rattle.std.specs.Option.{option_map, option_to_list, unwrap_or}
use Rattle.std.proofs.Math.IntN.{neg_ℤ}
use Rattle.std.proofs.Math.Seq.{take-length}
use Rattle.std.proofs.lemmas.Bool.{eqb-false}
use Rattle.std.proofs.lemmas.List.{append-nil, get_or_default, length-map, map-append, take_more}
use Rattle.std.proofs.lemmas.List.Elements.{filter-append}
use Rattle.std.proofs.lemmas.List.FromFn.{length-enumerate_from}
use Rattle.std.proofs.lemmas.Map.Keys.{IsDistinct-head, IsDistinct-tail}
use Rattle.bz_lines.specs.FirstFault.{IsFirstFailing, NoneFails}
use Rattle.bz_model.specs.declared.Row.{Row}
use Rattle.bz_num.specs.declared.Dec.{Dec}
use Rattle.bz_num.specs.Decimals.{IsWithinLimits}
use Rattle.bz_facts.specs.declared.Entry.{Entry}
use Rattle.bz_facts.specs.declared.Facts.{Facts}
use Rattle.bz_facts.specs.declared.Given.{Given}
use Rattle.bz_facts.specs.declared.MpsKind.TheVariants.{TooWide}
use Rattle.bz_facts.specs.declared.RowType.{RowType}
use Rattle.bz_facts.specs.LineTests.{is_free, is_same_entry}
use Rattle.bz_facts.specs.SoundFacts.{AreSound, IsEntryAmong, IsGivenAmong, IsReadDecimal, NeverFallFrom}
use Rattle.bz_facts.specs.Spellings.{zero_dec}
use Rattle.bz_mps.specs.FactModel.{IsRowOf, IsRowWith, end_test_at_row, fault}
use Rattle.bz_mps.specs.RowsMade.{AreRowFacts, IsObjectiveWith, RiseFrom, Unless}
use Rattle.bz_mps.specs.declared.rows_made.Objective.{Objective}
use Rattle.bz_mps.specs.ByPlace.{AreByPlace}
use Rattle.bz_num.specs.Fold.{is_wide}
use Rattle.bz_mps.specs.ScaledRows.{Scaled, constraints, decimals_of, entries_at, given_at, has_wide_term, is_wide_objective, is_wide_row, most_digits, objective_entries, objective_side, right_side_at, row_at, scaled, scaled_row, terms_by}
use Rattle.bz_mps.proofs.ColumnSteps.{all_kept, all_weaker, zip_push}
use Rattle.bz_mps.proofs.TestLists.{none_append, numbered_at, split_at}

-- The first row of kind N.

pub any_inside : {X : Type 0} (p : X → Bool) (xs : List X) → list_any p xs ≡ true → position_or_len p xs < length xs
any_inside p [] a = absurd (true≢false (sym a))
any_inside p (x ∷ xs) a = by (p x) a (any_inside p xs)
  where
    by : (b : Bool) → (b || list_any p xs) ≡ true → (list_any p xs ≡ true → position_or_len p xs < length xs) → cond (not b) (1 + position_or_len p xs) 0 < length (x ∷ xs)
    by true a more = omega arith
    by false a more = let h = more a in omega arith

pub some_place : {X : Type 0} (p : X → Bool) (xs : List X) → position p xs ≡ None → list_any p xs ≡ true → ⊥
some_place p xs e a = none_some (position_or_len p xs) (lt-ltb _ _ (any_inside p xs a)) e
  where
    none_some : (n : ℕ) {b : Bool} → b ≡ true → cond b (Some n) None ≡ None → ⊥
    none_some n {b} t e = true≢false (ap is_some (subst (λ b. cond b (Some n) None ≡ None) t e))

-- The number that is given of a row.

find_first : {X : Type 0} (p : X → Bool) (xs : List X) → find p xs ≡ slice_get (filter p xs) 0
find_first p [] = refl
find_first {X} p (x ∷ xs) = by (p x) (find_first p xs)
  where
    by : (b : Bool) → find p xs ≡ slice_get (filter p xs) 0 → cond b (Some x) (find p xs) ≡ slice_get (cond b (x ∷ filter p xs) (filter p xs)) 0
    by true rest = refl
    by false rest = rest

pub given_is : (gs here : List Given) (r : ℕ) → here ≡ filter (λ g. g.row == r) gs → option_map (λ g. g.number) (slice_get here 0) ≡ given_at r gs
given_is gs here r e = ap (λ gs. option_map (λ g. g.number) (slice_get gs 0)) e ∙ ap (option_map (λ g. g.number)) (sym (find_first (λ g. g.row == r) gs))

-- The columns of a row's entries rise.

fall_lower : (low high : ℕ) (es : List Entry) → low ≤ high → NeverFallFrom high es → NeverFallFrom low es
fall_lower low high [] h n = tt
fall_lower low high (e ∷ es) h n = (let k = n.0 in omega arith, n.1)

rise_above : (e : Entry) (es : List Entry) → NeverFallFrom e.column es → AllByRecursion (λ x. is_same_entry e x ≡ false) es → IsDistinct is_same_entry es → RiseFrom (suc e.column) (entries_at e.row es)
rise_above e [] n other d = tt
rise_above e (x ∷ xs) n other d = by (x.row == e.row) refl (rise_above x xs n.1 (IsDistinct-head is_same_entry x xs d) (IsDistinct-tail is_same_entry x xs d)) (rise_above e xs (fall_lower e.column x.column xs n.0 n.1) other.1 (IsDistinct-tail is_same_entry x xs d))
  where
    above : x.row ≡ e.row → suc e.column ≤ x.column
    above same = which (e.column == x.column) refl
      where
        which : (b : Bool) → (e.column == x.column) ≡ b → suc e.column ≤ x.column
        which true s = absurd (true≢false (sym (both (e.column == x.column) (e.row == x.row) s (rw same (eq-eqb e.row e.row refl))) ∙ other.0))
          where
            both : (a b : Bool) → a ≡ true → b ≡ true → (a && b) ≡ true
            both true true h k = refl
            both true false h k = absurd cc
            both false b h k = absurd cc
        which false s = let different = eqb-false e.column x.column s in let low = n.0 in omega (arith, different)

    by : (b : Bool) → (x.row == e.row) ≡ b → RiseFrom (suc x.column) (entries_at x.row xs) → RiseFrom (suc e.column) (entries_at e.row xs) → RiseFrom (suc e.column) (cond b (x ∷ entries_at e.row xs) (entries_at e.row xs))
    by true s behind past = (above (eqb-true x.row e.row s), subst (λ r. RiseFrom (suc x.column) (entries_at r xs)) (eqb-true x.row e.row s) behind)
    by false s behind past = past

rise_at : (low r : ℕ) (es : List Entry) → NeverFallFrom low es → IsDistinct is_same_entry es → RiseFrom low (entries_at r es)
rise_at low r [] n d = tt
rise_at low r (x ∷ xs) n d = by (x.row == r) refl (rise_above x xs n.1 (IsDistinct-head is_same_entry x xs d) (IsDistinct-tail is_same_entry x xs d)) (rise_at low r xs (fall_lower low x.column xs n.0 n.1) (IsDistinct-tail is_same_entry x xs d))
  where
    by : (b : Bool) → (x.row == r) ≡ b → RiseFrom (suc x.column) (entries_at x.row xs) → RiseFrom low (entries_at r xs) → RiseFrom low (cond b (x ∷ entries_at r xs) (entries_at r xs))
    by true s behind past = (n.0, subst (λ r. RiseFrom (suc x.column) (entries_at r xs)) (eqb-true x.row r s) behind)
    by false s behind past = past

-- What sound facts say of a row.

zero_within : IsWithinLimits zero_dec
zero_within = record { mant = omega arith; exp = omega arith }

zero_read : IsReadDecimal zero_dec
zero_read = record { within = zero_within; ends = inl refl }

found_read : (r count : ℕ) (gs : List Given) → AllByRecursion (IsGivenAmong count) gs → AllByRecursion IsReadDecimal (option_to_list (given_at r gs))
found_read r count [] h = tt
found_read r count (g ∷ gs) h = by (g.row == r) (found_read r count gs h.1)
  where
    by : (b : Bool) → AllByRecursion IsReadDecimal (option_to_list (given_at r gs)) → AllByRecursion IsReadDecimal (option_to_list (option_map (λ g. g.number) (cond b (Some g) (find (λ g. g.row == r) gs))))
    by true rest = (h.0.read, tt)
    by false rest = rest

or_zero_read : (o : Option Dec) → AllByRecursion IsReadDecimal (option_to_list o) → IsReadDecimal (unwrap_or o zero_dec)
or_zero_read None h = zero_read
or_zero_read (Some d) h = h.0

-- what holds of each number of a row holds of its decimals
pub all_decimals : (P : Dec → Type 0) (entries : List Entry) (rhs : Dec) (range : Option Dec) → AllByRecursion (λ e. P e.number) entries → P rhs → AllByRecursion P (option_to_list range) → AllByRecursion P (decimals_of entries rhs range)
all_decimals P [] rhs range h k g = (k, g)
all_decimals P (e ∷ es) rhs range h k g = (h.0, all_decimals P es rhs range h.1 k g)

entries_read : (f : Facts) (r : ℕ) → AreSound f → AllByRecursion (λ e. IsReadDecimal e.number) (entries_at r f.entries)
entries_read f r s =
    all_kept (λ e. IsReadDecimal e.number) (λ e. e.row == r) f.entries (all_weaker (IsEntryAmong (length f.columns) (length f.row_names)) (λ e. IsReadDecimal e.number) (λ e h. h.read) f.entries s.entries)

side_read : (f : Facts) (r : ℕ) → AreSound f → IsReadDecimal (right_side_at f r)
side_read f r s = or_zero_read (given_at r f.right_sides) (found_read r (length f.row_names) f.right_sides s.right_sides)

-- the numbers of a row, and those of the objective, are decimals of the text
pub row_read : (f : Facts) (r : ℕ) → AreSound f → AllByRecursion IsReadDecimal (decimals_of (entries_at r f.entries) (right_side_at f r) (given_at r f.ranges))
row_read f r s =
    all_decimals IsReadDecimal (entries_at r f.entries) (right_side_at f r) (given_at r f.ranges) (entries_read f r s) (side_read f r s) (found_read r (length f.row_names) f.ranges s.ranges)

pub objective_read : (f : Facts) (r : ℕ) → AreSound f → AllByRecursion IsReadDecimal (decimals_of (entries_at r f.entries) (right_side_at f r) None)
objective_read f r s =
    all_decimals IsReadDecimal (entries_at r f.entries) (right_side_at f r) None (entries_read f r s) (side_read f r s) tt

pub row_facts_sound : (f : Facts) (r : ℕ) → AreSound f → AreRowFacts (entries_at r f.entries) (right_side_at f r) (given_at r f.ranges)
row_facts_sound f r s = record {
  within = all_weaker IsReadDecimal IsWithinLimits (λ d h. h.within) (decimals_of (entries_at r f.entries) (right_side_at f r) (given_at r f.ranges)) (row_read f r s);
  rising = rise_at 0 r f.entries s.in_order s.entries_once;
}

pub objective_facts_sound : (f : Facts) (r : ℕ) → AreSound f → AreRowFacts (entries_at r f.entries) (right_side_at f r) None
objective_facts_sound f r s = record {
  within = all_weaker IsReadDecimal IsWithinLimits (λ d h. h.within) (decimals_of (entries_at r f.entries) (right_side_at f r) None) (objective_read f r s);
  rising = rise_at 0 r f.entries s.in_order s.entries_once;
}

-- the row at a place is that of its parts
pub row_is : {E : Type 0} (f : Facts) (place : ℕ) (kind : RowType) (name : List ℕ) (entries : List Entry) (rhs : Dec) (range : Option Dec) (r : Result (Option Row) E)
    → name ≡ get_or f.row_names place [] → entries ≡ entries_at place f.entries → rhs ≡ right_side_at f place → range ≡ given_at place f.ranges
    → IfOk r (Unless (is_wide_row (scaled_row kind entries rhs range)) (IsRowWith name (scaled_row kind entries rhs range)))
    → IfOk r (Unless (is_wide_row (row_at f (place, kind))) (IsRowOf f (place, kind)))
row_is f place kind name entries rhs range r n e s g h =
    subst (λ (t : List ℕ). IfOk r (Unless (is_wide_row (row_at f (place, kind))) (IsRowWith t (row_at f (place, kind))))) n
    (subst (λ (z : Scaled). IfOk r (Unless (is_wide_row z) (IsRowWith name z))) (ap (λ es. scaled_row kind es rhs range) e ∙ ap (λ d. scaled_row kind (entries_at place f.entries) d range) s ∙ ap (λ o. scaled_row kind (entries_at place f.entries) (right_side_at f place) o) g) h)

-- One more row.

next_kept : (types : List RowType) (i : ℕ) (t : RowType) → i < length types → t ≡ get_or types i t
    → filter (λ r. not (is_free r.1)) (take (i + 1) (enumerate_from 0 types)) ≡ filter (λ r. not (is_free r.1)) (take i (enumerate_from 0 types)) ++ (if not (is_free t) then (i, t) ∷ [] else [])
next_kept types i t h e =
    ap (filter (λ r. not (is_free r.1))) (take_more (enumerate_from 0 types) i (0, t) (subst (λ n. i < n) (sym (length-enumerate_from 0 types)) h) ∙ ap (λ x. take i (enumerate_from 0 types) ++ x ∷ []) (numbered_at types i t h e))
    ∙ filter-append (λ r. not (is_free r.1)) (take i (enumerate_from 0 types)) ((i, t) ∷ [])

pub next_skipped : (types : List RowType) (i : ℕ) (t : RowType) → i < length types → t ≡ get_or types i t → is_free t ≡ true
    → filter (λ r. not (is_free r.1)) (take (i + 1) (enumerate_from 0 types)) ≡ filter (λ r. not (is_free r.1)) (take i (enumerate_from 0 types))
next_skipped types i t h e free =
    next_kept types i t h e ∙ ap (λ (b : Bool). filter (λ r. not (is_free r.1)) (take i (enumerate_from 0 types)) ++ (if not b then (i, t) ∷ [] else [])) free ∙ append-nil _

next_added : (types : List RowType) (i : ℕ) (t : RowType) → i < length types → t ≡ get_or types i t → is_free t ≡ false
    → filter (λ r. not (is_free r.1)) (take (i + 1) (enumerate_from 0 types)) ≡ filter (λ r. not (is_free r.1)) (take i (enumerate_from 0 types)) ++ (i, t) ∷ []
next_added types i t h e free =
    next_kept types i t h e ∙ ap (λ (b : Bool). filter (λ r. not (is_free r.1)) (take i (enumerate_from 0 types)) ++ (if not b then (i, t) ∷ [] else [])) free

pub row_added : (f : Facts) (i : ℕ) (t : RowType) (old new : List Row) (row : Row) → i < length f.row_types → t ≡ get_or f.row_types i t → is_free t ≡ false
    → AllZip (IsRowOf f) (filter (λ r. not (is_free r.1)) (take i (enumerate_from 0 f.row_types))) old → IsRowOf f (i, t) row → new ≡ old ++ row ∷ []
    → AllZip (IsRowOf f) (filter (λ r. not (is_free r.1)) (take (i + 1) (enumerate_from 0 f.row_types))) new
row_added f i t old new row h e free rows is push =
    subst (λ rs. AllZip (IsRowOf f) (filter (λ r. not (is_free r.1)) (take (i + 1) (enumerate_from 0 f.row_types))) rs) (sym push)
    (subst (λ ns. AllZip (IsRowOf f) ns (old ++ row ∷ [])) (sym (next_added f.row_types i t h e free))
    (zip_push (IsRowOf f) (filter (λ r. not (is_free r.1)) (take i (enumerate_from 0 f.row_types))) old (i, t) row rows is))

pub row_passes : (f : Facts) (i : ℕ) (t : RowType) → i < length f.row_types → t ≡ get_or f.row_types i t → is_free t ≡ false
    → NoneFails (map (end_test_at_row f) (filter (λ r. not (is_free r.1)) (take i (enumerate_from 0 f.row_types)))) → is_wide_row (row_at f (i, t)) ≡ false
    → NoneFails (map (end_test_at_row f) (filter (λ r. not (is_free r.1)) (take (i + 1) (enumerate_from 0 f.row_types))))
row_passes f i t h e free passed narrow =
    subst NoneFails (sym (ap (map (end_test_at_row f)) (next_added f.row_types i t h e free) ∙ map-append (end_test_at_row f) (filter (λ r. not (is_free r.1)) (take i (enumerate_from 0 f.row_types))) ((i, t) ∷ [])))
    (none_append (map (end_test_at_row f) (filter (λ r. not (is_free r.1)) (take i (enumerate_from 0 f.row_types)))) (end_test_at_row f (i, t) ∷ []) passed (narrow, tt))

-- a row that is wide is the first that fails
pub row_stops : (f : Facts) (i : ℕ) (t : RowType) → i < length f.row_types → t ≡ get_or f.row_types i t → is_free t ≡ false
    → NoneFails (map (end_test_at_row f) (filter (λ r. not (is_free r.1)) (take i (enumerate_from 0 f.row_types)))) → is_wide_row (row_at f (i, t)) ≡ true
    → IsFirstFailing (map (end_test_at_row f) (constraints f.row_types)) (fault f.end TooWide)
row_stops f i t h e free passed wide = record {
  before = map (end_test_at_row f) (filter (λ r. not (is_free r.1)) (take i (enumerate_from 0 f.row_types)));
  behind = map (end_test_at_row f) (filter (λ r. not (is_free r.1)) (drop (i + 1) (enumerate_from 0 f.row_types)));
  are = ap (map (end_test_at_row f)) parts ∙ map-append (end_test_at_row f) (filter (λ r. not (is_free r.1)) (take i (enumerate_from 0 f.row_types))) ((i, t) ∷ filter (λ r. not (is_free r.1)) (drop (i + 1) (enumerate_from 0 f.row_types)))
      ∙ ap (λ (b : Bool). map (end_test_at_row f) (filter (λ r. not (is_free r.1)) (take i (enumerate_from 0 f.row_types))) ++ (b, fault f.end TooWide) ∷ map (end_test_at_row f) (filter (λ r. not (is_free r.1)) (drop (i + 1) (enumerate_from 0 f.row_types)))) wide;
  passed = passed;
}
  where
    parts : constraints f.row_types ≡ filter (λ r. not (is_free r.1)) (take i (enumerate_from 0 f.row_types)) ++ (i, t) ∷ filter (λ r. not (is_free r.1)) (drop (i + 1) (enumerate_from 0 f.row_types))
    parts =
        ap (filter (λ r. not (is_free r.1))) (split_at (enumerate_from 0 f.row_types) i (0, t) (subst (λ n. i < n) (sym (length-enumerate_from 0 f.row_types)) h)
        ∙ ap (λ x. take i (enumerate_from 0 f.row_types) ++ x ∷ drop (i + 1) (enumerate_from 0 f.row_types)) (numbered_at f.row_types i t h e))
        ∙ filter-append (λ r. not (is_free r.1)) (take i (enumerate_from 0 f.row_types)) ((i, t) ∷ drop (i + 1) (enumerate_from 0 f.row_types))
        ∙ ap (λ (b : Bool). filter (λ r. not (is_free r.1)) (take i (enumerate_from 0 f.row_types)) ++ cond (not b) ((i, t) ∷ filter (λ r. not (is_free r.1)) (drop (i + 1) (enumerate_from 0 f.row_types))) (filter (λ r. not (is_free r.1)) (drop (i + 1) (enumerate_from 0 f.row_types)))) free

pub all_rows : (types : List RowType) (i : ℕ) → i ≡ length types → filter (λ r. not (is_free r.1)) (take i (enumerate_from 0 types)) ≡ constraints types
all_rows types i e =
    ap (filter (λ r. not (is_free r.1))) (ap (λ n. take n (enumerate_from 0 types)) (e ∙ sym (length-enumerate_from 0 types)) ∙ take-length (enumerate_from 0 types))

-- a kind that is read
pub kind_read : (kinds types : List RowType) (i : ℕ) (d : RowType) → kinds ≡ types → i < length types → get_or kinds i d ≡ get_or types i (get_or kinds i d)
kind_read kinds types i d e h = ap (λ ks. get_or ks i d) e ∙ get_or_default types i d (get_or kinds i d) h

-- an answer that is there, and one that is not
pub unless_some : {X : Type 0} (b : Bool) (P : X → Type 0) (o : Option X) (x : X) → o ≡ Some x → Unless b P o → (b ≡ false) × P x
unless_some b P o x e h = subst (Unless b P) e h

pub unless_none : {X : Type 0} (b : Bool) (P : X → Type 0) (o : Option X) → o ≡ None → Unless b P o → b ≡ true
unless_none b P o e h = subst (Unless b P) e h

-- The objective.

-- the number of lists is that of the rows
pub inside_lists : {X V : Type 0} (place : X → ℕ) (items : V → List X) (count : ℕ) (xs : List X) (vs : List V) (i : ℕ) → AreByPlace place count xs (map items vs) → i < count → i < length vs
inside_lists place items count xs vs i t h = subst (λ n. i < n) (sym (sym (length-map vs items) ∙ t.many)) h

pub objective_is : (f : Facts) (entries : List Entry) (rhs : Dec) (o : Objective) → entries ≡ objective_entries f → rhs ≡ objective_side f → IsObjectiveWith entries rhs o → IsObjectiveWith (objective_entries f) (objective_side f) o
objective_is f entries rhs o e s h = subst (λ (d : Dec). IsObjectiveWith (objective_entries f) d o) s (subst (λ (es : List Entry). IsObjectiveWith es rhs o) e h)

pub wide_objective_is : (f : Facts) (entries : List Entry) (rhs : Dec) (b : Bool) → entries ≡ objective_entries f → rhs ≡ objective_side f
    → (has_wide_term (terms_by (most_digits (decimals_of entries rhs None)) entries) || is_wide (neg_ℤ (scaled (most_digits (decimals_of entries rhs None)) rhs))) ≡ b → is_wide_objective f ≡ b
wide_objective_is f entries rhs b e s h =
    subst (λ (d : Dec). (has_wide_term (terms_by (most_digits (decimals_of (objective_entries f) d None)) (objective_entries f)) || is_wide (neg_ℤ (scaled (most_digits (decimals_of (objective_entries f) d None)) d))) ≡ b) s
    (subst (λ (es : List Entry). (has_wide_term (terms_by (most_digits (decimals_of es rhs None)) es) || is_wide (neg_ℤ (scaled (most_digits (decimals_of es rhs None)) rhs))) ≡ b) e h)
