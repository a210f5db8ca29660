-- Lemmas on the steps of reading a partition's text.
use Rattle.std.proofs.Common.{ℕ, ◌+◌, ◌-◌, ◌*◌, ◌<◌, ◌≤◌, ◌⊎◌, Bool, true, false, not, cond, List, [], ◌∷◌, ◌++◌, ◌≡◌, ◌∙◌, ap, sym, refl, subst, get_or, drop, map, min, arith, Option, Some, None, Contains, Bor, inl, inr, Result, Ok, Err}
use Rattle.std.specs.Prelude.{length, nat_le, bytes_eq}
use Rattle.std.specs.Char.{digit_value}
use Rattle.std.specs.List.{list_all}
use Rattle.std.specs.Str.Parse.{digits_value_after}
use Rattle.std.proofs.lemmas.Bool.{and_parts, leb-true, le-ltb, lt-ltb, cases_eq}
use Rattle.std.proofs.lemmas.List.{append-nil, append_assoc, drop_more, map-append}
use Rattle.std.specs.Map.{lookup}
use Rattle.std.specs.Prelude.{IsErrAnd, is_some, if◌then◌else◌, option_map, ◌||◌}
use Rattle.bz_lines.specs.FirstFault.{first_failing, first_fault}
use Rattle.bz_lines.specs.LineReader.{LineReader, to_come}
use Rattle.bz_lines.specs.LineReading.{BeginsRefused, NextLine, read_line}
use Rattle.bz_lines.specs.declared.reader.Line.{Line}
use Rattle.bz_lines.specs.NameLists.{is_among}
use Rattle.bz_lines.specs.NumberedLines.{NumberedLine}
use Rattle.bz_lines.proofs.FirstFaults.{first_fault-here, first_fault-next}
use Rattle.bz_part.specs.declared.faults.PartKind.{PartKind}
use Rattle.bz_part.specs.declared.faults.PartKind.TheVariants.{Double, Unknown, Value, NotText}
use Rattle.bz_part.specs.declared.faults.PartStop.{PartStop}
use Rattle.bz_part.specs.declared.faults.PartStop.TheVariants.{Fault, OutOfMemory}
use Rattle.bz_part.specs.PartitionLines.{column_tests, is_digit, name_on}
use Rattle.bz_part.specs.PartitionSteps.{ReadsColumn, ReadsColumns, fault_by_number, later_fault, later_tests, number_tests, said}

-- ---- numbers
-- what a digit is worth
digit_is : (b : ℕ) → is_digit b ≡ true → digit_value b ≡ b - 48
digit_is b h =
    let both = and_parts (nat_le 48 b) (nat_le b 57) h in
    let low : 48 ≤ b = leb-true 48 b both.0 in
    let high : b ≤ 57 = leb-true b 57 both.1 in
    rw (le-ltb b 48 low, lt-ltb b 58 (omega arith)) refl

-- values that are the same up to 257 stay so behind more digits
capped : (ds : List ℕ) (a b : ℕ) → min a 257 ≡ min b 257 → min (digits_value_after 10 a ds) 257 ≡ min (digits_value_after 10 b ds) 257
capped [] a b e = e
capped (d ∷ ds) a b e = capped ds (a * 10 + digit_value d) (b * 10 + digit_value d) (omega arith)

-- one more digit
pub value_next : (digits : List ℕ) (i value next whole : ℕ) → i < length digits → list_all is_digit (drop i digits) ≡ true
    → min (digits_value_after 10 value (drop i digits)) 257 ≡ whole → next ≡ min (value * 10 + (get_or digits i 0 - 48)) 257
    → (list_all is_digit (drop (i + 1) digits) ≡ true) × (min (digits_value_after 10 next (drop (i + 1) digits)) 257 ≡ whole)
value_next digits i value next whole l all same is =
    let more : drop i digits ≡ get_or digits i 0 ∷ drop (i + 1) digits = drop_more digits i 0 l in
    let both = and_parts (is_digit (get_or digits i 0)) (list_all is_digit (drop (i + 1) digits)) (ap (list_all is_digit) (sym more) ∙ all) in (
      both.1,
      capped (drop (i + 1) digits) next (value * 10 + digit_value (get_or digits i 0)) (omega (arith, digit_is (get_or digits i 0) both.0))
          ∙ ap (λ ds. min (digits_value_after 10 value ds) 257) (sym more) ∙ same,
    )

-- ---- blocks
-- one more block that has a column
pub gap_more : (part : List ℕ) (k : ℕ) → ((b : ℕ) → 0 < b → b < k → Contains part b) → Contains part k → (b : ℕ) → 0 < b → b < k + 1 → Contains part b
gap_more part k before here b some l = by (cases_eq b k)
  where
    by : (b ≡ k) ⊎ (b ≡ k → ⊥) → Contains part b
    by (inl e) = subst (λ n. Contains part n) (sym e) here
    by (inr ne) = before b some (omega arith)

-- ---- the numbers of columns
-- what a look-up in the table says of names and numbers
pub lookup-now : (name : List ℕ) (entries : List (Bor (List ℕ) × ℕ))
    → lookup (λ k. bytes_eq name k.now) entries ≡ lookup (bytes_eq name) (map {B = List ℕ × ℕ} (λ e. (e.0.now, e.1)) entries)
lookup-now name [] = refl
lookup-now name (e ∷ es) = ap (cond (bytes_eq name e.0.now) (Some e.1)) (lookup-now name es)

-- a name has a number where it is among the names
pub lookup_among : (name : List ℕ) (facts : List (List ℕ × ℕ)) → is_some (lookup (bytes_eq name) facts) ≡ is_among (map {B = List ℕ} (λ e. e.0) facts) name
lookup_among name [] = refl
lookup_among name (e ∷ es) = by (bytes_eq name e.0) (lookup_among name es)
  where
    by : (b : Bool) → is_some (lookup (bytes_eq name) es) ≡ is_among (map {B = List ℕ} (λ e. e.0) es) name
        → is_some (cond b (Some e.1) (lookup (bytes_eq name) es)) ≡ (b || is_among (map {B = List ℕ} (λ e. e.0) es) name)
    by true rest = refl
    by false rest = rest

-- ---- a later line
-- the tests of a line of a known name and digits
pub known_line : (known named : List (List ℕ)) (number : ℕ) (header : Bool) (fields : List (List ℕ)) (name digits : List ℕ) (there : Bool)
    → fields ≡ name ∷ digits ∷ [] → is_among known name ≡ true → is_among named name ≡ there
    → first_failing (column_tests known named (record { number = number; text = true; header = header; fields = fields }))
    ≡ (if there then Some Double else first_failing (number_tests Value digits))
known_line known named number header fields name digits there e k n =
    ap (λ fs. first_failing (column_tests known named (record { number = number; text = true; header = header; fields = fs }))) e
    ∙ ap (λ b. if not b then Some Unknown else (if is_among named name then Some Double else first_failing (number_tests Value digits))) k
    ∙ ap (λ b. if b then Some Double else first_failing (number_tests Value digits)) n

-- ---- the later lines
-- Some of the lines are passed, the table holds what they say, and the fault of the others is that of all.
pub record IsReadUpTo (known : List (List ℕ)) (all : List NumberedLine) (facts : List (List ℕ × ℕ)) (rest : List NumberedLine) : Type 0 where
  pub passed : List NumberedLine
  pub held : facts ≡ map said passed
  pub fault : first_fault (later_tests known) passed rest ≡ first_fault (later_tests known) [] all
  pub whole : passed ++ rest ≡ all

pub nothing_read : (known : List (List ℕ)) (all : List NumberedLine) → IsReadUpTo known all [] all
nothing_read known all = record { passed = []; held = refl; fault = refl; whole = refl }

names_said : (ls : List NumberedLine) → map {B = List ℕ} (λ (e : List ℕ × ℕ). e.0) (map said ls) ≡ map name_on ls
names_said [] = refl
names_said (l ∷ ls) = ap (λ names. name_on l ∷ names) (names_said ls)

tests_held : (known : List (List ℕ)) (facts : List (List ℕ × ℕ)) (passed : List NumberedLine) (l : NumberedLine) → facts ≡ map said passed
    → first_failing (later_tests known passed l) ≡ first_failing (column_tests known (map {B = List ℕ} (λ e. e.0) facts) l)
tests_held known facts passed l e =
    ap (λ names. first_failing (column_tests known names l)) (sym (names_said passed) ∙ ap (map (λ (e : List ℕ × ℕ). e.0)) (sym e))

pub read_next : (known : List (List ℕ)) (all : List NumberedLine) (facts : List (List ℕ × ℕ)) (l : NumberedLine) (rest : List NumberedLine)
    → IsReadUpTo known all facts (l ∷ rest) → first_failing (column_tests known (map {B = List ℕ} (λ e. e.0) facts) l) ≡ None
    → IsReadUpTo known all (facts ++ said l ∷ []) rest
read_next known all facts l rest r ok = record {
  passed = r.passed ++ l ∷ [];
  held = ap (λ fs. fs ++ said l ∷ []) r.held ∙ sym (map-append said r.passed (l ∷ []));
  fault = sym (first_fault-next (later_tests known) r.passed rest l (tests_held known facts r.passed l r.held ∙ ok)) ∙ r.fault;
  whole = append_assoc r.passed (l ∷ []) rest ∙ r.whole;
}

pub fault_here : (known : List (List ℕ)) (all : List NumberedLine) (facts : List (List ℕ × ℕ)) (l : NumberedLine) (rest : List NumberedLine) (kind : PartKind)
    → IsReadUpTo known all facts (l ∷ rest) → first_failing (column_tests known (map {B = List ℕ} (λ e. e.0) facts) l) ≡ Some kind
    → later_fault known [] all ≡ Some (l.number, kind)
fault_here known all facts l rest kind r e =
    ap (option_map fault_by_number) (sym r.fault ∙ first_fault-here (later_tests known) r.passed rest l kind (tests_held known facts r.passed l r.held ∙ e))

pub refused_here : (known : List (List ℕ)) (all : List NumberedLine) (facts : List (List ℕ × ℕ)) (ls others : List NumberedLine) (n : ℕ)
    → IsReadUpTo known all facts ls → BeginsRefused n others ls → later_fault known [] all ≡ Some (n, NotText)
refused_here known all facts [] others n r b = absurd b
refused_here known all facts (l ∷ ls) others n r b =
    fault_here known all facts l ls NotText r (ap (λ t. if not t then Some NotText else first_failing (drop 1 (column_tests known (map (λ e. e.0) facts) l))) b.1)
    ∙ ap (λ k. Some (k, NotText)) b.0

pub all_read : (known : List (List ℕ)) (all : List NumberedLine) (facts : List (List ℕ × ℕ)) → IsReadUpTo known all facts []
    → (later_fault known [] all ≡ None) × (facts ≡ map said all)
all_read known all facts r =
    (ap (option_map fault_by_number) (sym r.fault), r.held ∙ ap (map said) (sym (append-nil r.passed) ∙ r.whole))

pub none_from : {X : Type 0} (o : Option X) → is_some o ≡ false → o ≡ None
none_from None e = refl
none_from (Some x) e = absurd (cc)

-- one more line that the reader gives
pub line_read : (known : List (List ℕ)) (all : List NumberedLine) (facts after : List (List ℕ × ℕ)) (old new : LineReader) (line : Line) (u : Unit {0})
    → IsReadUpTo known all facts (to_come old) → NextLine old (Ok (Some line)) new → ReadsColumn known facts (read_line line) (Ok u) after
    → IsReadUpTo known all after (to_come new)
line_read known all facts after old new line u r next column =
    subst (λ fs. IsReadUpTo known all fs (to_come new)) (sym column.1)
    (read_next known all facts (read_line line) (to_come new) (subst (IsReadUpTo known all facts) next.0 r) column.0)

-- a line that the reader gives and that fails
pub line_fails : (known : List (List ℕ)) (all : List NumberedLine) (facts after : List (List ℕ × ℕ)) (old new : LineReader) (line : Line) (stop : PartStop)
    (r : Result (List (List ℕ × ℕ)) PartStop) → IsErrAnd r (λ e. e ≡ stop)
    → IsReadUpTo known all facts (to_come old) → NextLine old (Ok (Some line)) new → ReadsColumn known facts (read_line line) (Err stop) after
    → ReadsColumns known all r
line_fails known all facts after old new line stop (Ok x) is u next column = absurd is
line_fails known all facts after old new line (Fault f) (Err OutOfMemory) is u next column = tt
line_fails known all facts after old new line OutOfMemory (Err OutOfMemory) is u next column = tt
line_fails known all facts after old new line OutOfMemory (Err (Fault g)) is u next column = absurd (cc)
line_fails known all facts after old new line (Fault f) (Err (Fault g)) is u next column =
    let same : g ≡ f = cc in
    fault_here known all facts (read_line line) (to_come new) f.kind (subst (IsReadUpTo known all facts) next.0 u) column.0
    ∙ ap (λ n. Some (n, f.kind)) (sym column.1) ∙ ap (λ h. Some (h.line, h.kind)) (sym same)
