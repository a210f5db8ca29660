-- What the steps give of a whole text.
use Rattle.std.proofs.Common.{ℕ, ◌<◌, ◌≤◌, ◌⊎◌, inl, inr, Bool, true, false, not, cond, List, [], ◌∷◌, ◌++◌, ◌≡◌, ◌∙◌, ap, sym, refl, subst, map, drop, arith, Option, Some, None, Result, Ok, Err, Contains}
use Rattle.std.specs.Prelude.{◌==◌, IsErrAnd, if◌then◌else◌, bytes_eq, find, length, nat_lt, option_map, unwrap_or}
use Rattle.std.specs.List.{AllByRecursion}
use Rattle.std.specs.Map.{lookup}
use Rattle.std.proofs.lemmas.Bool.{cases_eq, ltb-true, ltb-false}
use Rattle.std.proofs.lemmas.List.{length-map}
use Rattle.std.proofs.lemmas.List.Elements.{Contains-get_or, Contains-append_right}
use Rattle.bz_lines.specs.FirstFault.{NoLineFails, failing_or, first_failing, first_fault}
use Rattle.bz_lines.specs.NameLists.{is_among}
use Rattle.bz_lines.specs.NumberedLines.{NumberedLine, numbered_lines}
use Rattle.bz_lines.proofs.FirstFaults.{first_fault-here, first_fault-next, no_line_fails, some_line_fails}
use Rattle.bz_model.specs.declared.records.Column.{Column}
use Rattle.bz_model.specs.declared.records.Model.{Model}
use Rattle.bz_model.specs.Parting.{blocks_of}
use Rattle.bz_model.specs.Strict.{IsPartition}
use Rattle.bz_part.specs.declared.faults.PartKind.{PartKind}
use Rattle.bz_part.specs.declared.faults.PartKind.TheVariants.{Fields, Gap, NotText, Unknown}
use Rattle.bz_part.specs.declared.faults.PartStop.{PartStop}
use Rattle.bz_part.specs.declared.faults.PartStop.TheVariants.{Fault, OutOfMemory}
use Rattle.bz_part.specs.Partition.{Assigns, IsGap, PartOf, ReadsPartition, names_of, part_by}
use Rattle.bz_part.specs.PartitionLines.{column_tests, head_tests, name_on, number_on, part_tests}
use Rattle.bz_part.specs.PartitionSteps.{ReadsColumns, ReadsHead, fault_by_number, later_tests, said}

-- ---- the fault of all lines, by that of the first and that of the later ones
-- names that are the same ones
abbrev pub SameNames : List (List ℕ) → List (List ℕ) → Type 0
SameNames known names = (name : List ℕ) → is_among known name ≡ is_among names name

same_tests : (known names named : List (List ℕ)) (l : NumberedLine) → SameNames known names
    → first_failing (column_tests names named l) ≡ first_failing (column_tests known named l)
same_tests known names named l same =
    ap (λ b. first_failing ((not l.text, NotText) ∷ (not (length l.fields == 2), Fields) ∷ (not b, Unknown) ∷ drop 3 (column_tests names named l))) (sym (same (name_on l)))

later_is : (known names : List (List ℕ)) → SameNames known names → (first : NumberedLine) (seen ls : List NumberedLine)
    → first_fault (part_tests names) (first ∷ seen) ls ≡ first_fault (later_tests known) seen ls
later_is known names same first seen [] = refl
later_is known names same first seen (l ∷ ls) =
    ap (λ o. failing_or l o (first_fault (part_tests names) (first ∷ (seen ++ l ∷ [])) ls)) (same_tests known names (map name_on seen) l same)
    ∙ ap (failing_or l (first_failing (later_tests known seen l))) (later_is known names same first (seen ++ l ∷ []) ls)

behind_head : (known names : List (List ℕ)) → SameNames known names → (first : NumberedLine) (others : List NumberedLine) → first_failing (head_tests first) ≡ None
    → first_fault (part_tests names) [] (first ∷ others) ≡ first_fault (later_tests known) [] others
behind_head known names same first others ok =
    first_fault-next (part_tests names) [] others first ok ∙ later_is known names same first [] others

-- ---- what a fault of a step is of the text
-- the later line that fails
record IsFailing (tests : List NumberedLine → NumberedLine → List (Bool × PartKind)) (ls : List NumberedLine) (number : ℕ) (kind : PartKind) : Type 0 where
  line : NumberedLine
  fault : first_fault tests [] ls ≡ Some (line, kind)
  at : number ≡ line.number

failing_at : (tests : List NumberedLine → NumberedLine → List (Bool × PartKind)) (ls : List NumberedLine) (number : ℕ) (kind : PartKind)
    → option_map fault_by_number (first_fault tests [] ls) ≡ Some (number, kind) → IsFailing tests ls number kind
failing_at tests ls number kind e = by (first_fault tests [] ls) refl e
  where
    by : (o : Option (NumberedLine × PartKind)) → first_fault tests [] ls ≡ o → option_map fault_by_number o ≡ Some (number, kind) → IsFailing tests ls number kind
    by None f e = absurd (cc)
    by (Some p) f e =
        let pair : (p.0.number, p.1) ≡ (number, kind) = cc in
        let same : p.0.number ≡ number = ap (λ (q : ℕ × PartKind). q.0) pair in
        let kinds : p.1 ≡ kind = ap (λ (q : ℕ × PartKind). q.1) pair in
        record { line = p.0; fault = f ∙ ap (λ k. Some (p.0, k)) kinds; at = sym same }

pub head_stops : {V : Type 0} (view : V → List ℕ) (text : List ℕ) (m : Model) (ls others : List NumberedLine) (stop : PartStop) (r : Result V PartStop)
    → numbered_lines text ≡ ls → IsErrAnd r (λ e. e ≡ stop) → ReadsHead ls (Err stop) others → ReadsPartition view text m r
head_stops view text m ls others stop (Ok v) e is h = absurd is
head_stops view text m ls others stop (Err OutOfMemory) e is h = tt
head_stops view text m ls others OutOfMemory (Err (Fault f)) e is h = absurd (cc)
head_stops view text m [] others (Fault g) (Err (Fault f)) e is h =
    let same : f ≡ g = cc in
    inr (inl (record { lines = e; at = ap (λ x. x.line) same ∙ h.0; is = ap (λ x. x.kind) same ∙ h.1 }))
head_stops view text m (l ∷ ls) others (Fault g) (Err (Fault f)) e is h =
    let same : f ≡ g = cc in
    inl (record {
      line = l;
      fault = some_line_fails (part_tests (names_of m)) [] (numbered_lines text) l f.kind
          (ap (first_fault (part_tests (names_of m)) []) e
          ∙ first_fault-here (part_tests (names_of m)) [] ls l f.kind (h.0 ∙ ap (λ x. Some x.kind) (sym same)));
      at = ap (λ x. x.line) same ∙ h.1;
    })

pub columns_stop : {V : Type 0} (view : V → List ℕ) (text : List ℕ) (m : Model) (known : List (List ℕ)) (ls others : List NumberedLine) (n : ℕ) (stop : PartStop) (r : Result V PartStop)
    → numbered_lines text ≡ ls → SameNames known (names_of m) → IsErrAnd r (λ e. e ≡ stop) → ReadsHead ls (Ok n) others → ReadsColumns known others (Err stop)
    → ReadsPartition view text m r
columns_stop view text m known ls others n stop (Ok v) e same is h k = absurd is
columns_stop view text m known ls others n stop (Err OutOfMemory) e same is h k = tt
columns_stop view text m known ls others n OutOfMemory (Err (Fault f)) e same is h k = absurd (cc)
columns_stop view text m known [] others n (Fault g) (Err (Fault f)) e same is h k = absurd h
columns_stop view text m known (l ∷ ls) others n (Fault g) (Err (Fault f)) e same is h k =
    let equal : f ≡ g = cc in
    let failing : IsFailing (later_tests known) others f.line f.kind = failing_at (later_tests known) others f.line f.kind (k ∙ ap (λ x. Some (x.line, x.kind)) (sym equal)) in
    inl (record {
      line = failing.line;
      fault = some_line_fails (part_tests (names_of m)) [] (numbered_lines text) failing.line f.kind
          (ap (first_fault (part_tests (names_of m)) []) (e ∙ ap (λ x. l ∷ x) h.2) ∙ behind_head known (names_of m) same l others h.0 ∙ failing.fault);
      at = failing.at;
    })

-- ---- the partition that the lines give
part_same : (first : NumberedLine) (others : List NumberedLine) (name : List ℕ)
    → unwrap_or (lookup (bytes_eq name) (map said others)) (number_on first) ≡ part_by first others name
part_same first [] name = refl
part_same first (l ∷ ls) name = by (bytes_eq name (name_on l)) (part_same first ls name)
  where
    by : (b : Bool) → unwrap_or (lookup (bytes_eq name) (map said ls)) (number_on first) ≡ part_by first ls name
        → unwrap_or (cond b (Some (number_on l)) (lookup (bytes_eq name) (map said ls))) (number_on first)
        ≡ number_on (unwrap_or (cond b (Some l) (find (λ line. bytes_eq name (name_on line)) ls)) first)
    by true e = refl
    by false e = e

parts_same : (first : NumberedLine) (others : List NumberedLine) (columns : List Column)
    → map (λ c. unwrap_or (lookup (bytes_eq c.name) (map said others)) (number_on first)) columns ≡ map (λ c. part_by first others c.name) columns
parts_same first others [] = refl
parts_same first others (c ∷ cs) =
    ap (λ n. n ∷ map (λ c. unwrap_or (lookup (bytes_eq c.name) (map said others)) (number_on first)) cs) (part_same first others c.name)
    ∙ ap (λ ns. part_by first others c.name ∷ ns) (parts_same first others cs)

no_fault : (o : Option (NumberedLine × PartKind)) → option_map fault_by_number o ≡ None → o ≡ None
no_fault None e = refl
no_fault (Some p) e = absurd (cc)

pub assigned : (text : List ℕ) (m : Model) (known : List (List ℕ)) (ls others : List NumberedLine) (n : ℕ) (facts : List (List ℕ × ℕ)) (columns : List Column) (part : List ℕ)
    → numbered_lines text ≡ ls → SameNames known (names_of m) → ReadsHead ls (Ok n) others → ReadsColumns known others (Ok facts) → columns ≡ m.columns
    → part ≡ map (λ c. unwrap_or (lookup (bytes_eq c.name) facts) n) columns → Assigns text m part
assigned text m known [] others n facts columns part e same h k cs is = absurd h
assigned text m known (l ∷ ls) others n facts columns part e same h k cs is =
    let whole : numbered_lines text ≡ l ∷ others = e ∙ ap (λ x. l ∷ x) h.2 in
    record {
      first = l;
      others = others;
      lines = whole;
      passed = no_line_fails (part_tests (names_of m)) [] (numbered_lines text)
          (ap (first_fault (part_tests (names_of m)) []) whole ∙ behind_head known (names_of m) same l others h.0 ∙ no_fault _ k.0);
      parts = is
          ∙ ap (λ n. map (λ (c : Column). unwrap_or (lookup (bytes_eq c.name) facts) n) columns) h.1
          ∙ ap (λ fs. map (λ (c : Column). unwrap_or (lookup (bytes_eq c.name) fs) (number_on l)) columns) k.1
          ∙ ap (map (λ (c : Column). unwrap_or (lookup (bytes_eq c.name) (map said others)) (number_on l))) cs
          ∙ parts_same l others m.columns;
    }

pub gap_stops : {V : Type 0} (view : V → List ℕ) (text : List ℕ) (m : Model) (part : List ℕ) (block : ℕ) (stop : PartStop)
    → Assigns text m part → IsGap part block → stop ≡ Fault (record { line = 0; kind = Gap block }) → ReadsPartition {V = V} view text m (Err stop)
gap_stops view text m part block OutOfMemory a g e = absurd (cc)
gap_stops view text m part block (Fault f) a g e =
    let same : f ≡ record { line = 0; kind = Gap block } = cc in
    inr (inr (record { part = part; block = block; assigned = a; gap = g; at = ap (λ x. x.line) same; is = ap (λ x. x.kind) same }))

-- ---- it is a partition of the model
few_in : (first : NumberedLine) (seen ls : List NumberedLine) (names : List (List ℕ)) → NoLineFails (part_tests names) (first ∷ seen) ls → AllByRecursion (λ l. number_on l ≤ 256) ls
few_in first seen [] names h = tt
few_in first seen (l ∷ ls) names h = (ltb-false 256 (number_on l) h.0.1.1.1.1.1.0, few_in first (seen ++ l ∷ []) ls names h.1)

part_few : (first : NumberedLine) (others : List NumberedLine) (name : List ℕ) → number_on first ≤ 256 → AllByRecursion (λ l. number_on l ≤ 256) others → part_by first others name ≤ 256
part_few first [] name f h = f
part_few first (l ∷ ls) name f h = by (bytes_eq name (name_on l)) (part_few first ls name f h.1)
  where
    by : (b : Bool) → part_by first ls name ≤ 256 → number_on (unwrap_or (cond b (Some l) (find (λ line. bytes_eq name (name_on line)) ls)) first) ≤ 256
    by true e = h.0
    by false e = e

blocks_few : (first : NumberedLine) (others : List NumberedLine) (columns : List Column) → number_on first ≤ 256 → AllByRecursion (λ l. number_on l ≤ 256) others
    → blocks_of (map (λ c. part_by first others c.name) columns) ≤ 256
blocks_few first others [] f h = omega arith
blocks_few first others (c ∷ cs) f h = by (nat_lt (part_by first others c.name) (blocks_of (map (λ c. part_by first others c.name) cs))) (blocks_few first others cs f h)
  where
    by : (b : Bool) → blocks_of (map (λ c. part_by first others c.name) cs) ≤ 256 → (if b then blocks_of (map (λ c. part_by first others c.name) cs) else part_by first others c.name) ≤ 256
    by true rest = rest
    by false rest = part_few first others c.name f h

pub contains_behind : (x : ℕ) (xs : List ℕ) (y : ℕ) → Contains xs y → Contains (x ∷ xs) y
contains_behind x xs y h = Contains-append_right (x ∷ []) xs y h

-- the greatest number is one of a column
greatest_there : (part : List ℕ) → 0 < blocks_of part → Contains part (blocks_of part)
greatest_there [] h = absurd (omega arith)
greatest_there (b ∷ bs) h = by (nat_lt b (blocks_of bs)) refl (greatest_there bs)
  where
    by : (t : Bool) → nat_lt b (blocks_of bs) ≡ t → (0 < blocks_of bs → Contains bs (blocks_of bs)) → Contains (b ∷ bs) (if t then blocks_of bs else b)
    by true e rest = contains_behind b bs (blocks_of bs) (rest (omega (arith, ltb-true b (blocks_of bs) e)))
    by false e rest = Contains-get_or (b ∷ bs) 0 b (omega arith)

pub is_partition : (text : List ℕ) (m : Model) (part : List ℕ) → PartOf text m part → IsPartition m part
is_partition text m part p =
    let passed : NoLineFails (part_tests (names_of m)) [] (p.assigned.first ∷ p.assigned.others) =
    subst (NoLineFails (part_tests (names_of m)) []) p.assigned.lines p.assigned.passed in
    record {
      numbers = ap length p.assigned.parts ∙ length-map m.columns _;
      used = λ b some l. by b some l (cases_eq b (blocks_of part));
      few = subst (λ ns. blocks_of ns ≤ 256) (sym p.assigned.parts)
          (blocks_few p.assigned.first p.assigned.others m.columns
          (ltb-false 256 (number_on p.assigned.first) passed.0.1.1.0)
          (few_in p.assigned.first [] p.assigned.others (names_of m) passed.1));
    }
  where
    by : (b : ℕ) → 0 < b → b ≤ blocks_of part → (b ≡ blocks_of part) ⊎ (b ≡ blocks_of part → ⊥) → Contains part b
    by b some l (inl e) = subst (Contains part) (sym e) (greatest_there part (omega arith))
    by b some l (inr ne) = p.whole b some (omega arith)
