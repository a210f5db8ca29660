-- A text says one partition, or it has one fault.
use Rattle.std.proofs.Common.{ℕ, zero, suc, ◌<◌, ◌≤◌, ◌⊎◌, inl, inr, List, [], ◌∷◌, ◌≡◌, ◌∙◌, ap, sym, refl, subst, map, arith, Option, Some, None, Contains}
use Rattle.std.proofs.lemmas.Bool.{cases_eq, cases_lt, cases_order}
use Rattle.std.proofs.lemmas.List.Elements.{Contains-append_cases, Contains-get_or, Contains-push_cases}
use Rattle.bz_lines.specs.FirstFault.{first_fault}
use Rattle.bz_lines.specs.NumberedLines.{NumberedLine, numbered_lines}
use Rattle.bz_lines.proofs.FirstFaults.{first_fault-none, first_fault-some, no_line_fails, some_line_fails}
use Rattle.bz_model.specs.declared.records.Column.{Column}
use Rattle.bz_model.specs.declared.records.Model.{Model}
use Rattle.bz_model.specs.Parting.{blocks_of}
use Rattle.bz_part.specs.declared.faults.PartKind.{PartKind}
use Rattle.bz_part.specs.declared.faults.PartKind.TheVariants.{Gap, Head}
use Rattle.bz_part.specs.Partition.{Assigns, IsFaultOfGap, IsFaultOfLine, IsGap, IsWithoutHead, PartFault, PartOf, names_of, part_by}
use Rattle.bz_part.specs.PartitionLines.{part_tests}
use Rattle.bz_part.proofs.PartitionLemmas.{gap_more}
use Rattle.bz_part.proofs.PartitionTheorem.{contains_behind}

-- ---- a text says no two things
same_assigned : (text : List ℕ) (m : Model) (p q : List ℕ) → Assigns text m p → Assigns text m q → p ≡ q
same_assigned text m p q a b =
    let firsts : a.first ≡ b.first = cc in
    let others : a.others ≡ b.others = cc in
    a.parts
    ∙ ap (λ first. map (λ (c : Column). part_by first a.others c.name) m.columns) firsts
    ∙ ap (λ others. map (λ (c : Column). part_by b.first others c.name) m.columns) others
    ∙ sym b.parts

pub one_partition : (text : List ℕ) (m : Model) (p q : List ℕ) → PartOf text m p → PartOf text m q → p ≡ q
one_partition text m p q a b = same_assigned text m p q a.assigned b.assigned

fault_found : (text : List ℕ) (m : Model) (number : ℕ) (kind : PartKind) (f : IsFaultOfLine text m number kind)
    → first_fault (part_tests (names_of m)) [] (numbered_lines text) ≡ Some (f.line, kind)
fault_found text m number kind f = first_fault-some (part_tests (names_of m)) [] (numbered_lines text) f.line kind f.fault

assigned_passes : (text : List ℕ) (m : Model) (part : List ℕ) → Assigns text m part → first_fault (part_tests (names_of m)) [] (numbered_lines text) ≡ None
assigned_passes text m part a = first_fault-none (part_tests (names_of m)) [] (numbered_lines text) a.passed

not_line_and_assigned : (text : List ℕ) (m : Model) (part : List ℕ) (number : ℕ) (kind : PartKind) → IsFaultOfLine text m number kind → Assigns text m part → ⊥
not_line_and_assigned text m part number kind f a =
    let some = fault_found text m number kind f in let none = assigned_passes text m part a in absurd (cc)

not_line_and_none : (text : List ℕ) (m : Model) (number : ℕ) (kind : PartKind) (k : ℕ) (other : PartKind) → IsFaultOfLine text m number kind → IsWithoutHead text k other → ⊥
not_line_and_none text m number kind k other f h =
    let some = fault_found text m number kind f in
    let none = ap (first_fault (part_tests (names_of m)) []) h.lines in absurd (cc)

not_none_and_assigned : (text : List ℕ) (m : Model) (part : List ℕ) (number : ℕ) (kind : PartKind) → IsWithoutHead text number kind → Assigns text m part → ⊥
not_none_and_assigned text m part number kind h a = let e = h.lines in let f = a.lines in absurd (cc)

same_lines : (text : List ℕ) (m : Model) (n k : ℕ) (kind other : PartKind) → IsFaultOfLine text m n kind → IsFaultOfLine text m k other → (n ≡ k) × (kind ≡ other)
same_lines text m n k kind other f g =
    let one = fault_found text m n kind f in
    let two = fault_found text m k other g in
    let pair : (f.line, kind) ≡ (g.line, other) = cc in
    (f.at ∙ ap (λ (p : NumberedLine × PartKind). p.0.number) pair ∙ sym g.at, ap (λ (p : NumberedLine × PartKind). p.1) pair)

same_gap : (part : List ℕ) (b d : ℕ) → IsGap part b → IsGap part d → b ≡ d
same_gap part b d f g = by (cases_order b d)
  where
    by : (b ≡ d) ⊎ ((b < d) ⊎ (d < b)) → b ≡ d
    by (inl e) = e
    by (inr (inl l)) = absurd (f.missing (g.least b f.some l))
    by (inr (inr l)) = absurd (g.missing (f.least d g.some l))

same_gaps : (text : List ℕ) (m : Model) (n k : ℕ) (kind other : PartKind) → IsFaultOfGap text m n kind → IsFaultOfGap text m k other → (n ≡ k) × (kind ≡ other)
same_gaps text m n k kind other f g =
    let parts : f.part ≡ g.part = same_assigned text m f.part g.part f.assigned g.assigned in (
      f.at ∙ sym g.at,
      f.is ∙ ap Gap (same_gap g.part f.block g.block (subst (λ p. IsGap p f.block) parts f.gap) g.gap) ∙ sym g.is,
    )

pub one_fault : (text : List ℕ) (m : Model) (n k : ℕ) (kind other : PartKind) → PartFault text m n kind → PartFault text m k other → (n ≡ k) × (kind ≡ other)
one_fault text m n k kind other (inl f) (inl g) = same_lines text m n k kind other f g
one_fault text m n k kind other (inl f) (inr (inl g)) = absurd (not_line_and_none text m n kind k other f g)
one_fault text m n k kind other (inl f) (inr (inr g)) = absurd (not_line_and_assigned text m g.part n kind f g.assigned)
one_fault text m n k kind other (inr (inl f)) (inl g) = absurd (not_line_and_none text m k other n kind g f)
one_fault text m n k kind other (inr (inl f)) (inr (inl g)) = (f.at ∙ sym g.at, f.is ∙ sym g.is)
one_fault text m n k kind other (inr (inl f)) (inr (inr g)) = absurd (not_none_and_assigned text m g.part n kind f g.assigned)
one_fault text m n k kind other (inr (inr f)) (inl g) = absurd (not_line_and_assigned text m f.part k other g f.assigned)
one_fault text m n k kind other (inr (inr f)) (inr (inl g)) = absurd (not_none_and_assigned text m f.part k other g f.assigned)
one_fault text m n k kind other (inr (inr f)) (inr (inr g)) = same_gaps text m n k kind other f g

pub not_both : (text : List ℕ) (m : Model) (part : List ℕ) (n : ℕ) (kind : PartKind) → PartOf text m part → PartFault text m n kind → ⊥
not_both text m part n kind p (inl f) = not_line_and_assigned text m part n kind f p.assigned
not_both text m part n kind p (inr (inl f)) = not_none_and_assigned text m part n kind f p.assigned
not_both text m part n kind p (inr (inr f)) =
    let parts : f.part ≡ part = same_assigned text m f.part part f.assigned p.assigned in
    f.gap.missing (subst (λ q. Contains q f.block) (sym parts) (p.whole f.block f.gap.some (subst (λ q. f.block < blocks_of q) parts f.gap.below)))

-- ---- a text says something
contains_or : (part : List ℕ) (b : ℕ) → Contains part b ⊎ (Contains part b → ⊥)
contains_or [] b = inr (λ h. absurd (omega arith))
contains_or (x ∷ xs) b = by (cases_eq x b) (contains_or xs b)
  where
    by : (x ≡ b) ⊎ (x ≡ b → ⊥) → Contains xs b ⊎ (Contains xs b → ⊥) → Contains (x ∷ xs) b ⊎ (Contains (x ∷ xs) b → ⊥)
    by (inl e) rest = inl (subst (Contains (x ∷ xs)) e (Contains-get_or (x ∷ xs) 0 x (omega arith)))
    by (inr ne) (inl h) = inl (contains_behind x xs b h)
    by (inr ne) (inr none) = inr (λ h. apart (Contains-append_cases (x ∷ []) xs b h))
      where
        first : Contains [] b ⊎ (x ≡ b) → ⊥
        first (inl h) = absurd (omega arith)
        first (inr e) = ne e

        apart : Contains (x ∷ []) b ⊎ Contains xs b → ⊥
        apart (inl h) = first (Contains-push_cases [] x b h)
        apart (inr h) = none h

-- the least block below n without a column
record IsFirstMissing (part : List ℕ) (n : ℕ) : Type 0 where
  block : ℕ
  some : 0 < block
  below : block < n
  missing : Contains part block → ⊥
  least : (b : ℕ) → 0 < b → b < block → Contains part b

first_missing : (part : List ℕ) (n : ℕ) → ((b : ℕ) → 0 < b → b < n → Contains part b) ⊎ IsFirstMissing part n
first_missing part zero = inl (λ b some l. absurd (omega arith))
first_missing part (suc n) = by (first_missing part n) (contains_or part n) (cases_lt 0 n)
  where
    by : ((b : ℕ) → 0 < b → b < n → Contains part b) ⊎ IsFirstMissing part n → Contains part n ⊎ (Contains part n → ⊥) → (0 < n) ⊎ (n ≤ 0)
        → ((b : ℕ) → 0 < b → b < suc n → Contains part b) ⊎ IsFirstMissing part (suc n)
    by (inr f) there order = inr (record { block = f.block; some = f.some; below = omega (arith, f.below); missing = f.missing; least = f.least })
    by (inl all) (inl here) order = inl (λ b some l. gap_more part n all here b some (omega arith))
    by (inl all) (inr none) (inl some) = inr (record { block = n; some = some; below = omega arith; missing = none; least = all })
    by (inl all) (inr none) (inr low) = inl (λ b some l. absurd (omega arith))

-- a partition, or a line and the kind of the fault there
abbrev pub HasReading : List ℕ → Model → Type 0
HasReading text m = ((part : List ℕ) × PartOf text m part) ⊎ ((line : ℕ) × (kind : PartKind) × PartFault text m line kind)

gap_or_none : (text : List ℕ) (m : Model) (part : List ℕ) → Assigns text m part → HasReading text m
gap_or_none text m part a = by (first_missing part (blocks_of part))
  where
    by : ((b : ℕ) → 0 < b → b < blocks_of part → Contains part b) ⊎ IsFirstMissing part (blocks_of part) → HasReading text m
    by (inl all) = inl (part, record { assigned = a; whole = all })
    by (inr f) = inr (
      0,
      Gap f.block,
      inr (inr (record {
        part = part;
        block = f.block;
        assigned = a;
        gap = record { some = f.some; below = f.below; missing = f.missing; least = f.least };
        at = refl;
        is = refl;
      })),
    )

pub some_reading : (text : List ℕ) (m : Model) → HasReading text m
some_reading text m = by (numbered_lines text) refl (first_fault (part_tests (names_of m)) [] (numbered_lines text)) refl
  where
    by : (ls : List NumberedLine) → numbered_lines text ≡ ls → (o : Option (NumberedLine × PartKind)) → first_fault (part_tests (names_of m)) [] (numbered_lines text) ≡ o
        → HasReading text m
    by ls e (Some f) is = inr (f.0.number, f.1, inl (record { line = f.0; fault = some_line_fails (part_tests (names_of m)) [] (numbered_lines text) f.0 f.1 is; at = refl }))
    by [] e None is = inr (0, Head, inr (inl (record { lines = e; at = refl; is = refl })))
    by (l ∷ ls) e None is = gap_or_none text m (map (λ (c : Column). part_by l ls c.name) m.columns) (record {
      first = l;
      others = ls;
      lines = e;
      passed = no_line_fails (part_tests (names_of m)) [] (numbered_lines text) is;
      parts = refl;
    })
