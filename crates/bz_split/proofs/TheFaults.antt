-- A model and a partition have exactly one fault where the partition is not strict, and none where it is.
use Rattle.std.proofs.Common.{◌≡◌, ◌∙◌, ℕ, ℤ, zero, suc, ◌+◌, ◌<◌, ◌≤◌, ◌⊎◌, ◌↔◌, inl, inr, Bool, true, false, List, ◌∷◌, length, length-append, take, get_or, arith, ap, refl, subst, sym}
use Rattle.std.specs.Prelude.{is_some}
use Rattle.std.specs.List.{AllByRecursion, enumerate_from}
use Rattle.std.specs.Option.{ForSome}
use Rattle.std.proofs.lemmas.Bool.{OnTrue_at, OnTrue_from, both_ways, cases_Bool, cases_eq, cases_lt}
use Rattle.std.proofs.lemmas.List.FromFn.{length-enumerate_from}
use Rattle.bz_model.specs.declared.records.Column.{Column}
use Rattle.bz_model.specs.declared.records.Model.{Model}
use Rattle.bz_model.specs.declared.records.Row.{Row}
use Rattle.bz_model.specs.Parting.{blocks_of, home_of, part_of}
use Rattle.bz_model.specs.Strict.{AreStrictColumns, AreUnjoined, IsInOneBlock, IsStrict, IsStrictColumn, size_of}
use Rattle.bz_split.specs.declared.faults.SplitFault.{SplitFault}
use Rattle.bz_split.specs.declared.faults.SplitFault.TheVariants.{Joins, IntegerInBlock, IntegerOpen, OpenMaster, TooLarge, OutOfMemory}
use Rattle.bz_split.specs.Places.{column_of, row_of}
use Rattle.bz_split.specs.SplitFaults.{AreTwoBlocks, IsColumnFault, IsFirstColumn, IsFirstJoin, IsFirstLarge, IsFirstNot, IsIntegerInBlock, IsIntegerOpen, IsOpenMaster, IsSplitFault, parts_of}
use Rattle.bz_split.proofs.FirstItems.{all_or_first, all_taken, first_item, not_all, numbered_at, one_more, place_is, same_first}
use Rattle.bz_split.proofs.TwoBlocks.{is_in, some_two_blocks}

-- no part is too large
abbrev pub AreSmall : Model → List ℕ → Type 0
AreSmall m part = (b : ℕ) → b ≤ blocks_of part → size_of m part b ≤ 1024

-- ---- one fault at most
joined : (m : Model) (part : List ℕ) (i a b : ℕ) → IsFirstJoin part m.rows i a b → AreUnjoined m part → ⊥
joined m part i a b h rows = not_all (λ (r : Row). IsInOneBlock part r.terms) m.rows i h.row h.first rows

misplaced : (F : ℕ → Column → Type 0) (m : Model) (part : List ℕ) (j : ℕ) → IsFirstColumn F m part j → AreStrictColumns m part → ⊥
misplaced F m part j h columns =
    not_all (λ (e : ℕ × Column). IsStrictColumn (part_of part e.0) e.1) (enumerate_from 0 m.columns) j (j, h.column) h.first columns

same_column : (F G : ℕ → Column → Type 0) (m : Model) (part : List ℕ) (j k : ℕ) → (h : IsFirstColumn F m part j) (g : IsFirstColumn G m part k) →
    (j ≡ k) × (h.column ≡ g.column)
same_column F G m part j k h g =
    let both : (j ≡ k) × ((j, h.column) ≡ (k, g.column)) =
    same_first (λ (e : ℕ × Column). IsStrictColumn (part_of part e.0) e.1) (enumerate_from 0 m.columns) j k (j, h.column) (k, g.column) h.first g.first in
    (both.0, ap (λ (e : ℕ × Column). e.1) both.1)

-- no column has faults of two kinds
of_two_kinds : (F G : ℕ → Column → Type 0) → ((own : ℕ) (c : Column) → F own c → G own c → ⊥) → (m : Model) (part : List ℕ) (j k : ℕ) →
    IsFirstColumn F m part j → IsFirstColumn G m part k → ⊥
of_two_kinds F G n m part j k h g =
    let both : (j ≡ k) × (h.column ≡ g.column) = same_column F G m part j k h g in
    let there : G (part_of part j) g.column = subst (λ (i : ℕ). G (part_of part i) g.column) (sym both.0) g.fault in
    n (part_of part j) h.column h.fault (subst (λ (c : Column). G (part_of part j) c) (sym both.1) there)

block_open : (own : ℕ) (c : Column) → IsIntegerInBlock own c → IsIntegerOpen own c → ⊥
block_open own c h k = omega (arith, h.block, k.master)

block_master : (own : ℕ) (c : Column) → IsIntegerInBlock own c → IsOpenMaster own c → ⊥
block_master own c h k = omega (arith, h.block, k.master)

open_master : (own : ℕ) (c : Column) → IsIntegerOpen own c → IsOpenMaster own c → ⊥
open_master own c h k = both_ways c.integer k.continuous h.integer

same_blocks : (part : List ℕ) (terms others : List (ℕ × ℤ)) (a b c d : ℕ) → terms ≡ others →
    AreTwoBlocks part terms a b → AreTwoBlocks part others c d → (a ≡ c) × (b ≡ d)
same_blocks part terms others a b c d e h k0 =
    let k : AreTwoBlocks part terms c d = subst (λ (es : List (ℕ × ℤ)). AreTwoBlocks part es c d) (sym e) k0 in
    let one_block : a ≡ c = (same_first (λ (n : ℕ). n ≡ 0) (parts_of part terms) h.i k.i a c h.first k.first).1 in
    let other : IsFirstNot (λ (n : ℕ). (n ≡ 0) ⊎ (n ≡ a)) (parts_of part terms) k.j d =
    subst (λ (x : ℕ). IsFirstNot (λ (n : ℕ). (n ≡ 0) ⊎ (n ≡ x)) (parts_of part terms) k.j d) (sym one_block) k.other in
    (one_block, (same_first (λ (n : ℕ). (n ≡ 0) ⊎ (n ≡ a)) (parts_of part terms) h.j k.j b d h.other other).1)

same_join : (part : List ℕ) (rows : List Row) (i a b j c d : ℕ) → IsFirstJoin part rows i a b → IsFirstJoin part rows j c d → Joins i a b ≡ Joins j c d
same_join part rows i a b j c d h k =
    let place : (i ≡ j) × (h.row ≡ k.row) = same_first (λ (r : Row). IsInOneBlock part r.terms) rows i j h.row k.row h.first k.first in
    let blocks : (a ≡ c) × (b ≡ d) = same_blocks part h.row.terms k.row.terms a b c d (ap (λ (r : Row). r.terms) place.1) h.blocks k.blocks in
    rw (place.0, blocks.0, blocks.1) refl

same_large : (m : Model) (part : List ℕ) (b n c k : ℕ) → IsFirstLarge m part b n → IsFirstLarge m part c k → TooLarge b n ≡ TooLarge c k
same_large m part b n c k h g =
    let part_is : b ≡ c =
    elim (cases_lt b c) [
      | inl l ↦ absurd (omega (arith, g.others b l, h.large, h.size_is))
      | inr l ↦
          elim (cases_eq b c) [
            | inl e ↦ e
            | inr d ↦ absurd (omega (arith, h.others c (omega (arith, l, d)), g.large, g.size_is))
          ]
    ] in
    let size_is : n ≡ k = h.size_is ∙ ap (size_of m part) part_is ∙ sym g.size_is in
    rw (part_is, size_is) refl

pub same_fault : (m : Model) (part : List ℕ) (f g : SplitFault) → IsSplitFault m part f → IsSplitFault m part g → f ≡ g
same_fault m part (Joins i a b) (Joins j c d) h k = same_join part m.rows i a b j c d h k
same_fault m part (Joins i a b) (IntegerInBlock j) h k = absurd (joined m part i a b h k.rows)
same_fault m part (Joins i a b) (IntegerOpen j) h k = absurd (joined m part i a b h k.rows)
same_fault m part (Joins i a b) (OpenMaster j) h k = absurd (joined m part i a b h k.rows)
same_fault m part (Joins i a b) (TooLarge c n) h k = absurd (joined m part i a b h k.rows)
same_fault m part (Joins i a b) OutOfMemory h k = absurd k
same_fault m part (IntegerInBlock i) (Joins j c d) h k = absurd (joined m part j c d k h.rows)
same_fault m part (IntegerInBlock i) (IntegerInBlock j) h k = ap IntegerInBlock (same_column _ _ m part i j h k).0
same_fault m part (IntegerInBlock i) (IntegerOpen j) h k = absurd (of_two_kinds _ _ block_open m part i j h k)
same_fault m part (IntegerInBlock i) (OpenMaster j) h k = absurd (of_two_kinds _ _ block_master m part i j h k)
same_fault m part (IntegerInBlock i) (TooLarge c n) h k = absurd (misplaced _ m part i h k.columns)
same_fault m part (IntegerInBlock i) OutOfMemory h k = absurd k
same_fault m part (IntegerOpen i) (Joins j c d) h k = absurd (joined m part j c d k h.rows)
same_fault m part (IntegerOpen i) (IntegerInBlock j) h k = absurd (of_two_kinds _ _ block_open m part j i k h)
same_fault m part (IntegerOpen i) (IntegerOpen j) h k = ap IntegerOpen (same_column _ _ m part i j h k).0
same_fault m part (IntegerOpen i) (OpenMaster j) h k = absurd (of_two_kinds _ _ open_master m part i j h k)
same_fault m part (IntegerOpen i) (TooLarge c n) h k = absurd (misplaced _ m part i h k.columns)
same_fault m part (IntegerOpen i) OutOfMemory h k = absurd k
same_fault m part (OpenMaster i) (Joins j c d) h k = absurd (joined m part j c d k h.rows)
same_fault m part (OpenMaster i) (IntegerInBlock j) h k = absurd (of_two_kinds _ _ block_master m part j i k h)
same_fault m part (OpenMaster i) (IntegerOpen j) h k = absurd (of_two_kinds _ _ open_master m part j i k h)
same_fault m part (OpenMaster i) (OpenMaster j) h k = ap OpenMaster (same_column _ _ m part i j h k).0
same_fault m part (OpenMaster i) (TooLarge c n) h k = absurd (misplaced _ m part i h k.columns)
same_fault m part (OpenMaster i) OutOfMemory h k = absurd k
same_fault m part (TooLarge b n) (Joins j c d) h k = absurd (joined m part j c d k h.rows)
same_fault m part (TooLarge b n) (IntegerInBlock j) h k = absurd (misplaced _ m part j k h.columns)
same_fault m part (TooLarge b n) (IntegerOpen j) h k = absurd (misplaced _ m part j k h.columns)
same_fault m part (TooLarge b n) (OpenMaster j) h k = absurd (misplaced _ m part j k h.columns)
same_fault m part (TooLarge b n) (TooLarge c k) h g = same_large m part b n c k h g
same_fault m part (TooLarge b n) OutOfMemory h k = absurd k
same_fault m part OutOfMemory g h k = absurd h

-- ---- none where the partition is strict
pub not_strict : (m : Model) (part : List ℕ) (f : SplitFault) → IsSplitFault m part f → IsStrict m part → ⊥
not_strict m part (Joins i a b) h s = joined m part i a b h s.rows
not_strict m part (IntegerInBlock j) h s = misplaced _ m part j h s.columns
not_strict m part (IntegerOpen j) h s = misplaced _ m part j h s.columns
not_strict m part (OpenMaster j) h s = misplaced _ m part j h s.columns
not_strict m part (TooLarge b n) h s = omega (arith, s.small b h.there, h.large, h.size_is)
not_strict m part OutOfMemory h s = h

-- ---- some fault where it is not
in_one_block : (part : List ℕ) (terms : List (ℕ × ℤ)) → IsInOneBlock part terms ⊎ (IsInOneBlock part terms → ⊥)
in_one_block part terms =
    elim (all_or_first (λ (e : ℕ × ℤ). (part_of part e.0 ≡ 0) ⊎ (part_of part e.0 ≡ home_of part terms)) (λ (e : ℕ × ℤ). is_in (home_of part terms) (part_of part e.0)) terms) [
      | inl h ↦ inl h
      | inr h ↦ inr (not_all (λ (e : ℕ × ℤ). (part_of part e.0 ≡ 0) ⊎ (part_of part e.0 ≡ home_of part terms)) terms h.0 h.1 h.2)
    ]

two_sides : (a b : Bool) → ((a ≡ true) × (b ≡ true)) ⊎ ((a ≡ true) × (b ≡ true) → ⊥)
two_sides true true = inl (refl, refl)
two_sides true false = inr (λ h. both_ways false refl h.1)
two_sides false b = inr (λ h. both_ways false refl h.0)

pub column_or_fault : (own j : ℕ) (column : Column) → IsStrictColumn own column ⊎ ((f : SplitFault) × IsColumnFault own j column f)
column_or_fault (suc own) j column =
    elim (cases_Bool column.integer) [
      | inl t ↦ inr (IntegerInBlock j, (refl, record { integer = t; block = omega arith }))
      | inr t ↦ inl (record { integer = OnTrue_from column.integer _ (λ i. absurd (both_ways column.integer t i)); bounded = λ z. absurd (omega (arith, z)) })
    ]
column_or_fault zero j column =
    elim (two_sides (is_some column.lower) (is_some column.upper)) [
      | inl h ↦ inl (record { integer = OnTrue_from column.integer _ (λ i. refl); bounded = λ z. h })
      | inr n ↦
          elim (cases_Bool column.integer) [
            | inl t ↦ inr (IntegerOpen j, (refl, record { integer = t; master = refl; open_side = n }))
            | inr t ↦ inr (OpenMaster j, (refl, record { continuous = t; master = refl; open_side = n }))
          ]
    ]

-- a column with a fault may not be where it is
pub column_not_strict : (own j : ℕ) (column : Column) (f : SplitFault) → IsColumnFault own j column f → IsStrictColumn own column → ⊥
column_not_strict own j column (Joins i a b) h s = h
column_not_strict own j column (IntegerInBlock k) h s = omega (arith, OnTrue_at h.1.integer s.integer, h.1.block)
column_not_strict own j column (IntegerOpen k) h s = h.1.open_side (s.bounded h.1.master)
column_not_strict own j column (OpenMaster k) h s = h.1.open_side (s.bounded h.1.master)
column_not_strict own j column (TooLarge b n) h s = h
column_not_strict own j column OutOfMemory h s = h

first_column : (F : ℕ → Column → Type 0) (m : Model) (part : List ℕ) (j k : ℕ) (column : Column) → AreUnjoined m part →
    IsFirstNot (λ e. IsStrictColumn (part_of part e.0) e.1) (enumerate_from 0 m.columns) j (j, column) → (k ≡ j) × F (part_of part j) column → IsFirstColumn F m part k
first_column F m part j k column rows first h =
    subst (λ (n : ℕ). IsFirstColumn F m part n) (sym h.0) (record { rows = rows; column = column; first = first; fault = h.1 })

-- the fault of the first column that may not be where it is
pub column_is_first : (m : Model) (part : List ℕ) (j : ℕ) (column : Column) → AreUnjoined m part →
    IsFirstNot (λ e. IsStrictColumn (part_of part e.0) e.1) (enumerate_from 0 m.columns) j (j, column) →
    (f : SplitFault) → IsColumnFault (part_of part j) j column f → IsSplitFault m part f
column_is_first m part j column rows first (Joins i a b) h = absurd h
column_is_first m part j column rows first (IntegerInBlock k) h = first_column _ m part j k column rows first h
column_is_first m part j column rows first (IntegerOpen k) h = first_column _ m part j k column rows first h
column_is_first m part j column rows first (OpenMaster k) h = first_column _ m part j k column rows first h
column_is_first m part j column rows first (TooLarge b n) h = absurd h
column_is_first m part j column rows first OutOfMemory h = absurd h

strict_column : (part : List ℕ) (e : ℕ × Column) → IsStrictColumn (part_of part e.0) e.1 ⊎ (IsStrictColumn (part_of part e.0) e.1 → ⊥)
strict_column part e =
    elim (column_or_fault (part_of part e.0) e.0 e.1) [
      | inl h ↦ inl h
      | inr h ↦ inr (column_not_strict (part_of part e.0) e.0 e.1 h.0 h.1)
    ]

-- a size above 1,024 before n, or none
some_large : (f : ℕ → ℕ) (n : ℕ) → ((k : ℕ) → k < n → f k ≤ 1024) ⊎ ((b : ℕ) × (b < n) × (1024 < f b) × ((k : ℕ) → k < b → f k ≤ 1024))
some_large f zero = inl (λ k l. absurd (omega (arith, l)))
some_large f (suc n) =
    elim (some_large f n) [
      | inr h ↦ inr (h.0, omega (arith, h.1), h.2, h.3)
      | inl h ↦
          elim (cases_lt 1024 (f n)) [
            | inl l ↦ inr (n, omega arith, l, h)
            | inr l ↦
                inl
                (λ k s.
                elim (cases_eq k n) [
                  | inl e ↦ subst (λ (i : ℕ). f i ≤ 1024) (sym e) l
                  | inr d ↦ h k (omega (arith, s, d))
                ])
          ]
    ]

parts_fault : (m : Model) (part : List ℕ) → AreUnjoined m part → AreStrictColumns m part → IsStrict m part ⊎ ((f : SplitFault) × IsSplitFault m part f)
parts_fault m part rows columns =
    elim (some_large (size_of m part) (suc (blocks_of part))) [
      | inl h ↦ inl (record { rows = rows; columns = columns; small = λ b l. h b (omega (arith, l)) })
      | inr h ↦
          inr
          (TooLarge h.0 (size_of m part h.0), record { rows = rows; columns = columns; there = omega (arith, h.1); others = h.3; large = h.2; size_is = refl })
    ]

columns_fault : (m : Model) (part : List ℕ) → AreUnjoined m part → IsStrict m part ⊎ ((f : SplitFault) × IsSplitFault m part f)
columns_fault m part rows =
    elim (all_or_first (λ (e : ℕ × Column). IsStrictColumn (part_of part e.0) e.1) (strict_column part) (enumerate_from 0 m.columns)) [
      | inl h ↦ parts_fault m part rows h
      | inr h ↦ inr (first_fault m part rows h.0 h.1 h.2)
    ]
  where
    first_at : (mm : Model) (q : List ℕ) → AreUnjoined mm q → (j : ℕ) (c : Column) →
        IsFirstNot (λ e. IsStrictColumn (part_of q e.0) e.1) (enumerate_from 0 mm.columns) j (j, c) → (f : SplitFault) × IsSplitFault mm q f
    first_at mm q r j c first =
        elim (column_or_fault (part_of q j) j c) [
          | inl s ↦ absurd (first.fails s)
          | inr g ↦ (g.0, column_is_first mm q j c r first g.0 g.1)
        ]

    first_fault : (mm : Model) (q : List ℕ) → AreUnjoined mm q → (j : ℕ) (e : ℕ × Column) →
        IsFirstNot (λ d. IsStrictColumn (part_of q d.0) d.1) (enumerate_from 0 mm.columns) j e → (f : SplitFault) × IsSplitFault mm q f
    first_fault mm q r j e first =
        first_at mm q r j e.1
        (subst (λ (i : ℕ). IsFirstNot (λ (d : ℕ × Column). IsStrictColumn (part_of q d.0) d.1) (enumerate_from 0 mm.columns) j (i, e.1)) (place_is _ mm.columns j e first) first)

pub strict_or_fault : (m : Model) (part : List ℕ) → IsStrict m part ⊎ ((f : SplitFault) × IsSplitFault m part f)
strict_or_fault m part =
    elim (all_or_first (λ (r : Row). IsInOneBlock part r.terms) (λ (r : Row). in_one_block part r.terms) m.rows) [
      | inl h ↦ columns_fault m part h
      | inr h ↦
          let two : (a : ℕ) × (b : ℕ) × AreTwoBlocks part h.1.terms a b = some_two_blocks part h.1.terms h.2.fails in
          inr (Joins h.0 two.0 two.1, record { row = h.1; first = h.2; blocks = two.2 })
    ]

pub fault_exactly : (m : Model) (part : List ℕ) → ((f : SplitFault) × IsSplitFault m part f) ↔ (IsStrict m part → ⊥)
fault_exactly m part = (
  λ h. not_strict m part h.0 h.1,
  λ n. elim (strict_or_fault m part) [ inl s ↦ absurd (n s) | inr h ↦ h ],
)

-- ---- what loops have found
pub column_found : (m : Model) (part : List ℕ) (items : List Column) (j : ℕ) (column : Column) (f : SplitFault) → AreUnjoined m part →
    items ≡ m.columns → column ≡ get_or items j column → j < length items →
    AllByRecursion (λ e. IsStrictColumn (part_of part e.0) e.1) (take j (enumerate_from 0 items)) →
    IsColumnFault (part_of part j) j column f → IsSplitFault m part f
column_found m part items j column f rows e is l h fault =
    column_is_first m part j column rows
    (first_item (λ (d : ℕ × Column). IsStrictColumn (part_of part d.0) d.1) (enumerate_from 0 items) (enumerate_from 0 m.columns) j (j, column)
    (ap (enumerate_from 0) e) (numbered_at items j column l is) (omega (arith, l, length-enumerate_from 0 items)) h
    (column_not_strict (part_of part j) j column f fault))
    f fault

pub columns_more : (part : List ℕ) (items : List Column) (j : ℕ) (column : Column) → column ≡ get_or items j column → j < length items →
    AllByRecursion (λ e. IsStrictColumn (part_of part e.0) e.1) (take j (enumerate_from 0 items)) → IsStrictColumn (part_of part j) column →
    AllByRecursion (λ e. IsStrictColumn (part_of part e.0) e.1) (take (j + 1) (enumerate_from 0 items))
columns_more part items j column is l h s =
    one_more (λ (d : ℕ × Column). IsStrictColumn (part_of part d.0) d.1) (enumerate_from 0 items) j (j, column) (omega (arith, l, length-enumerate_from 0 items)) h
    (subst (λ (d : ℕ × Column). IsStrictColumn (part_of part d.0) d.1) (numbered_at items j column l is) s)

pub columns_all : (m : Model) (part : List ℕ) (items : List Column) (j : ℕ) → items ≡ m.columns → length items ≤ j →
    AllByRecursion (λ e. IsStrictColumn (part_of part e.0) e.1) (take j (enumerate_from 0 items)) → AreStrictColumns m part
columns_all m part items j e l h =
    subst (λ (cs : List Column). AllByRecursion (λ d. IsStrictColumn (part_of part d.0) d.1) (enumerate_from 0 cs)) e
    (all_taken (λ (d : ℕ × Column). IsStrictColumn (part_of part d.0) d.1) (enumerate_from 0 items) j (omega (arith, l, length-enumerate_from 0 items)) h)

-- ---- where faults are
first_within : {X : Type 0} (P : X → Type 0) (xs : List X) (i : ℕ) (x : X) → IsFirstNot P xs i x → i < length xs
first_within P xs i x h = omega (arith, ap length h.whole, length-append h.before (x ∷ h.after), h.place)

column_within : (F : ℕ → Column → Type 0) (m : Model) (part : List ℕ) (j : ℕ) → IsFirstColumn F m part j → j < length m.columns
column_within F m part j h = omega (arith, first_within _ (enumerate_from 0 m.columns) j (j, h.column) h.first, length-enumerate_from 0 m.columns)

-- the row of a fault is one of the model's
pub fault_row : (m : Model) (part : List ℕ) (f : SplitFault) → IsSplitFault m part f → ForSome (row_of f) (λ i. i < length m.rows)
fault_row m part (Joins i a b) h = λ k e. let same : i ≡ k = cc in subst (λ (n : ℕ). n < length m.rows) same (first_within _ m.rows i h.row h.first)
fault_row m part (IntegerInBlock j) h = λ k e. absurd cc
fault_row m part (IntegerOpen j) h = λ k e. absurd cc
fault_row m part (OpenMaster j) h = λ k e. absurd cc
fault_row m part (TooLarge b size) h = λ k e. absurd cc
fault_row m part OutOfMemory h = λ k e. absurd cc

-- and so is its column
pub fault_column : (m : Model) (part : List ℕ) (f : SplitFault) → IsSplitFault m part f → ForSome (column_of f) (λ j. j < length m.columns)
fault_column m part (Joins i a b) h = λ k e. absurd cc
fault_column m part (IntegerInBlock j) h = λ k e. let same : j ≡ k = cc in subst (λ (n : ℕ). n < length m.columns) same (column_within _ m part j h)
fault_column m part (IntegerOpen j) h = λ k e. let same : j ≡ k = cc in subst (λ (n : ℕ). n < length m.columns) same (column_within _ m part j h)
fault_column m part (OpenMaster j) h = λ k e. let same : j ≡ k = cc in subst (λ (n : ℕ). n < length m.columns) same (column_within _ m part j h)
fault_column m part (TooLarge b size) h = λ k e. absurd cc
fault_column m part OutOfMemory h = λ k e. absurd cc
