-- The integer columns of a model among the master's columns, and their positions.
use Rattle.std.proofs.Common.{◌≡◌, refl, sym, ◌∙◌, ap, subst, ℕ, zero, suc, ◌+◌, ◌<◌, ◌≤◌, true, false, cond, List, [], ◌∷◌, ◌++◌, length, map, drop, get_or, arith, inl, inr, nat_eq, Option, Some, None, zero-add, append-nil, append_assoc}
use Rattle.std.proofs.lemmas.Option.{slice_get-get_or}
use Rattle.std.specs.Bool.{OnTrue}
use Rattle.std.specs.List.{AllByRecursion, enumerate_from, filter, slice_get}
use Rattle.std.proofs.lemmas.Bool.{cases_Bool, cases_eq, ne_eqb, eq-eqb}
use Rattle.bz_model.specs.declared.Column.{Column}
use Rattle.bz_model.specs.Parting.{columns_of, column_at, integers_of, part_of, position_of}
use Rattle.bz_model.specs.Splits.{Decomposition, IsSplit}
use Rattle.bz_model.specs.Strict.{IsStrictColumn}
use Rattle.bz_model.proofs.Sparse.{left_at, none_left}
use Rattle.bz_model.proofs.Positions.{IsColumnAt, column_at_is, length-columns_of}
use Rattle.bz_tree.specs.Integers.{positions_of}

-- the column with its number, where it is an integer
abbrev pub if_integer : ℕ → Option Column → List (ℕ × Column)
if_integer j None = []
if_integer j (Some c) = cond c.integer ((j, c) ∷ []) []

-- the integer columns of these numbers
abbrev pub picked : (ℕ → Option Column) → List ℕ → List (ℕ × Column)
picked column [] = []
picked column (j ∷ js) = if_integer j (column j) ++ picked column js

pub picked_more : (column : ℕ → Option Column) (js : List ℕ) (i : ℕ) (d : ℕ) → i < length js → picked column (drop i js) ≡ if_integer (get_or js i d) (column (get_or js i d)) ++ picked column (drop (i + 1) js)
picked_more column js i d l = ap (picked column) (left_at js i d l)

pub picked_none : (column : ℕ → Option Column) (js : List ℕ) (i : ℕ) → length js ≤ i → picked column (drop i js) ≡ []
picked_none column js i l = ap (picked column) (none_left js i l)

-- the numbers of the columns in the master
in_master : ℕ → List ℕ → List ℕ
in_master n ps = map (λ e. e.0) (filter (λ e. nat_eq e.1 0) (enumerate_from n ps))

here : (n p : ℕ) (ps : List ℕ) → p ≡ 0 → in_master n (p ∷ ps) ≡ n ∷ in_master (n + 1) ps
unfolding in_master
here n p ps e = rw (eq-eqb p 0 e) refl

there : (n p : ℕ) (ps : List ℕ) → (p ≡ 0 → ⊥) → in_master n (p ∷ ps) ≡ in_master (n + 1) ps
unfolding in_master
there n p ps e = rw (ne_eqb p 0 e) refl

integer_here : (n : ℕ) (c : Column) (cs : List Column) → filter (λ (e : ℕ × Column). e.1.integer) (enumerate_from n (c ∷ cs)) ≡ if_integer n (Some c) ++ filter (λ (e : ℕ × Column). e.1.integer) (enumerate_from (n + 1) cs)
integer_here n c cs = elim (cases_Bool c.integer) [ inl t ↦ rw t refl | inr t ↦ rw t refl ]

not_integer : (n : ℕ) (p : ℕ) (c : Column) → OnTrue c.integer (p ≡ 0) → (p ≡ 0 → ⊥) → if_integer n (Some c) ≡ []
not_integer n p c h other = elim (cases_Bool c.integer) [ inl t ↦ absurd (other (rw t at h)) | inr t ↦ rw t refl ]

all_picked : (column : ℕ → Option Column) (n : ℕ) (ps : List ℕ) (cs : List Column) → length ps ≡ length cs → ((k : ℕ) → column (n + k) ≡ slice_get cs k) → ((k : ℕ) (d : Column) → k < length cs → OnTrue (get_or cs k d).integer (get_or ps k 0 ≡ 0)) → picked column (in_master n ps) ≡ filter (λ (e : ℕ × Column). e.1.integer) (enumerate_from n cs)
unfolding in_master
all_picked column n [] [] l at h = refl
all_picked column n [] (c ∷ cs) l at h = absurd (omega arith)
all_picked column n (p ∷ ps) [] l at h = absurd (omega arith)
all_picked column n (p ∷ ps) (c ∷ cs) l at h =
    let first : column n ≡ Some c = ap column (let z : n ≡ n + 0 = omega arith in z) ∙ at 0 in
    let rest : picked column (in_master (n + 1) ps) ≡ filter (λ (e : ℕ × Column). e.1.integer) (enumerate_from (n + 1) cs) =
    all_picked column (n + 1) ps cs (omega arith)
    (λ k. ap column (let z : n + 1 + k ≡ n + suc k = omega arith in z) ∙ at (suc k))
    (λ k d b. h (suc k) d (omega arith)) in
    elim (cases_eq p 0) [
      | inl e ↦ rw (here n p ps e, integer_here n c cs, first) (ap (λ (ys : List (ℕ × Column)). if_integer n (Some c) ++ ys) rest)
      | inr e ↦ rw (there n p ps e, integer_here n c cs, not_integer n p c (h 0 c (omega arith)) e) rest
    ]

-- an integer column is in the master
strict_at : (part : List ℕ) (n : ℕ) (cs : List Column) (k : ℕ) (d : Column) → AllByRecursion (λ e. IsStrictColumn (part_of part e.0) e.1) (enumerate_from n cs) → k < length cs → OnTrue (get_or cs k d).integer (part_of part (n + k) ≡ 0)
strict_at part n [] k d h l = absurd (omega arith)
strict_at part n (c ∷ cs) zero d h l = let z : n ≡ n + 0 = omega arith in let P : ℕ → Type 0 = λ j. OnTrue c.integer (part_of part j ≡ 0) in subst P z h.0.integer
strict_at part n (c ∷ cs) (suc k) d h l = let z : n + 1 + k ≡ n + suc k = omega arith in let P : ℕ → Type 0 = λ j. OnTrue (get_or cs k d).integer (part_of part j ≡ 0) in subst P z (strict_at part (n + 1) cs k d h.1 (omega arith))

-- the integer columns of the model are those of the master's columns
pub integers_picked : (d : Decomposition) → IsSplit d → picked (slice_get d.model.columns) (columns_of d.part 0) ≡ integers_of d.model
unfolding in_master
integers_picked d s = all_picked (slice_get d.model.columns) 0 d.part d.model.columns s.partition.numbers
    (λ k. ap (slice_get d.model.columns) (zero-add k))
    (λ k c l. let P : ℕ → Type 0 = λ j. OnTrue (get_or d.model.columns k c).integer (part_of d.part j ≡ 0) in subst P (zero-add k) (strict_at d.part 0 d.model.columns k c s.strict.columns l))

-- a number of the master's list is that of a column, with its position
pub master_column : (d : Decomposition) (i : ℕ) → IsSplit d → i < length (columns_of d.part 0) → IsColumnAt d.part 0 i (column_at d.part 0 i)
master_column d i s l = column_at_is d.part 0 i (rw (length-columns_of d.part 0) at l)

pub number_within : (d : Decomposition) (i : ℕ) → IsSplit d → i < length (columns_of d.part 0) → column_at d.part 0 i < length d.model.columns
number_within d i s l = rw (← s.partition.numbers) (master_column d i s l).within

column_is : (d : Decomposition) (i : ℕ) (column : Column) → IsSplit d → i < length (columns_of d.part 0) → column ≡ get_or d.model.columns (column_at d.part 0 i) column → slice_get d.model.columns (column_at d.part 0 i) ≡ Some column
column_is d i column s l e = slice_get-get_or d.model.columns (column_at d.part 0 i) column (number_within d i s l) ∙ ap Some (sym e)

-- the position of each column of a list
abbrev pub positions_in : List ℕ → List (ℕ × Column) → List ℕ
positions_in part es = map (λ e. position_of part e.0) es

-- the positions so far, followed by those of the columns from place i on
abbrev pub with_rest : Decomposition → ℕ → List ℕ → List ℕ
with_rest d i positions = positions ++ positions_in d.part (picked (slice_get d.model.columns) (drop i (columns_of d.part 0)))

pub so_far-start : (d : Decomposition) → IsSplit d → with_rest d 0 [] ≡ positions_of d.model d.part
so_far-start d s = ap (positions_in d.part) (integers_picked d s)

pub so_far-more : (d : Decomposition) (i : ℕ) (column : Column) (positions : List ℕ) → IsSplit d → i < length (columns_of d.part 0) → column ≡ get_or d.model.columns (column_at d.part 0 i) column → column.integer ≡ true → with_rest d i positions ≡ positions_of d.model d.part → with_rest d (i + 1) (positions ++ i ∷ []) ≡ positions_of d.model d.part
so_far-more d i column positions s l e t so =
    let before = rw (picked_more (slice_get d.model.columns) (columns_of d.part 0) i 0 l, column_is d i column s l e, t, (master_column d i s l).position) at so in
    rw (append_assoc positions (i ∷ []) (positions_in d.part (picked (slice_get d.model.columns) (drop (i + 1) (columns_of d.part 0))))) before

pub so_far-less : (d : Decomposition) (i : ℕ) (column : Column) (positions : List ℕ) → IsSplit d → i < length (columns_of d.part 0) → column ≡ get_or d.model.columns (column_at d.part 0 i) column → column.integer ≡ false → with_rest d i positions ≡ positions_of d.model d.part → with_rest d (i + 1) positions ≡ positions_of d.model d.part
so_far-less d i column positions s l e t so = rw (picked_more (slice_get d.model.columns) (columns_of d.part 0) i 0 l, column_is d i column s l e, t) at so

pub so_far-end : (d : Decomposition) (i : ℕ) (positions : List ℕ) → length (columns_of d.part 0) ≤ i → with_rest d i positions ≡ positions_of d.model d.part → positions ≡ positions_of d.model d.part
so_far-end d i positions l so = rw (picked_none (slice_get d.model.columns) (columns_of d.part 0) i l, append-nil) at so
