-- What each inequality of a part speaks of: positions of the part and of the master.
use Rattle.std.specs.Prelude.{ℕ, ◌+◌, ◌*◌, ◌<◌, ◌≤◌, ◌≡◌, Bool, not, ◌&&◌, ℤ, neg_ℤ, List, [], ◌∷◌, length, filter, Option, Some, None, ◌==◌}
use Rattle.std.specs.List.{AllByRecursion, enumerate_from, flat_map}
use Rattle.std.proofs.Common.{refl, arith, inl, inr}
use Rattle.std.proofs.lemmas.Bool.{cases_Bool, cases_eq, eq-eqb, ne_eqb}
use Rattle.std.proofs.lemmas.List.{length-append}
use Rattle.std.proofs.lemmas.List.FromFn.{length-enumerate_from}
use Rattle.std.proofs.lemmas.List.Sums.{count_by-le-length, length-filter}
use Rattle.bz_algebra.specs.Numbers.{IsNarrow}
use Rattle.bz_algebra.specs.Sums.{AllBelow}
use Rattle.bz_model.specs.declared.records.Column.{Column}
use Rattle.bz_model.specs.declared.records.Ineq.{Ineq}
use Rattle.bz_model.specs.declared.records.Model.{Model}
use Rattle.bz_model.specs.declared.records.Row.{Row}
use Rattle.bz_model.specs.Parting.{part_of, home_of, integers_of, width_of, negated, at_most, at_least, where_some, sides_of_row, sides_of_column, rows_in, continuous_in, inequalities_of}
use Rattle.bz_model.specs.Splits.{FitsPart}
use Rattle.bz_model.specs.Strict.{HasItsColumns, size_of}
use Rattle.bz_model.proofs.MeetingParts.{all_append, all_then, all_kept, all_flat, all_of, numbers_within}
use Rattle.bz_model.proofs.PartSums.{beside, terms_in_within, negated_within}
use Rattle.bz_model.proofs.Sparse.{size_neg}

beside_within : (part : List ℕ) (b : ℕ) (es : List (ℕ × ℤ)) → AllBelow (length part) es → AllBelow (width_of part 0) (beside part b es)
beside_within part b es h = elim (cases_eq b 0) [
  | inl z ↦ rw (eq-eqb b 0 z) tt
  | inr d ↦ rw (ne_eqb b 0 d) (terms_in_within part 0 es h)
]

at_most_fits : (part : List ℕ) (b : ℕ) (es : List (ℕ × ℤ)) (rhs : ℤ) → AllBelow (length part) es → IsNarrow rhs → FitsPart part b (at_most part b es rhs)
at_most_fits part b es rhs h n = record { own = terms_in_within part b es h; master = beside_within part b es h; rhs = n }

at_least_fits : (part : List ℕ) (b : ℕ) (es : List (ℕ × ℤ)) (rhs : ℤ) → AllBelow (length part) es → IsNarrow rhs → FitsPart part b (at_least part b es rhs)
at_least_fits part b es rhs h n = at_most_fits part b (negated es) (neg_ℤ rhs) (negated_within (length part) es h) (rw (size_neg rhs) n)

all_some : {A : Type 0} (P : Ineq → Type 0) (o : Option A) (f : A → Ineq) → ((a : A) → o ≡ Some a → P (f a)) → AllByRecursion P (where_some o f)
all_some P None f h = tt
all_some P (Some a) f h = (h a refl, tt)

-- the inequalities of a part speak of its positions and of the master's
pub inequalities_fit : (m : Model) (part : List ℕ) (b : ℕ) → HasItsColumns m → length part ≡ length m.columns → AllByRecursion (FitsPart part b) (inequalities_of m part b)
inequalities_fit m part b h n = all_append P (flat_map (sides_of_row part b) (rows_in m part b)) (flat_map (sides_of_column part b) (continuous_in m part b))
    (all_flat P (sides_of_row part b) (rows_in m part b) (all_kept (λ row. AllByRecursion P (sides_of_row part b row)) _ m.rows (all_then _ _ m.rows h.rows (λ row w t. row_fits row (rw n w)))))
    (all_flat P (sides_of_column part b) (continuous_in m part b) (all_kept (λ e. AllByRecursion P (sides_of_column part b e)) _ (enumerate_from 0 m.columns) (all_then _ _ (enumerate_from 0 m.columns) (numbers_within 0 (length part) m.columns (omega (arith, n))) (λ e w t. column_fits e w))))
  where
    P : Ineq → Type 0
    P i = FitsPart part b i

    row_fits : (row : Row) → AllBelow (length part) row.terms → AllByRecursion P (sides_of_row part b row)
    row_fits row w = all_append P (where_some row.upper (at_most part b row.terms)) (where_some row.lower (at_least part b row.terms))
        (all_some P row.upper _ (λ u e. at_most_fits part b row.terms u w (row.upper_narrow u e)))
        (all_some P row.lower _ (λ l e. at_least_fits part b row.terms l w (row.lower_narrow l e)))

    column_fits : (e : ℕ × Column) → e.0 < length part → AllByRecursion P (sides_of_column part b e)
    column_fits e w = all_append P (where_some e.1.upper (λ f. at_most part b ((e.0, f.den) ∷ []) f.num)) (where_some e.1.lower (λ f. at_least part b ((e.0, f.den) ∷ []) f.num))
        (all_some P e.1.upper _ (λ f s. at_most_fits part b ((e.0, f.den) ∷ []) f.num (w, tt) f.narrow_num))
        (all_some P e.1.lower _ (λ f s. at_least_fits part b ((e.0, f.den) ∷ []) f.num (w, tt) f.narrow_num))

-- the master's inequalities have nothing beside their own terms
pub master_has_own_alone : (m : Model) (part : List ℕ) → AllByRecursion (λ i. i.master ≡ []) (inequalities_of m part 0)
master_has_own_alone m part = all_append P (flat_map (sides_of_row part 0) (rows_in m part 0)) (flat_map (sides_of_column part 0) (continuous_in m part 0))
    (all_flat P (sides_of_row part 0) (rows_in m part 0) (all_of _ _ (λ row. all_append P (where_some row.upper (at_most part 0 row.terms)) (where_some row.lower (at_least part 0 row.terms)) (all_some P row.upper _ (λ u s. refl)) (all_some P row.lower _ (λ l s. refl)))))
    (all_flat P (sides_of_column part 0) (continuous_in m part 0) (all_of _ _ (λ e. all_append P (where_some e.1.upper (λ f. at_most part 0 ((e.0, f.den) ∷ []) f.num)) (where_some e.1.lower (λ f. at_least part 0 ((e.0, f.den) ∷ []) f.num)) (all_some P e.1.upper _ (λ f s. refl)) (all_some P e.1.lower _ (λ f s. refl)))))
  where
    P : Ineq → Type 0
    P i = i.master ≡ []

-- ---- how many inequalities a part has
length-some : {A : Type 0} (o : Option A) (f : A → Ineq) → length (where_some o f) ≤ 1
length-some None f = omega arith
length-some (Some a) f = omega arith

length-sides_of_row : (part : List ℕ) (b : ℕ) (row : Row) → length (sides_of_row part b row) ≤ 2
length-sides_of_row part b row =
    omega (arith, length-append (where_some row.upper (at_most part b row.terms)) (where_some row.lower (at_least part b row.terms)), length-some row.upper (at_most part b row.terms), length-some row.lower (at_least part b row.terms))

length-sides_of_column : (part : List ℕ) (b : ℕ) (e : ℕ × Column) → length (sides_of_column part b e) ≤ 2
length-sides_of_column part b e =
    omega (arith, length-append (where_some e.1.upper (λ f. at_most part b ((e.0, f.den) ∷ []) f.num)) (where_some e.1.lower (λ f. at_least part b ((e.0, f.den) ∷ []) f.num)), length-some e.1.upper (λ f. at_most part b ((e.0, f.den) ∷ []) f.num), length-some e.1.lower (λ f. at_least part b ((e.0, f.den) ∷ []) f.num))

length-flat : {X : Type 0} (f : X → List Ineq) (t : X → Bool) (xs : List X) → ((x : X) → length (f x) ≤ 2) → length (flat_map f (filter t xs)) ≤ 2 * length xs
length-flat f t [] h = omega arith
length-flat f t (x ∷ xs) h = let more : length (flat_map f (filter t xs)) ≤ 2 * length xs = length-flat f t xs h in elim (cases_Bool (t x)) [
  | inl e ↦ rw e (omega (arith, length-append (f x) (flat_map f (filter t xs)), h x))
  | inr e ↦ rw e (omega arith)
]

-- at most two for each row and each column
pub length-inequalities : (m : Model) (part : List ℕ) (b : ℕ) → length (inequalities_of m part b) ≤ 2 * length m.rows + 2 * length m.columns
length-inequalities m part b =
    omega (
      arith,
      length-append (flat_map (sides_of_row part b) (rows_in m part b)) (flat_map (sides_of_column part b) (continuous_in m part b)),
      length-flat (sides_of_row part b) (λ row. home_of part row.terms == b) m.rows (length-sides_of_row part b),
      length-flat (sides_of_column part b) (λ e. (part_of part e.0 == b) && not e.1.integer) (enumerate_from 0 m.columns) (length-sides_of_column part b),
      length-enumerate_from 0 m.columns,
    )

pub size_within : (m : Model) (part : List ℕ) (b : ℕ) → size_of m part b ≤ 2 * length m.rows + 4 * length m.columns
size_within m part b =
    let l = length-inequalities m part b in
    let i : length (integers_of m) ≤ length m.columns = omega (arith, length-filter (λ (e : ℕ × Column). e.1.integer) (enumerate_from 0 m.columns), count_by-le-length (λ (e : ℕ × Column). e.1.integer) (enumerate_from 0 m.columns), length-enumerate_from 0 m.columns) in
    elim (cases_eq b 0) [
      | inl z ↦ rw (eq-eqb b 0 z) (omega (arith, l))
      | inr d ↦ rw (ne_eqb b 0 d) (omega (arith, l))
    ]
