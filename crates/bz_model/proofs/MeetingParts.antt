-- A point is feasible exactly where it meets every part.
use Rattle.std.specs.Prelude.{ℕ, ◌+◌, ◌<◌, ◌≤◌, ◌≡◌, ◌↔◌, Bool, true, false, not, ◌&&◌, nat_lt, ℤ, ◌+ℤ◌, ◌*ℤ◌, ◌≤ℤ◌, neg_ℤ, List, [], ◌∷◌, ◌++◌, length, filter, Option, Some, None, IfSome, ◌==◌}
use Rattle.std.specs.List.{AllByRecursion, enumerate_from, flat_map}
use Rattle.std.proofs.Common.{refl, sym, subst, arith, inl, inr}
use Rattle.std.proofs.lemmas.Int.{ints}
use Rattle.std.proofs.lemmas.Bool.{cases_Bool, eq-eqb, eqb-true, OnTrue_at, OnTrue_from, and_parts, and_from, not_from_false, both_ways}
use Rattle.bz_algebra.specs.Sums.{dot, AllBelow}
use Rattle.bz_algebra.proofs.Ring.{neg_mul}
use Rattle.bz_model.specs.declared.records.Column.{Column}
use Rattle.bz_model.specs.declared.records.Ineq.{Ineq}
use Rattle.bz_model.specs.declared.records.Model.{Model}
use Rattle.bz_model.specs.declared.records.Row.{Row}
use Rattle.bz_num.specs.declared.Frac.{Frac}
use Rattle.bz_model.specs.Meeting.{MeetsAllParts}
use Rattle.bz_model.specs.Parting.{part_of, blocks_of, terms_in, home_of, negated, at_most, at_least, where_some, sides_of_row, sides_of_column, rows_in, continuous_in, IneqHolds}
use Rattle.bz_model.specs.Points.{coordinate, RowHolds, IsWithinBounds, IsWhole, ColumnHolds, IsFeasible}
use Rattle.bz_model.specs.Strict.{HasItsColumns, IsPartition, IsInOneBlock}
use Rattle.bz_model.proofs.Positions.{part_within_blocks}
use Rattle.bz_model.proofs.PartSums.{at_part, AreIn, beside, dot_beside, dot_negated, negated_within, negated_in}

-- ---- lists of facts
module _ {X : Type 0} where
  pub all_append : (P : X → Type 0) (xs ys : List X) → AllByRecursion P xs → AllByRecursion P ys → AllByRecursion P (xs ++ ys)
  all_append P [] ys h i = i
  all_append P (x ∷ xs) ys h i = (h.0, all_append P xs ys h.1 i)

  pub all_front : (P : X → Type 0) (xs ys : List X) → AllByRecursion P (xs ++ ys) → AllByRecursion P xs
  all_front P [] ys h = tt
  all_front P (x ∷ xs) ys h = (h.0, all_front P xs ys h.1)

  pub all_back : (P : X → Type 0) (xs ys : List X) → AllByRecursion P (xs ++ ys) → AllByRecursion P ys
  all_back P [] ys h = h
  all_back P (x ∷ xs) ys h = all_back P xs ys h.1

  pub all_of : (P : X → Type 0) (xs : List X) → ((x : X) → P x) → AllByRecursion P xs
  all_of P [] h = tt
  all_of P (x ∷ xs) h = (h x, all_of P xs h)

  pub all_then : (P Q : X → Type 0) (xs : List X) → AllByRecursion P xs → ((x : X) → P x → Q x) → AllByRecursion Q xs
  all_then P Q [] h f = tt
  all_then P Q (x ∷ xs) h f = (f x h.0, all_then P Q xs h.1 f)

  pub all_both : (P Q R : X → Type 0) (xs : List X) → AllByRecursion P xs → AllByRecursion Q xs → ((x : X) → P x → Q x → R x) → AllByRecursion R xs
  all_both P Q R [] h i f = tt
  all_both P Q R (x ∷ xs) h i f = (f x h.0 i.0, all_both P Q R xs h.1 i.1 f)

  -- of the elements that pass, and of each element that passes
  pub all_kept : (P : X → Type 0) (t : X → Bool) (xs : List X) → AllByRecursion (λ x. t x ≡ true → P x) xs → AllByRecursion P (filter t xs)
  all_kept P t [] h = tt
  all_kept P t (x ∷ xs) h = elim (cases_Bool (t x)) [
    | inl e ↦ rw e (h.0 e, all_kept P t xs h.1)
    | inr e ↦ rw e (all_kept P t xs h.1)
  ]

  pub all_from_kept : (P : X → Type 0) (t : X → Bool) (xs : List X) → AllByRecursion P (filter t xs) → AllByRecursion (λ x. t x ≡ true → P x) xs
  all_from_kept P t [] h = tt
  all_from_kept P t (x ∷ xs) h = elim (cases_Bool (t x)) [
    | inl e ↦ let k = rw e at h in ((λ g. k.0), all_from_kept P t xs k.1)
    | inr e ↦ let k = rw e at h in ((λ g. absurd (both_ways (t x) e g)), all_from_kept P t xs k)
  ]

pub all_flat : {X A : Type 0} (P : A → Type 0) (f : X → List A) (xs : List X) → AllByRecursion (λ x. AllByRecursion P (f x)) xs → AllByRecursion P (flat_map f xs)
all_flat P f [] h = tt
all_flat P f (x ∷ xs) h = all_append P (f x) (flat_map f xs) h.0 (all_flat P f xs h.1)

pub all_from_flat : {X A : Type 0} (P : A → Type 0) (f : X → List A) (xs : List X) → AllByRecursion P (flat_map f xs) → AllByRecursion (λ x. AllByRecursion P (f x)) xs
all_from_flat P f [] h = tt
all_from_flat P f (x ∷ xs) h = (all_front P (f x) (flat_map f xs) h, all_from_flat P f xs (all_back P (f x) (flat_map f xs) h))

-- what holds of each part's elements holds of each element in its own part
pub all_at_home : {X : Type 0} (P : ℕ → X → Type 0) (home : X → ℕ) (n : ℕ) (xs : List X) → ((x : X) → home x ≤ n) → ((b : ℕ) → b ≤ n → AllByRecursion (λ x. home x ≡ b → P b x) xs) → AllByRecursion (λ x. P (home x) x) xs
all_at_home P home n [] l h = tt
all_at_home P home n (x ∷ xs) l h = ((h (home x) (l x)).0 refl, all_at_home P home n xs l (λ b k. (h b k).1))

-- the numbers of a list's elements
pub numbers_within : {X : Type 0} (n k : ℕ) (xs : List X) → n + length xs ≡ k → AllByRecursion (λ e. e.0 < k) (enumerate_from n xs)
numbers_within n k [] h = tt
numbers_within n k (x ∷ xs) h = (omega arith, numbers_within (n + 1) k xs (omega arith))

-- ---- one side
module _ (part : List ℕ) (b : ℕ) (p : List ℤ) (q : ℤ) where
  -- the left side of an inequality of terms is their sum
  left : (es : List (ℕ × ℤ)) → AllBelow (length part) es → AreIn part b es → dot (terms_in part b es) (at_part part b (coordinate p)) +ℤ dot (beside part b es) (at_part part 0 (coordinate p)) ≡ dot es (coordinate p)
  left es h i = dot_beside part b es (coordinate p) h i

  pub at_most_holds : (es : List (ℕ × ℤ)) (rhs : ℤ) → AllBelow (length part) es → AreIn part b es → (dot es (coordinate p)) ≤ℤ (rhs *ℤ q) → IneqHolds part b p q (at_most part b es rhs)
  at_most_holds es rhs h i k = subst (λ (s : ℤ). s ≤ℤ (rhs *ℤ q)) (sym (left es h i)) k

  pub at_most_gives : (es : List (ℕ × ℤ)) (rhs : ℤ) → AllBelow (length part) es → AreIn part b es → IneqHolds part b p q (at_most part b es rhs) → (dot es (coordinate p)) ≤ℤ (rhs *ℤ q)
  at_most_gives es rhs h i k = subst (λ (s : ℤ). s ≤ℤ (rhs *ℤ q)) (left es h i) k

  pub at_least_holds : (es : List (ℕ × ℤ)) (rhs : ℤ) → AllBelow (length part) es → AreIn part b es → (rhs *ℤ q) ≤ℤ (dot es (coordinate p)) → IneqHolds part b p q (at_least part b es rhs)
  at_least_holds es rhs h i k = at_most_holds (negated es) (neg_ℤ rhs) (negated_within _ es h) (negated_in part b es i) (rw (dot_negated es (coordinate p), neg_mul rhs q) (omega (arith, ints)))

  pub at_least_gives : (es : List (ℕ × ℤ)) (rhs : ℤ) → AllBelow (length part) es → AreIn part b es → IneqHolds part b p q (at_least part b es rhs) → (rhs *ℤ q) ≤ℤ (dot es (coordinate p))
  at_least_gives es rhs h i k = let m = rw (dot_negated es (coordinate p), neg_mul rhs q) at (at_most_gives (negated es) (neg_ℤ rhs) (negated_within _ es h) (negated_in part b es i) k) in omega (arith, ints)

  -- ---- the sides of a row and of a column
  upper_of_row : (es : List (ℕ × ℤ)) (o : Option ℤ) → AllBelow (length part) es → AreIn part b es → IfSome o (λ u. (dot es (coordinate p)) ≤ℤ (u *ℤ q)) ↔ AllByRecursion (IneqHolds part b p q) (where_some o (at_most part b es))
  upper_of_row es None h i = ((λ k. tt), (λ k. tt))
  upper_of_row es (Some u) h i = ((λ k. (at_most_holds es u h i k, tt)), (λ k. at_most_gives es u h i k.0))

  lower_of_row : (es : List (ℕ × ℤ)) (o : Option ℤ) → AllBelow (length part) es → AreIn part b es → IfSome o (λ l. (l *ℤ q) ≤ℤ (dot es (coordinate p))) ↔ AllByRecursion (IneqHolds part b p q) (where_some o (at_least part b es))
  lower_of_row es None h i = ((λ k. tt), (λ k. tt))
  lower_of_row es (Some u) h i = ((λ k. (at_least_holds es u h i k, tt)), (λ k. at_least_gives es u h i k.0))

  pub row_sides : (row : Row) → AllBelow (length part) row.terms → AreIn part b row.terms → RowHolds row p q ↔ AllByRecursion (IneqHolds part b p q) (sides_of_row part b row)
  row_sides row h i =
      let u = upper_of_row row.terms row.upper h i in
      let l = lower_of_row row.terms row.lower h i in
      let us = where_some row.upper (at_most part b row.terms) in
      let ls = where_some row.lower (at_least part b row.terms) in (
        (λ r. all_append _ us ls (u.0 r.at_most) (l.0 r.at_least)),
        (λ s. record { at_least = l.1 (all_back _ us ls s); at_most = u.1 (all_front _ us ls s) }),
      )

  single : (j : ℕ) (d : ℤ) → dot ((j, d) ∷ []) (coordinate p) ≡ d *ℤ coordinate p j
  single j d = omega (arith, ints)

  upper_of_column : (j : ℕ) (o : Option Frac) → j < length part → part_of part j ≡ b → IfSome o (λ f. (f.den *ℤ coordinate p j) ≤ℤ (f.num *ℤ q)) ↔ AllByRecursion (IneqHolds part b p q) (where_some o (λ f. at_most part b ((j, f.den) ∷ []) f.num))
  upper_of_column j None h i = ((λ k. tt), (λ k. tt))
  upper_of_column j (Some f) h i = (
    (λ k. (at_most_holds ((j, f.den) ∷ []) f.num (h, tt) (inr i, tt) (subst (λ (s : ℤ). s ≤ℤ (f.num *ℤ q)) (sym (single j f.den)) k), tt)),
    (λ k. subst (λ (s : ℤ). s ≤ℤ (f.num *ℤ q)) (single j f.den) (at_most_gives ((j, f.den) ∷ []) f.num (h, tt) (inr i, tt) k.0)),
  )

  lower_of_column : (j : ℕ) (o : Option Frac) → j < length part → part_of part j ≡ b → IfSome o (λ f. (f.num *ℤ q) ≤ℤ (f.den *ℤ coordinate p j)) ↔ AllByRecursion (IneqHolds part b p q) (where_some o (λ f. at_least part b ((j, f.den) ∷ []) f.num))
  lower_of_column j None h i = ((λ k. tt), (λ k. tt))
  lower_of_column j (Some f) h i = (
    (λ k. (at_least_holds ((j, f.den) ∷ []) f.num (h, tt) (inr i, tt) (subst (λ (s : ℤ). (f.num *ℤ q) ≤ℤ s) (sym (single j f.den)) k), tt)),
    (λ k. subst (λ (s : ℤ). (f.num *ℤ q) ≤ℤ s) (single j f.den) (at_least_gives ((j, f.den) ∷ []) f.num (h, tt) (inr i, tt) k.0)),
  )

  pub column_sides : (e : ℕ × Column) → e.0 < length part → part_of part e.0 ≡ b → IsWithinBounds e.1.lower e.1.upper (coordinate p e.0) q ↔ AllByRecursion (IneqHolds part b p q) (sides_of_column part b e)
  column_sides e h i =
      let u = upper_of_column e.0 e.1.upper h i in
      let l = lower_of_column e.0 e.1.lower h i in
      let us = where_some e.1.upper (λ f. at_most part b ((e.0, f.den) ∷ []) f.num) in
      let ls = where_some e.1.lower (λ f. at_least part b ((e.0, f.den) ∷ []) f.num) in (
        (λ r. all_append _ us ls (u.0 r.at_most) (l.0 r.at_least)),
        (λ s. record { at_least = l.1 (all_back _ us ls s); at_most = u.1 (all_front _ us ls s) }),
      )

-- ---- rows and columns of all parts
-- what is known of a row: its columns are columns of the model, in the master or in its home
record IsPlacedRow (part : List ℕ) (row : Row) : Type 0 where
  within : AllBelow (length part) row.terms
  in_one : IsInOneBlock part row.terms

pub home_within : (part : List ℕ) (es : List (ℕ × ℤ)) → home_of part es ≤ blocks_of part
home_within part [] = omega arith
home_within part (e ∷ es) = elim (cases_Bool (nat_lt 0 (part_of part e.0))) [
  | inl t ↦ rw t (part_within_blocks part e.0)
  | inr t ↦ rw t (home_within part es)
]

module _ (m : Model) (part : List ℕ) (p : List ℤ) (q : ℤ) where
  abbrev Holds : ℕ → Ineq → Type 0
  Holds b i = IneqHolds part b p q i

  rows_give : (rows : List Row) (b : ℕ) → AllByRecursion (IsPlacedRow part) rows → AllByRecursion (λ row. RowHolds row p q) rows → AllByRecursion (Holds b) (flat_map (sides_of_row part b) (filter (λ row. home_of part row.terms == b) rows))
  rows_give rows b h k =
      all_flat (Holds b) (sides_of_row part b) _
      (all_kept (λ row. AllByRecursion (Holds b) (sides_of_row part b row)) (λ row. home_of part row.terms == b) rows
      (all_both _ _ _ rows h k (λ row f r t. (row_sides part b p q row f.within (subst (λ (c : ℕ). AreIn part c row.terms) (eqb-true (home_of part row.terms) b t) f.in_one)).0 r)))

  give_rows : (rows : List Row) → AllByRecursion (IsPlacedRow part) rows → ((b : ℕ) → b ≤ blocks_of part → AllByRecursion (Holds b) (flat_map (sides_of_row part b) (filter (λ row. home_of part row.terms == b) rows))) → AllByRecursion (λ row. RowHolds row p q) rows
  give_rows rows h k =
      all_both _ _ _ rows h
      (all_at_home (λ b row. AllByRecursion (Holds b) (sides_of_row part b row)) (λ row. home_of part row.terms) (blocks_of part) rows (λ row. home_within part row.terms)
      (λ b l. all_then _ _ rows (all_from_kept (λ row. AllByRecursion (Holds b) (sides_of_row part b row)) (λ row. home_of part row.terms == b) rows (all_from_flat (Holds b) (sides_of_row part b) _ (k b l)))
      (λ row f e. f (eq-eqb (home_of part row.terms) b e))))
      (λ row f s. (row_sides part (home_of part row.terms) p q row f.within f.in_one).1 s)

  columns_give : (cs : List (ℕ × Column)) (b : ℕ) → AllByRecursion (λ e. e.0 < length part) cs → AllByRecursion (λ e. ColumnHolds e.1 (coordinate p e.0) q) cs → AllByRecursion (Holds b) (flat_map (sides_of_column part b) (filter (λ e. (part_of part e.0 == b) && not e.1.integer) cs))
  columns_give cs b h k =
      all_flat (Holds b) (sides_of_column part b) _
      (all_kept (λ e. AllByRecursion (Holds b) (sides_of_column part b e)) (λ e. (part_of part e.0 == b) && not e.1.integer) cs
      (all_both _ _ _ cs h k (λ e l c t. (column_sides part b p q e l (eqb-true (part_of part e.0) b (and_parts (part_of part e.0 == b) (not e.1.integer) t).0)).0 c.bounds)))

  -- the bounds of the columns that are no integers
  give_bounds : (cs : List (ℕ × Column)) → AllByRecursion (λ e. e.0 < length part) cs → ((b : ℕ) → b ≤ blocks_of part → AllByRecursion (Holds b) (flat_map (sides_of_column part b) (filter (λ e. (part_of part e.0 == b) && not e.1.integer) cs))) → AllByRecursion (λ e. e.1.integer ≡ false → IsWithinBounds e.1.lower e.1.upper (coordinate p e.0) q) cs
  give_bounds cs h k =
      all_both _ _ _ cs h
      (all_at_home (λ b e. e.1.integer ≡ false → AllByRecursion (Holds b) (sides_of_column part b e)) (λ e. part_of part e.0) (blocks_of part) cs (λ e. part_within_blocks part e.0)
      (λ b l. all_then _ _ cs (all_from_kept (λ e. AllByRecursion (Holds b) (sides_of_column part b e)) (λ e. (part_of part e.0 == b) && not e.1.integer) cs (all_from_flat (Holds b) (sides_of_column part b) _ (k b l)))
      (λ e f g i. f (and_from (part_of part e.0 == b) (not e.1.integer) (eq-eqb (part_of part e.0) b g) (not_from_false e.1.integer i)))))
      (λ e l s i. (column_sides part (part_of part e.0) p q e l refl).1 (s i))

  -- a column of each kind
  give_columns : (cs : List (ℕ × Column)) → AllByRecursion (λ e. e.1.integer ≡ false → IsWithinBounds e.1.lower e.1.upper (coordinate p e.0) q) cs → AllByRecursion (λ e. IsWithinBounds e.1.lower e.1.upper (coordinate p e.0) q) (filter (λ e. e.1.integer) cs) → AllByRecursion (λ e. IsWhole (coordinate p e.0) q) (filter (λ e. e.1.integer) cs) → AllByRecursion (λ e. ColumnHolds e.1 (coordinate p e.0) q) cs
  give_columns cs h k w =
      all_both _ _ _ cs h
      (all_both _ _ (λ e. e.1.integer ≡ true → IsWithinBounds e.1.lower e.1.upper (coordinate p e.0) q × IsWhole (coordinate p e.0) q) cs (all_from_kept (λ e. IsWithinBounds e.1.lower e.1.upper (coordinate p e.0) q) (λ e. e.1.integer) cs k) (all_from_kept (λ e. IsWhole (coordinate p e.0) q) (λ e. e.1.integer) cs w) (λ e f g i. (f i, g i)))
      (λ e f g. record {
        bounds = elim (cases_Bool e.1.integer) [ inl i ↦ (g i).0 | inr i ↦ f i ];
        integer = OnTrue_from e.1.integer (IsWhole (coordinate p e.0) q) (λ i. (g i).1);
      })

-- each row of a model that is parted has its place
placed_rows : (m : Model) (part : List ℕ) → HasItsColumns m → length part ≡ length m.columns → AllByRecursion (λ row. IsInOneBlock part row.terms) m.rows → AllByRecursion (IsPlacedRow part) m.rows
placed_rows m part h n o = all_both _ _ _ m.rows h.rows o (λ row w i. record { within = rw n w; in_one = i })

pub feasible_meets : (m : Model) (part : List ℕ) (p : List ℤ) (q : ℤ) → HasItsColumns m → IsPartition m part → AllByRecursion (λ row. IsInOneBlock part row.terms) m.rows → IsFeasible m p q → MeetsAllParts m part p q
feasible_meets m part p q h s o f = record {
  positive = f.positive;
  numbers = f.numbers;
  inequalities = λ b l. all_append _ (flat_map (sides_of_row part b) (rows_in m part b)) (flat_map (sides_of_column part b) (continuous_in m part b))
      (rows_give m part p q m.rows b (placed_rows m part h s.numbers o) f.rows)
      (columns_give m part p q (enumerate_from 0 m.columns) b (numbers_within 0 (length part) m.columns (omega (arith, s.numbers))) f.columns);
  bounds = all_kept _ _ (enumerate_from 0 m.columns) (all_then _ _ _ f.columns (λ e c i. c.bounds));
  whole = all_kept _ _ (enumerate_from 0 m.columns) (all_then _ _ _ f.columns (λ e c i. OnTrue_at i c.integer));
}

pub meeting_is_feasible : (m : Model) (part : List ℕ) (p : List ℤ) (q : ℤ) → HasItsColumns m → IsPartition m part → AllByRecursion (λ row. IsInOneBlock part row.terms) m.rows → MeetsAllParts m part p q → IsFeasible m p q
meeting_is_feasible m part p q h s o f = record {
  positive = f.positive;
  numbers = f.numbers;
  rows = give_rows m part p q m.rows (placed_rows m part h s.numbers o) (λ b l. all_front _ (flat_map (sides_of_row part b) (rows_in m part b)) (flat_map (sides_of_column part b) (continuous_in m part b)) (f.inequalities b l));
  columns = give_columns m part p q (enumerate_from 0 m.columns)
      (give_bounds m part p q (enumerate_from 0 m.columns) (numbers_within 0 (length part) m.columns (omega (arith, s.numbers))) (λ b l. all_back _ (flat_map (sides_of_row part b) (rows_in m part b)) (flat_map (sides_of_column part b) (continuous_in m part b)) (f.inequalities b l)))
      f.bounds f.whole;
}

-- a point is feasible exactly where it meets every part
pub feasible_is_meeting : (m : Model) (part : List ℕ) (p : List ℤ) (q : ℤ) → HasItsColumns m → IsPartition m part → AllByRecursion (λ row. IsInOneBlock part row.terms) m.rows → IsFeasible m p q ↔ MeetsAllParts m part p q
feasible_is_meeting m part p q h s o = (feasible_meets m part p q h s o, meeting_is_feasible m part p q h s o)
