-- A basis of the relaxed program without its column s is a basis of the program itself, with the same rows.
use Rattle.std.specs.Prelude.{ℕ, suc, ◌+◌, ◌-◌, ◌<◌, ◌≤◌, ◌≡◌, ◌≢◌, ℤ, pos, ◌*ℤ◌, ◌≤ℤ◌, ◌<ℤ◌, true, false, unsigned_abs}
use Rattle.std.specs.Int.{◌∣◌}
use Rattle.std.proofs.Common.{refl, ap, sym, subst, ◌∙◌, arith}
use Rattle.std.proofs.lemmas.Bool.{ne_eqb, lt-ltb, le-ltb}
use Rattle.bz_algebra.specs.Sums.{upto}
use Rattle.bz_algebra.specs.Tableaus.{Program, Equations, side, row_entry, rows_of, IsCombination, IsPrimitive, IsRow, AreColumns, IsTableau, IsBasis, IsWithin}
use Rattle.bz_algebra.proofs.Bounded.{by_lt}
use Rattle.bz_algebra.proofs.Divisors.{multipliers_primitive}
use Rattle.bz_algebra.proofs.SumLemmas.{upto_same}
use Rattle.bz_algebra.proofs.Uniqueness.{column_row}
use Rattle.bz_lex.specs.Renumbering.{unrelaxed, relaxed_number, unrelaxed_basis}

-- ---- the numbers
pub unrelaxed_before : (s j : ℕ) → j < s → unrelaxed s j ≡ j
unrelaxed_before s j b = rw (lt-ltb j s b)

pub unrelaxed_behind : (s j : ℕ) → s ≤ j → unrelaxed s j ≡ j - 1
unrelaxed_behind s j b = rw (le-ltb j s b)

pub number_before : (s j : ℕ) → j < s → relaxed_number s j ≡ j
number_before s j b = rw (lt-ltb j s b)

pub number_behind : (s j : ℕ) → s ≤ j → relaxed_number s j ≡ suc j
number_behind s j b = rw (le-ltb j s b)

-- back and forth
pub number_unrelaxed : (s j : ℕ) → j ≢ s → relaxed_number s (unrelaxed s j) ≡ j
number_unrelaxed s j n = by_lt j s
    (λ b. ap (relaxed_number s) (unrelaxed_before s j b) ∙ number_before s j b)
    (λ b. ap (relaxed_number s) (unrelaxed_behind s j b) ∙ number_behind s (j - 1) (omega arith) ∙ omega arith)

one_more : (a b : ℕ) → suc (a + b) ≡ suc a + b
one_more a b = omega arith

module _ (p : Program) where
  abbrev from : Equations
  from = rows_of true p

  abbrev to : Equations
  to = rows_of false p

  abbrev moved : (ℕ → ℤ) → ℕ → ℤ
  moved v j = v (relaxed_number p.columns j)

  same_slack : (v : ℕ → ℤ) (i : ℕ) → v (from.slack + i) ≡ moved v (to.slack + i)
  same_slack v i = ap v (sym (number_behind p.columns (p.columns + i) (omega arith) ∙ one_more p.columns i))

  moved_sum : (v : ℕ → ℤ) (e g : ℕ → ℤ) → ((i : ℕ) → e i ≡ g i) → upto p.rows (λ i. v (from.slack + i) *ℤ e i) ≡ upto p.rows (λ i. moved v (to.slack + i) *ℤ g i)
  moved_sum v e g h = upto_same p.rows _ _ (λ i b. (λ k. same_slack v i k *ℤ h i k))

  moved_combination : (v : ℕ → ℤ) → IsCombination from v → IsCombination to (moved v)
  moved_combination v c = record {
    columns = λ j b. ap v (number_before p.columns j b) ∙ c.columns j (omega arith) ∙ moved_sum v (λ i. row_entry true p i j) (λ i. row_entry false p i j) (λ i. entry i j b);
    right = ap v (number_behind p.columns (side to) (omega arith) ∙ one_more p.columns p.rows) ∙ c.right ∙ moved_sum v p.rhs p.rhs (λ i. refl);
  }
    where
      entry : (i j : ℕ) → j < p.columns → row_entry true p i j ≡ row_entry false p i j
      entry i j b = rw (ne_eqb j p.columns (λ e. omega arith))

  moved_primitive : (v : ℕ → ℤ) → IsCombination from v → IsPrimitive from v → IsPrimitive to (moved v)
  moved_primitive v c q d h = multipliers_primitive from v c q d (λ i b. subst (λ (z : ℤ). d ∣ unsigned_abs z) (sym (same_slack v i)) (h (to.slack + i) (omega arith)))

  module _ (basis : ℕ → ℕ) (away : (i : ℕ) → i < p.rows → basis i ≢ p.columns) where
    moved_at : (v : ℕ → ℤ) (i : ℕ) → i < p.rows → moved v (unrelaxed_basis p.columns basis i) ≡ v (basis i)
    moved_at v i b = ap v (number_unrelaxed p.columns (basis i) (away i b))

    moved_row : (i : ℕ) (v : ℕ → ℤ) → i < p.rows → IsRow from basis i v → IsRow to (unrelaxed_basis p.columns basis) i (moved v)
    moved_row i v b r = record {
      combination = moved_combination v r.combination;
      primitive = moved_primitive v r.combination r.primitive;
      positive = subst (λ (z : ℤ). (pos 0) <ℤ z) (sym (moved_at v i b)) r.positive;
      cleared = λ k c n. moved_at v k c ∙ r.cleared k c n;
    }

    moved_columns : AreColumns from basis → AreColumns to (unrelaxed_basis p.columns basis)
    moved_columns a = record {
      in_range = λ i b. by_lt (basis i) p.columns
          (λ l. subst (λ (x : ℕ). x < side to) (sym (unrelaxed_before p.columns (basis i) l)) (omega arith))
          (λ l. subst (λ (x : ℕ). x < side to) (sym (unrelaxed_behind p.columns (basis i) l)) (omega (arith, a.in_range i b, away i b)));
      different = λ i k b c e. a.different i k b c (sym (number_unrelaxed p.columns (basis i) (away i b)) ∙ ap (relaxed_number p.columns) e ∙ number_unrelaxed p.columns (basis k) (away k c));
    }

-- a basis of the relaxed program's rows, s at none of its places, is a basis of the program's rows
pub basis_unrelaxed : (p : Program) (basis : ℕ → ℕ) → IsBasis (rows_of true p) basis → ((i : ℕ) → i < p.rows → basis i ≢ p.columns) → IsBasis (rows_of false p) (unrelaxed_basis p.columns basis)
basis_unrelaxed p basis g away = record {
  columns = moved_columns p basis away g.columns;
  has_row = λ i b. let f = g.has_row i b in (moved p f.0, moved_row p basis away i f.0 b f.1);
}

-- its rows are the same without s
pub row_unrelaxed : (p : Program) (basis : ℕ → ℕ) (i : ℕ) (v : ℕ → ℤ) → ((k : ℕ) → k < p.rows → basis k ≢ p.columns) → i < p.rows → IsRow (rows_of true p) basis i v → IsRow (rows_of false p) (unrelaxed_basis p.columns basis) i (λ j. v (relaxed_number p.columns j))
row_unrelaxed p basis i v away b r = moved_row p basis away i v b r

-- a tableau of the program at the same columns, in whatever order, has the same right sides
pub right_unrelaxed : (p : Program) (basis other : ℕ → ℕ) (u : ℕ → ℕ → ℤ) (v : ℕ → ℤ) (i k : ℕ) → ((l : ℕ) → l < p.rows → basis l ≢ p.columns) → i < p.rows → IsRow (rows_of true p) basis i v
    → IsTableau (rows_of false p) other u → IsWithin p.rows other (unrelaxed_basis p.columns basis) → k < p.rows → unrelaxed p.columns (basis i) ≡ other k → u k (side (rows_of false p)) ≡ v (side (rows_of true p))
right_unrelaxed p basis other u v i k away b r t within c e =
    column_row (rows_of false p) other (unrelaxed_basis p.columns basis) u (λ j. v (relaxed_number p.columns j)) k i t within c (row_unrelaxed p basis i v away b r) e (side (rows_of false p)) (omega arith)
    ∙ ap v (number_behind p.columns (side (rows_of false p)) (omega arith) ∙ one_more p.columns p.rows)

-- so it has no negative right side where the relaxed one has none
pub rights_unrelaxed : (p : Program) (basis other : ℕ → ℕ) (w u : ℕ → ℕ → ℤ) → ((l : ℕ) → l < p.rows → basis l ≢ p.columns) → ((i : ℕ) → i < p.rows → IsRow (rows_of true p) basis i (w i)) → ((i : ℕ) → i < p.rows → (pos 0) ≤ℤ (w i (side (rows_of true p))))
    → IsTableau (rows_of false p) other u → IsWithin p.rows other (unrelaxed_basis p.columns basis) → (k : ℕ) → k < p.rows → (pos 0) ≤ℤ (u k (side (rows_of false p)))
rights_unrelaxed p basis other w u away r h t within k c = let f = within k c in subst (λ (z : ℤ). (pos 0) ≤ℤ z) (sym (right_unrelaxed p basis other u (w f.0) f.0 k away f.1 (r f.0 f.1) t within c f.2)) (h f.0 f.1)
