-- A cost compared with the columns of terms, variable by variable.
use Rattle.std.proofs.Common.{◌≡◌, ◌<◌, ◌≤◌, refl, sym, ◌∙◌, ap, subst, inl, inr, ℕ, zero, suc, ◌+◌, ◌*◌, ◌-◌, ◌⊎◌, List, [], ◌∷◌, ◌++◌, arith, ℤ, pos, neg_ℤ, true, false, nat_lt}
use Rattle.std.proofs.lemmas.Bool.{cases_Bool, cases_eq, ltb-true, ltb-false}
use Rattle.bz_algebra.specs.Sums.{AllBelow, coef}
use Rattle.bz_num.specs.Row.{IsSparse, IsSparseFrom}
use Rattle.bz_model.specs.Parting.{blocks_of, inner_cost, terms_in, width_of}
use Rattle.bz_model.specs.Splits.{Decomposition, IsSplit}
use Rattle.bz_model.proofs.InnerCosts.{cost_terms_within, cost_within, decomposed}
use Rattle.bz_model.proofs.PartCosts.{negated_where}
use Rattle.bz_model.proofs.Sparse.{sparse_negated, sparse_terms_in}
use Rattle.bz_cut.specs.declared.Mode.{Mode}
use Rattle.bz_cut.specs.declared.Mode.TheVariants as mode
use Rattle.bz_std.specs.Compared.{HasNumber, HasNumbers, HasOnes}
use Rattle.bz_std.specs.Posed.{over_columns}
use Rattle.bz_std.specs.Tasks.{node_cost, ones}
use Rattle.bz_std.proofs.ColumnSums.{coef_even, coef_odd, columns_below}
use Rattle.bz_std.proofs.LeavesMade.{cost_on_eta, cost_on_master}
use Rattle.bz_std.proofs.OverColumns.{over_sparse}
use Rattle.bz_std.proofs.PosedTasks.{node_cost_below}
use Rattle.bz_std.proofs.SparseLists.{sparse_same}

-- ---- one place more
pub below_next : (P : ℕ → Type 0) (k : ℕ) → P k → ((j : ℕ) → j < k → P j) → (j : ℕ) → j < k + 1 → P j
below_next P k p h j l = elim (cases_eq k j) [ inl e ↦ subst P e p | inr d ↦ h j (omega (arith, d)) ]

-- ---- a variable's two columns
Halves : ℕ → Type 0
Halves i = ((j : ℕ) × (i ≡ 2 * j)) ⊎ ((j : ℕ) × (i ≡ 2 * j + 1))

halves : (i : ℕ) → Halves i
unfolding Halves
halves zero = inl (0, refl)
halves (suc i) = elim (halves i) [
  | inl e ↦ inr (e.0, omega (arith, e.1))
  | inr o ↦ inl (o.0 + 1, omega (arith, o.1))
]

module _ (n : ℕ) (row cost : List (ℕ × ℤ)) where
  -- a row with the cost's numbers is the cost's
  pub cost_is : IsSparse row → IsSparse cost → AllBelow (2 * n) row → AllBelow n cost → HasNumbers row n (coef cost) → row ≡ over_columns cost
  unfolding Halves
  cost_is s t b c h = sparse_same (2 * n) row (over_columns cost) s (over_sparse cost t) b (columns_below n cost c) each
    where
      each : (i : ℕ) → i < 2 * n → coef row i ≡ coef (over_columns cost) i
      each i l = elim (halves i) [
        | inl e ↦ let k : i ≡ 2 * e.0 = e.1 in rw k ((h e.0 (omega (arith, k))).first ∙ sym (coef_even cost e.0))
        | inr o ↦ let k : i ≡ 2 * o.0 + 1 = o.1 in rw k ((h o.0 (omega (arith, k))).second ∙ sym (coef_odd cost o.0))
      ]

  pub has_cost : row ≡ over_columns cost → HasNumbers row n (coef cost)
  has_cost e j l = record {
    first = ap (λ (r : List (ℕ × ℤ)). coef r (2 * j)) e ∙ coef_even cost j;
    second = ap (λ (r : List (ℕ × ℤ)). coef r (2 * j + 1)) e ∙ coef_odd cost j;
  }

  pub cost_below : AllBelow n cost → row ≡ over_columns cost → AllBelow (2 * n) row
  cost_below c e = rw e (columns_below n cost c)

-- ---- costs are sparse
pub part_cost_sparse : (d : Decomposition) (b : ℕ) → IsSplit d → IsSparse d.model.cost → IsSparse (terms_in d.part b (inner_cost d.model))
part_cost_sparse d b s h = sparse_terms_in d.part b (inner_cost d.model) (cost_within d.model d.part (decomposed d s)) (negated_where d.model.maximise IsSparse d.model.cost (sparse_negated d.model.cost) h)

ones_sparse : (low n k : ℕ) → low ≤ n → IsSparseFrom low (ones n k)
ones_sparse low n zero l = tt
ones_sparse low n (suc k) l = (record { column = l; some = omega arith; narrow = omega arith }, ones_sparse (suc n) (suc n) k (omega arith))

joined_sparse : (low n : ℕ) (es gs : List (ℕ × ℤ)) → low ≤ n → IsSparseFrom low es → AllBelow n es → ((least : ℕ) → least ≤ n → IsSparseFrom least gs) → IsSparseFrom low (es ++ gs)
joined_sparse low n [] gs l h b g = g low l
joined_sparse low n (e ∷ es) gs l h b g = let at : e.0 < n = b.0 in (h.0, joined_sparse (suc e.0) n es gs (omega arith) h.1 b.1 g)

module _ (d : Decomposition) (s : IsSplit d) (h : IsSparse d.model.cost) where
  abbrev width : ℕ
  width = width_of d.part 0

  abbrev whole : List (ℕ × ℤ)
  whole = node_cost d.model d.part mode.Cost

  node_sparse : IsSparse whole
  node_sparse = joined_sparse 0 width (terms_in d.part 0 (inner_cost d.model)) (ones width (blocks_of d.part)) (omega arith) (part_cost_sparse d 0 s h) (cost_terms_within d.model d.part 0 (decomposed d s)) (λ least l. ones_sparse least width (blocks_of d.part) l)

  pub node_cost_is : (row : List (ℕ × ℤ)) → IsSparse row → AllBelow (2 * (width + blocks_of d.part)) row → HasNumbers row (width + blocks_of d.part) (coef whole) → row ≡ over_columns whole
  node_cost_is row r b n = cost_is (width + blocks_of d.part) row whole r node_sparse b (node_cost_below d.model d.part (decomposed d s) mode.Cost) n

-- the numbers of the positions and of the etas
module _ (d : Decomposition) (s : IsSplit d) (row : List (ℕ × ℤ)) where
  pub numbers_joined : HasNumbers row (width_of d.part 0) (coef (terms_in d.part 0 (inner_cost d.model))) → HasOnes row (width_of d.part 0) (blocks_of d.part) → HasNumbers row (width_of d.part 0 + blocks_of d.part) (coef (node_cost d.model d.part mode.Cost))
  numbers_joined a b j l = elim (cases_Bool (nat_lt j (width_of d.part 0))) [
    | inl t ↦ subst (λ (z : ℤ). HasNumber row j z) (sym (cost_on_master d.model d.part (decomposed d s) j (ltb-true j (width_of d.part 0) t))) (a j (ltb-true j (width_of d.part 0) t))
    | inr t ↦
        let least : width_of d.part 0 ≤ j = ltb-false j (width_of d.part 0) t in
        let same : width_of d.part 0 + (j - width_of d.part 0) ≡ j = omega arith in
        let few : j - width_of d.part 0 < blocks_of d.part = omega arith in
        subst (λ (i : ℕ). HasNumber row i (coef (node_cost d.model d.part mode.Cost) i)) same
        (subst (λ (z : ℤ). HasNumber row (width_of d.part 0 + (j - width_of d.part 0)) z) (sym (cost_on_eta d.model d.part (decomposed d s) (j - width_of d.part 0) few)) (b (j - width_of d.part 0) few))
  ]

  pub numbers_first : HasNumbers row (width_of d.part 0 + blocks_of d.part) (coef (node_cost d.model d.part mode.Cost)) → HasNumbers row (width_of d.part 0) (coef (terms_in d.part 0 (inner_cost d.model)))
  numbers_first n j l = subst (λ (z : ℤ). HasNumber row j z) (cost_on_master d.model d.part (decomposed d s) j l) (n j (omega arith))

  pub numbers_second : HasNumbers row (width_of d.part 0 + blocks_of d.part) (coef (node_cost d.model d.part mode.Cost)) → HasOnes row (width_of d.part 0) (blocks_of d.part)
  numbers_second n k l = subst (λ (z : ℤ). HasNumber row (width_of d.part 0 + k) z) (cost_on_eta d.model d.part (decomposed d s) k l) (n (width_of d.part 0 + k) (omega arith))
