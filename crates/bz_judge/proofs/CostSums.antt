-- Sums of a part's inner cost at a point, entry by entry.
use Rattle.std.proofs.Common.{◌≡◌, refl, sym, ◌∙◌, ap, ℕ, ◌+◌, ◌≤◌, true, false, List, [], ◌∷◌, ◌++◌, arith, ℤ, pos, ◌+ℤ◌, ◌*ℤ◌, Result, Ok, Err, append-nil}
use Rattle.std.specs.Result.{IsErrAnd}
use Rattle.bz_algebra.specs.Sums.{AllBelow, coef}
use Rattle.bz_num.specs.declared.WideSum.{WideSum}
use Rattle.bz_num.specs.Fold.{Taken, fold_from, fold_of, goes_wide}
use Rattle.bz_num.specs.Row.{IsSparse}
use Rattle.bz_num.proofs.Folds.{fold_from-step, fold_from-stop}
use Rattle.bz_model.specs.Parting.{width_of, inner_cost, terms_in}
use Rattle.bz_model.specs.Points.{coordinate}
use Rattle.bz_model.specs.Splits.{Decomposition, IsSplit}
use Rattle.bz_model.proofs.Sparse.{sparse_negated, sparse_terms_in}
use Rattle.bz_model.proofs.PartCosts.{negated_where}
use Rattle.bz_model.proofs.InnerCosts.{cost_terms_within, cost_within, decomposed}
use Rattle.bz_judge.specs.Sums.{Begins}
use Rattle.bz_model.specs.PointSums.{row_pairs}
use Rattle.bz_judge.proofs.LaterEntries.{later, later-all, later-end, later-none, later-some}

-- the cost of a part is sparse, and speaks of the part's positions
pub cost_sparse : (d : Decomposition) (b : ℕ) → IsSplit d → IsSparse d.model.cost → IsSparse (terms_in d.part b (inner_cost d.model))
cost_sparse d b s h = sparse_terms_in d.part b (inner_cost d.model) (cost_within d.model d.part (decomposed d s)) (negated_where d.model.maximise IsSparse d.model.cost (sparse_negated d.model.cost) h)

pub part_cost_within : (d : Decomposition) (b : ℕ) → IsSplit d → AllBelow (width_of d.part b) (terms_in d.part b (inner_cost d.model))
part_cost_within d b s = cost_terms_within d.model d.part b (decomposed d s)

-- what is taken, with the entries from a position on, is the sum of the whole
abbrev pub Stands : List (ℕ × ℤ) → List ℤ → ℕ → Taken → Type 0
Stands es x i taken = (rest : List (ℤ × ℤ)) → fold_of (row_pairs es x ++ rest) ≡ fold_from taken.count taken.sum (row_pairs (later i es) x ++ rest)

pub stands_start : (es : List (ℕ × ℤ)) (x : List ℤ) → IsSparse es → Stands es x 0 (record { sum = pos 0; count = 0 })
stands_start es x h rest = rw (later-all 0 0 es h (omega arith)) refl

pub stands_none : (es : List (ℕ × ℤ)) (x : List ℤ) (i : ℕ) (taken : Taken) → IsSparse es → coef es i ≡ pos 0 → Stands es x i taken → Stands es x (i + 1) taken
stands_none es x i taken h z s rest = rw (← later-none 0 i es h z) (s rest)

-- the entry at the position is the next
next : (es : List (ℕ × ℤ)) (x : List ℤ) (i : ℕ) (z : ℤ) (taken : Taken) → IsSparse es → coef es i ≡ z → (z ≡ pos 0 → ⊥) → Stands es x i taken → (rest : List (ℤ × ℤ)) → fold_of (row_pairs es x ++ rest) ≡ fold_from taken.count taken.sum ((z, coordinate x i) ∷ (row_pairs (later (i + 1) es) x ++ rest))
next es x i z taken h e n s rest = s rest ∙ ap (λ (ps : List (ℕ × ℤ)). fold_from taken.count taken.sum (row_pairs ps x ++ rest)) (later-some 0 i es z h e n)

pub stands_some : (es : List (ℕ × ℤ)) (x : List ℤ) (i : ℕ) (z : ℤ) (taken after : Taken) → IsSparse es → coef es i ≡ z → (z ≡ pos 0 → ⊥) → goes_wide taken.sum (z, coordinate x i) ≡ false → after.sum ≡ taken.sum +ℤ (z *ℤ coordinate x i) → after.count ≡ taken.count + 1 → Stands es x i taken → Stands es x (i + 1) after
stands_some es x i z taken after h e n narrow sum count s rest =
    rw (sum, count) (next es x i z taken h e n s rest ∙ fold_from-step taken.count taken.sum (z, coordinate x i) (row_pairs (later (i + 1) es) x ++ rest) narrow)

-- a wide place is that of the whole
pub stands_wide : (es : List (ℕ × ℤ)) (x : List ℤ) (i : ℕ) (z : ℤ) (taken : Taken) (wide : WideSum) (result : Result Taken WideSum) → IsErrAnd result (λ w. w ≡ wide) → IsSparse es → coef es i ≡ z → (z ≡ pos 0 → ⊥) → goes_wide taken.sum (z, coordinate x i) ≡ true → wide.at ≡ taken.count → Stands es x i taken → Begins (row_pairs es x) result
stands_wide es x i z taken wide (Ok t) told h e n goes at s = absurd told
stands_wide es x i z taken wide (Err w) told h e n goes at s = λ rest.
    let here : record { at = taken.count } ≡ w = rw told (ap (λ (k : ℕ). let r : WideSum = record { at = k } in r) (sym at)) in
    next es x i z taken h e n s rest ∙ fold_from-stop taken.count taken.sum (z, coordinate x i) (row_pairs (later (i + 1) es) x ++ rest) goes ∙ ap Err here

-- after all positions nothing is to come
pub stands_end : (es : List (ℕ × ℤ)) (x : List ℤ) (n i : ℕ) (taken : Taken) → AllBelow n es → n ≤ i → Stands es x i taken → Begins (row_pairs es x) (Ok taken)
stands_end es x n i taken h l s rest = rw (later-end n i es h l) at (s rest)

-- the whole sum
pub begun_ok : (ps : List (ℤ × ℤ)) (taken : Taken) → Begins ps (Ok taken) → Ok taken.sum ≡ fold_of ps
begun_ok ps taken h = sym (rw append-nil at (h []))

pub begun_wide : (ps : List (ℤ × ℤ)) (wide : WideSum) (result : Result ℤ WideSum) → IsErrAnd result (λ w. w ≡ wide) → Begins ps (Err wide) → result ≡ fold_of ps
begun_wide ps wide (Ok z) told h = absurd told
begun_wide ps wide (Err w) told h = rw told (sym (rw append-nil at (h [])))
