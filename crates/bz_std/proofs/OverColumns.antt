-- Rows over two columns for each variable.
use Rattle.std.proofs.Common.{◌≡◌, refl, sym, ◌∙◌, ap, ℕ, zero, suc, ◌+◌, ◌*◌, ◌<◌, ◌≤◌, List, [], ◌∷◌, ◌++◌, length, drop, get_or, arith, ℤ, pos, negsuc, neg_ℤ, ◌-◌, append_assoc, append-nil, subst}
use Rattle.std.proofs.lemmas.Int.{ints}
use Rattle.std.specs.Int.RustNames.{unsigned_abs}
use Rattle.bz_algebra.specs.Sums.{AllBelow}
use Rattle.bz_num.specs.Row.{IsEntryFrom, IsSparse, IsSparseFrom, entry_at}
use Rattle.bz_model.proofs.Sparse.{left_at, size_neg}
use Rattle.bz_cut.specs.declared.Cut.{Cut}
use Rattle.bz_tree.specs.Leaves.{side_of_cut}
use Rattle.bz_std.specs.Posed.{Line, line_over_columns, over_columns}
use Rattle.bz_std.specs.Tasks.{side_line}

-- the columns of a sparse row rise
over_sparse_from : (low : ℕ) (es : List (ℕ × ℤ)) → IsSparseFrom low es → IsSparseFrom (2 * low) (over_columns es)
over_sparse_from low [] h = tt
over_sparse_from low (e ∷ es) h =
    let column : low ≤ e.0 = h.0.column in
    let first : IsEntryFrom (2 * low) (2 * e.0, e.1) = record { column = omega (arith, column); some = h.0.some; narrow = h.0.narrow } in
    let second : IsEntryFrom (suc (2 * e.0)) (2 * e.0 + 1, neg_ℤ e.1) = record { column = omega arith; some = rw (size_neg e.1) h.0.some; narrow = rw (size_neg e.1) h.0.narrow } in
    let rest : IsSparseFrom (suc (2 * e.0 + 1)) (over_columns es) = subst (λ (n : ℕ). IsSparseFrom n (over_columns es)) (omega arith) (over_sparse_from (suc e.0) es h.1) in
    (first, (second, rest))

pub over_sparse : (es : List (ℕ × ℤ)) → IsSparse es → IsSparse (over_columns es)
over_sparse es h = over_sparse_from 0 es h

-- one more pair, with what is still to come
pub over_next : (es : List (ℕ × ℤ)) (i : ℕ) (out new all : List (ℕ × ℤ)) → i < length es → new ≡ out ++ (2 * (get_or es i (0, pos 0)).0, (get_or es i (0, pos 0)).1) ∷ (2 * (get_or es i (0, pos 0)).0 + 1, neg_ℤ (get_or es i (0, pos 0)).1) ∷ [] → out ++ over_columns (drop i es) ≡ all → new ++ over_columns (drop (i + 1) es) ≡ all
over_next es i out new all l made h = rw made (append_assoc out _ _ ∙ ap (λ (ys : List (ℕ × ℤ)). out ++ ys) (sym (ap over_columns (left_at es i (0, pos 0) l))) ∙ h)

-- ---- one number more, which may be 0
pub below_more : (n j : ℕ) (z : ℤ) (es : List (ℕ × ℤ)) → j < n → AllBelow n es → AllBelow n (es ++ entry_at j z)
below_more n j z [] l h = single z
  where
    single : (z : ℤ) → AllBelow n (entry_at j z)
    single (pos zero) = tt
    single (pos (suc k)) = (l, tt)
    single (negsuc k) = (l, tt)
below_more n j z (e ∷ es) l h = (h.0, below_more n j z es l h.1)

pub below_up : (n m : ℕ) (es : List (ℕ × ℤ)) → n ≤ m → AllBelow n es → AllBelow m es
below_up n m [] l h = tt
below_up n m (e ∷ es) l h = let at : e.0 < n = h.0 in (omega arith, below_up n m es l h.1)

pub over_entry : (j : ℕ) (z : ℤ) → over_columns (entry_at j z) ≡ entry_at (2 * j) z ++ entry_at (2 * j + 1) (neg_ℤ z)
over_entry j (pos zero) = refl
over_entry j (pos (suc k)) = refl
over_entry j (negsuc k) = refl

pub over_append : (es gs : List (ℕ × ℤ)) → over_columns (es ++ gs) ≡ over_columns es ++ over_columns gs
over_append [] gs = refl
over_append (e ∷ es) gs = ap (λ (ys : List (ℕ × ℤ)). (2 * e.0, e.1) ∷ (2 * e.0 + 1, neg_ℤ e.1) ∷ ys) (over_append es gs)

-- the row of a cut
pub cut_is : (n : ℕ) (cut : Cut) (terms row : List (ℕ × ℤ)) (line : Line) → line.terms ≡ row → line.rhs ≡ cut.beta → terms ≡ over_columns cut.alpha → row ≡ terms ++ over_columns (entry_at (n + (cut.block - 1)) (neg_ℤ cut.p0)) → line ≡ line_over_columns (side_line n (side_of_cut cut))
cut_is n cut terms row line a b made pushed =
    let whole : row ≡ over_columns (cut.alpha ++ (entry_at (n + (cut.block - 1)) (neg_ℤ cut.p0) ++ [])) =
    pushed
    ∙ ap (λ (ts : List (ℕ × ℤ)). ts ++ over_columns (entry_at (n + (cut.block - 1)) (neg_ℤ cut.p0))) made
    ∙ sym (over_append cut.alpha (entry_at (n + (cut.block - 1)) (neg_ℤ cut.p0)))
    ∙ ap (λ (ts : List (ℕ × ℤ)). over_columns (cut.alpha ++ ts)) (sym (append-nil (entry_at (n + (cut.block - 1)) (neg_ℤ cut.p0)))) in
    λ k. record { terms = (a ∙ whole) k; rhs = b k }
