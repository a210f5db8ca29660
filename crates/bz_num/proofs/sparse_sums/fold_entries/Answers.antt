use Rattle.std.proofs.Common.{rules, ◌≡◌, ◌+◌, ◌<◌, ◌≤◌, ◌∷◌, ◌∙◌, [], ap, sym, ℕ, ℤ, pos, Err, drop, drop_of_length-le, get_or, length, List, FitsSigned, to_z-of_z}
use Rattle.std.specs.Int.{w128}
use Rattle.std.proofs.lemmas.List.{drop_more}
use Rattle.bz_num.specs.Row.{IsSparse}
use Rattle.bz_num.specs.SparseSums.{IsAhead, sum_left}
use Rattle.bz_num.proofs.SparseSums.{ahead_end, ahead_start, at_place, entry_ahead, rest_of, sparse_rest, steps_wide}
use Rattle.bz_num.proofs.sparse_sums.fold_entries.Goals as goal

pub loop-entry-init : goal.loop-entry-init
loop-entry-init c = record {
  inside = c.requires;
  sparse = c.as_slice-entry-items.ensures.sparse;
  left = λ f g a. ahead_start c.args.row.now c.args.other.now f g c.args.folding.now a;
}

pub returns-in_err-fold_entry-clause-steps : goal.returns-in_err-fold_entry-clause-steps
returns-in_err-fold_entry-clause-steps c =
    let i : ℕ = c.loop-entry.entry-index in
    let entry : ℕ × ℤ = get_or c.args.other.now i (0, pos 0) in
    let rest : List (ℕ × ℤ) = drop (i + 1) c.args.other.now in
    let inside : i < length c.args.other.now = rw c.as_slice-entry-items.ensures.value at c.loop-entry-test.true in
    let more : drop i c.args.other.now ≡ entry ∷ rest = drop_more c.args.other.now i (0, pos 0) inside in
    let sparse : IsSparse (entry ∷ rest) = rw more at c.loop-entry.invariant.sparse in
    let fits : FitsSigned w128 (get_or c.as_slice-entry-items.result.now i (0, pos 0)).1 = search rules in
    let told : (f g : ℕ → ℤ) → IsAhead entry f g → Err c.in_err-fold_entry.field-0.0 ≡ sum_left c.args.row.now f c.loop-entry.folding = rw (to_z-of_z fits, c.as_slice-entry-items.ensures.value) at c.in_err-fold_entry.ensures.steps in
    λ f g a.
    steps_wide c.args.row.now f g _ _ c.from_residual.result c.in_err-fold_entry.field-0.0 c.from_residual.ensures.1
    (told (rest_of (entry ∷ rest) g) (rest_of rest g) (entry_ahead 0 entry rest g sparse (at_place (λ e. (j : ℕ) → j ≤ e.0 → g j ≡ pos 0) c.args.other.now i (0, pos 0) a.nothing inside))
    ∙ ap (λ (es : List (ℕ × ℤ)). sum_left c.args.row.now (rest_of es g) c.loop-entry.folding) (sym more)
    ∙ c.loop-entry.invariant.left f g a)

pub loop-entry-preserved : goal.loop-entry-preserved
loop-entry-preserved c =
    let i : ℕ = c.loop-entry.entry-index in
    let entry : ℕ × ℤ = get_or c.args.other.now i (0, pos 0) in
    let rest : List (ℕ × ℤ) = drop (i + 1) c.args.other.now in
    let inside : i < length c.args.other.now = rw c.as_slice-entry-items.ensures.value at c.loop-entry-test.true in
    let more : drop i c.args.other.now ≡ entry ∷ rest = drop_more c.args.other.now i (0, pos 0) inside in
    let sparse : IsSparse (entry ∷ rest) = rw more at c.loop-entry.invariant.sparse in
    let fits : FitsSigned w128 (get_or c.as_slice-entry-items.result.now i (0, pos 0)).1 = search rules in
    let told : (f g : ℕ → ℤ) → IsAhead entry f g → sum_left c.args.row.now g c.fold_entry.new.folding ≡ sum_left c.args.row.now f c.loop-entry.folding = rw (to_z-of_z fits, c.as_slice-entry-items.ensures.value) at c.in_ok-fold_entry.ensures.steps in
    record {
      inside = c.in_ok-fold_entry.ensures.inside;
      sparse = sparse_rest entry rest sparse;
      left = λ f g a.
          told (rest_of (entry ∷ rest) g) (rest_of rest g) (entry_ahead 0 entry rest g sparse (at_place (λ e. (j : ℕ) → j ≤ e.0 → g j ≡ pos 0) c.args.other.now i (0, pos 0) a.nothing inside))
          ∙ ap (λ (es : List (ℕ × ℤ)). sum_left c.args.row.now (rest_of es g) c.loop-entry.folding) (sym more)
          ∙ c.loop-entry.invariant.left f g a;
    }

pub returns-clause-steps : goal.returns-clause-steps
returns-clause-steps c =
    let end : length c.args.other.now ≤ c.loop-entry.entry-index = rw c.as_slice-entry-items.ensures.value at c.loop-entry-test.false in
    let none : drop c.loop-entry.entry-index c.args.other.now ≡ [] = drop_of_length-le c.args.other.now end in
    λ f g a.
    sym (ahead_end c.args.row.now g c.loop-entry.folding)
    ∙ ap (λ (es : List (ℕ × ℤ)). sum_left c.args.row.now (rest_of es g) c.loop-entry.folding) (sym none)
    ∙ c.loop-entry.invariant.left f g a
