-- The closure gives an entry's column, and the slice is the row's list.
use Rattle.std.proofs.Common.{rules, sym, ◌∙◌, ap, subst, ℕ, ℤ, ◌<◌, length, FitsSigned, to_z-of_z}
use Rattle.std.specs.Int.{w128}
use Rattle.std.proofs.lemmas.List.Sorted.{answers_always}
use Rattle.bz_algebra.specs.Numbers.{IsNarrow}
use Rattle.bz_num.proofs.Reduces.{narrow-at}
use Rattle.bz_num.proofs.Rows.{coef-found, coef-not_found}
use Rattle.bz_num.proofs.row.SparseRow.at.Goals as goal

pub returns-in-Ok-clause-value : goal.returns-in-Ok-clause-value
returns-in-Ok-clause-value c =
    let at = c.in-Ok.ensures.position (λ pair. pair.0) (answers_always _ _ _ (λ f a r g called. search rules)) in
    let number = coef-found c.args.column c.self.inside.entries.items c.as_slice.result.now c.in-Ok.place c.index.result.now c.self.invariant c.as_slice.ensures.value c.in-Ok.ensures.bound at in
    let fits : FitsSigned w128 c.index.result.now.1 = search rules in
    rw (to_z-of_z fits, ← c.self.view_is) (ap (λ entry. entry.1) c.index.ensures ∙ sym number)

pub returns-in-Err-clause-value : goal.returns-in-Err-clause-value
returns-in-Err-clause-value c =
    let missing = c.in-Err.ensures.position (λ pair. pair.0) (answers_always _ _ _ (λ f a r g called. search rules)) in
    rw (← c.self.view_is) (sym (coef-not_found c.args.column c.self.inside.entries.items c.as_slice.result.now c.in-Err.field-0 c.self.invariant c.as_slice.ensures.value missing))

pub returns-in-Ok-clause-narrow : goal.returns-in-Ok-clause-narrow
returns-in-Ok-clause-narrow c =
    let inside : c.in-Ok.place < length c.self.inside.entries.items = rw c.as_slice.ensures.value at c.in-Ok.ensures.bound in
    let known = narrow-at 0 c.self.inside.entries.items c.in-Ok.place c.index.result.now c.self.invariant inside in
    let fits : FitsSigned w128 c.index.result.now.1 = search rules in
    rw (to_z-of_z fits) (subst (λ (e : ℕ × ℤ). IsNarrow e.1) (sym c.index.ensures) known)
