use Rattle.std.proofs.Common.{rules, ◌≡◌, ◌+◌, ◌∙◌, ap, sym, true, false, ℕ, ℤ, pos, ◌+ℤ◌, ◌*ℤ◌, Err, drop, get_or, FitsSigned, to_z-of_z}
use Rattle.std.specs.Int.{w128}
use Rattle.std.proofs.lemmas.List.{take_rest}
use Rattle.bz_num.specs.Fold.{Taken, goes_wide}
use Rattle.bz_num.specs.SparseSums.{IsMissing, IsPlace}
use Rattle.bz_num.proofs.SparseSums.{left_is, next_missing, next_taken, next_wide, sparse_left, steps_wide}
use Rattle.bz_num.proofs.sparse_sums.fold_entry.Goals as goal

pub place_of-requires : goal.place_of-requires
place_of-requires c = rw (take_rest c.as_slice-entries.result.now c.count.result, c.as_slice-entries.ensures.value) (sparse_left 0 c.count.result c.args.row.now c.as_slice-entries.ensures.sparse)

pub returns-in_err-push-clause-steps : goal.returns-in_err-push-clause-steps
returns-in_err-push-clause-steps c =
    let place : IsPlace c.args.column (drop c.args.folding.now.count c.args.row.now) c.in-Some.found = rw (take_rest c.as_slice-entries.result.now c.count.result, c.as_slice-entries.ensures.value, c.count.ensures.value) at c.in-Some.ensures in
    let at : c.count-in-Some.result ≡ c.args.folding.now.count + c.in-Some.found = c.count-in-Some.ensures.value ∙ ap (λ (t : Taken). t.count) c.pass.ensures in
    let x : ℤ = (get_or c.args.row.now c.count-in-Some.result (0, pos 0)).1 in
    let x_is : x ≡ (get_or c.args.row.now (c.args.folding.now.count + c.in-Some.found) (0, pos 0)).1 = ap (λ (n : ℕ). (get_or c.args.row.now n (0, pos 0)).1) at in
    let fits_x : FitsSigned w128 (get_or c.as_slice-entries.result.now c.count-in-Some.result (0, pos 0)).1 = search rules in
    let fits_n : FitsSigned w128 c.args.number = search rules in
    let wide : true ≡ goes_wide c.args.folding.now.sum (x, c.args.number) = rw (to_z-of_z fits_x, to_z-of_z fits_n, c.pass.ensures, c.as_slice-entries.ensures.value) at c.in_err-push.ensures.fails in
    let stop : c.in_err-push.field-0.0.at ≡ c.args.folding.now.count + c.in-Some.found = c.in_err-push.ensures.place ∙ ap (λ (t : Taken). t.count) c.pass.ensures in
    λ f g a.
    steps_wide c.args.row.now f g _ _ c.from_residual.result c.in_err-push.field-0.0 c.from_residual.ensures.1
    (ap (λ (n : ℕ). Err (record { at = n })) stop
    ∙ next_wide c.args.row.now c.args.folding.now.count c.in-Some.found c.args.folding.now.sum (c.args.column, c.args.number) x c.count.ensures.narrow c.as_slice-entries.ensures.sparse place x_is (sym wide) f g a)

pub returns-in_ok-push-clause-steps : goal.returns-in_ok-push-clause-steps
returns-in_ok-push-clause-steps c =
    let place : IsPlace c.args.column (drop c.args.folding.now.count c.args.row.now) c.in-Some.found = rw (take_rest c.as_slice-entries.result.now c.count.result, c.as_slice-entries.ensures.value, c.count.ensures.value) at c.in-Some.ensures in
    let at : c.count-in-Some.result ≡ c.args.folding.now.count + c.in-Some.found = c.count-in-Some.ensures.value ∙ ap (λ (t : Taken). t.count) c.pass.ensures in
    let x : ℤ = (get_or c.args.row.now c.count-in-Some.result (0, pos 0)).1 in
    let x_is : x ≡ (get_or c.args.row.now (c.args.folding.now.count + c.in-Some.found) (0, pos 0)).1 = ap (λ (n : ℕ). (get_or c.args.row.now n (0, pos 0)).1) at in
    let fits_x : FitsSigned w128 (get_or c.as_slice-entries.result.now c.count-in-Some.result (0, pos 0)).1 = search rules in
    let fits_n : FitsSigned w128 c.args.number = search rules in
    let narrow : false ≡ goes_wide c.args.folding.now.sum (x, c.args.number) = rw (to_z-of_z fits_x, to_z-of_z fits_n, c.pass.ensures, c.as_slice-entries.ensures.value) at c.in_ok-push.ensures.fails in
    let sum : c.push.new.self.sum ≡ c.args.folding.now.sum +ℤ (x *ℤ c.args.number) = rw (to_z-of_z fits_x, to_z-of_z fits_n, c.pass.ensures, c.as_slice-entries.ensures.value) at c.in_ok-push.ensures.sum in
    let count : c.push.new.self.count ≡ (c.args.folding.now.count + c.in-Some.found) + 1 = c.in_ok-push.ensures.count ∙ ap (λ (t : Taken). t.count + 1) c.pass.ensures in
    λ f g a.
    left_is c.args.row.now g c.push.new.self _ _ count sum
    ∙ next_taken c.args.row.now c.args.folding.now.count c.in-Some.found c.args.folding.now.sum (c.args.column, c.args.number) x c.count.ensures.narrow c.as_slice-entries.ensures.sparse place x_is (sym narrow) f g a

pub returns-in_default-clause-steps : goal.returns-in_default-clause-steps
returns-in_default-clause-steps c =
    let missing : IsMissing c.args.column (drop c.args.folding.now.count c.args.row.now) = rw (take_rest c.as_slice-entries.result.now c.count.result, c.as_slice-entries.ensures.value, c.count.ensures.value) at c.in_default.ensures in
    λ f g a. next_missing c.args.row.now c.args.folding.now.count c.args.folding.now.sum (c.args.column, c.args.number) missing f g a
