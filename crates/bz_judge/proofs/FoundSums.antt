-- The number that a fold finds.
use Rattle.std.specs.Prelude.{ℕ, ℤ, ◌≡◌, ◌+ℤ◌, List, [], ◌∷◌, ◌++◌, map, Result, Ok, Err, IfOk}
use Rattle.std.proofs.Common.{refl, sym, ◌∙◌, arith}
use Rattle.std.proofs.lemmas.Int.{ints}
use Rattle.bz_algebra.specs.Sums.{dot}
use Rattle.bz_num.specs.declared.WideSum.{WideSum}
use Rattle.bz_num.specs.Fold.{fold_of, pairs_at, products}
use Rattle.bz_num.proofs.Folds.{products-pairs_at, sum-from_fold}
use Rattle.bz_model.specs.declared.Master.{Master}
use Rattle.bz_model.specs.Points.{coordinate}
use Rattle.bz_num.proofs.NarrowSums.{dot_where_ok}
use Rattle.bz_model.specs.PartPoints.{total}
use Rattle.bz_model.specs.PointSums.{row_pairs, times_one, value_pairs}

pub found_is_dot : {F : Type 0} (es : List (ℕ × ℤ)) (f : ℕ → ℤ) (sum : Result ℤ WideSum) (found : Result ℤ F) → sum ≡ fold_of (pairs_at es f) → IfOk found (λ z. sum ≡ Ok z) → IfOk found (λ z. z ≡ dot es f)
found_is_dot es f sum (Ok z) e h = sym (dot_where_ok es f sum z e h)
found_is_dot es f sum (Err w) e h = tt

-- the numbers of a list, each times 1
products_of_ones : (xs : List ℤ) → products (map times_one xs) ≡ total xs
products_of_ones [] = refl
products_of_ones (x ∷ xs) =
    let rest : products (map times_one xs) ≡ total xs = products_of_ones xs in
    rw rest (omega (arith, ints))

products-append : (ps qs : List (ℤ × ℤ)) → products (ps ++ qs) ≡ products ps +ℤ products qs
products-append [] qs = omega (arith, ints)
products-append (p ∷ ps) qs = rw (products-append ps qs) (omega (arith, ints))

pub value_found : (cost : List (ℕ × ℤ)) (master : Master) (sum : Result ℤ WideSum) (found : ℤ) → sum ≡ fold_of (value_pairs cost master) → sum ≡ Ok found → found ≡ dot cost (coordinate master.x) +ℤ total master.eta
value_found cost master sum found e h =
    sum-from_fold (value_pairs cost master) found (sym e ∙ h)
    ∙ products-append (row_pairs cost master.x) (map times_one master.eta)
    ∙ rw (products-pairs_at cost (coordinate master.x), products_of_ones master.eta) refl
