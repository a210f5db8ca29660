-- The tests of a sum whose fold is a number.
use Rattle.std.proofs.Common.{◌≡◌, sym, ◌∙◌, ℕ, ℤ, ◌≤ℤ◌, List, [], ◌∷◌, Result}
use Rattle.bz_algebra.specs.Numbers.{IsNarrow}
use Rattle.bz_algebra.specs.Sums.{dot}
use Rattle.bz_num.specs.Fold.{IsNarrowSum, pairs_at}
use Rattle.bz_first.specs.Tests.{Judges, test}
use Rattle.bz_cut.specs.SumTests.{equation, sum_is}
use Rattle.bz_first.proofs.TestLemmas.{judges_same, judges_then}

pub sum_judged : {F T : Type 0} (broken wide : F) (multipliers : List (ℕ × ℤ)) (f : ℕ → ℤ) (found number : ℤ) (r : Result T F) → IsNarrowSum (pairs_at multipliers f) → dot multipliers f ≡ found → Judges (test broken (found ≡ number) ∷ []) r → Judges (sum_is broken wide multipliers f number) r
sum_judged broken wide multipliers f found number r n e j =
    judges_then (test wide (IsNarrowSum (pairs_at multipliers f)) ∷ []) (test broken (dot multipliers f ≡ number) ∷ []) r (n, tt)
    (judges_same broken (found ≡ number) (dot multipliers f ≡ number) r (λ g. e ∙ g) (λ g. sym e ∙ g) j)

pub equation_judged : {F T : Type 0} (broken wide : F) (multipliers : List (ℕ × ℤ)) (f : ℕ → ℤ) (found product number : ℤ) (r : Result T F) → IsNarrowSum (pairs_at multipliers f) → dot multipliers f ≡ found → IsNarrow product → Judges (test broken (found ≡ number) ∷ []) r → Judges (equation broken wide multipliers f product number) r
equation_judged broken wide multipliers f found product number r n e p j =
    judges_then (test wide (IsNarrowSum (pairs_at multipliers f)) ∷ test wide (IsNarrow product) ∷ []) (test broken (dot multipliers f ≡ number) ∷ []) r (n, (p, tt))
    (judges_same broken (found ≡ number) (dot multipliers f ≡ number) r (λ g. e ∙ g) (λ g. sym e ∙ g) j)

pub order_judged : {F T : Type 0} (broken wide : F) (multipliers : List (ℕ × ℤ)) (f : ℕ → ℤ) (found product : ℤ) (r : Result T F) → IsNarrowSum (pairs_at multipliers f) → dot multipliers f ≡ found → IsNarrow product → Judges (test broken (found ≤ℤ product) ∷ []) r → Judges (test wide (IsNarrowSum (pairs_at multipliers f)) ∷ test wide (IsNarrow product) ∷ test broken (dot multipliers f ≤ℤ product) ∷ []) r
order_judged broken wide multipliers f found product r n e p j =
    judges_then (test wide (IsNarrowSum (pairs_at multipliers f)) ∷ test wide (IsNarrow product) ∷ []) (test broken (dot multipliers f ≤ℤ product) ∷ []) r (n, (p, tt))
    (judges_same broken (found ≤ℤ product) (dot multipliers f ≤ℤ product) r (λ g. rw e g) (λ g. rw (← e) g) j)
