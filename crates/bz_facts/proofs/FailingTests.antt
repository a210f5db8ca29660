-- The first failing test of a list of tests.
use Rattle.std.proofs.Common.{◌≡◌, refl, ap, Bool, true, false, not, List, [], ◌∷◌, ◌++◌, Some, None, cond}
use Rattle.bz_lines.specs.FirstFault.{first_failing}
use Rattle.bz_lines.proofs.FirstFaults.{first_failing-behind, none_fails}

pub fails-here : {K : Type 0} (b : Bool) (k : K) (ts : List (Bool × K)) → b ≡ true → first_failing ((b, k) ∷ ts) ≡ Some k
fails-here b k ts e = ap (λ x. cond x (Some k) (first_failing ts)) e

pub passes-on : {K : Type 0} (b : Bool) (k : K) (ts : List (Bool × K)) → b ≡ false → first_failing ((b, k) ∷ ts) ≡ first_failing ts
passes-on b k ts e = ap (λ x. cond x (Some k) (first_failing ts)) e

-- tests in front of others
front_next : {K : Type 0} (b : Bool) (j k : K) (before ts : List (Bool × K)) → (first_failing before ≡ Some k → first_failing (before ++ ts) ≡ Some k) → first_failing ((b, j) ∷ before) ≡ Some k → first_failing ((b, j) ∷ before ++ ts) ≡ Some k
front_next true j k before ts rest e = e
front_next false j k before ts rest e = rest e

pub front-fails : {K : Type 0} (before ts : List (Bool × K)) (k : K) → first_failing before ≡ Some k → first_failing (before ++ ts) ≡ Some k
front-fails [] ts k e = absurd cc
front-fails (t ∷ before) ts k e = front_next t.0 t.1 k before ts (front-fails before ts k) e

pub front-passes : {K : Type 0} (before ts : List (Bool × K)) → first_failing before ≡ None → first_failing (before ++ ts) ≡ first_failing ts
front-passes before ts e = first_failing-behind before ts (none_fails before e)

-- what is the opposite of another
pub opposite-true : (a b : Bool) → a ≡ not b → a ≡ false → b ≡ true
opposite-true a true e f = refl
opposite-true a false e f = absurd cc

pub opposite-false : (a b : Bool) → a ≡ not b → a ≡ true → b ≡ false
opposite-false a false e f = refl
opposite-false a true e f = absurd cc
