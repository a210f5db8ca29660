-- Sums over the rows of a program that are made of a list of inequalities.
use Rattle.std.specs.Prelude.{ℕ, zero, suc, ◌+◌, ◌<◌, ◌≡◌, ℤ, ◌+ℤ◌, ◌*ℤ◌, List, [], ◌∷◌, ◌++◌, length, map}
use Rattle.std.specs.List.{AllByRecursion}
use Rattle.std.proofs.Common.{ap, sym, ◌∙◌, arith}
use Rattle.std.proofs.lemmas.Int.{ints}
use Rattle.std.proofs.lemmas.List.{length-map}
use Rattle.bz_algebra.specs.Sums.{upto, AllBelow}
use Rattle.bz_algebra.proofs.Ring.{zero_add}
use Rattle.bz_algebra.proofs.SumLemmas.{upto_same}
use Rattle.bz_model.specs.declared.Ineq.{Ineq}
use Rattle.bz_model.proofs.Numbered.{upto_first}
use Rattle.bz_cut.specs.Rows.{own_at, master_at, rhs_at}
use Rattle.bz_std.specs.Meanings.{terms_at, right_at}
use Rattle.bz_std.specs.Posed.{Line}

-- what g makes of each row, times y
abbrev pub rows_sum : (List (ℕ × ℤ) → ℤ → ℤ) → (ℕ → ℤ) → List Line → ℤ
rows_sum g y rows = upto (length rows) (λ i. y i *ℤ g (terms_at rows i) (right_at rows i))

-- rows that come after others, with the numbers z
pub append_sum : (g : List (ℕ × ℤ) → ℤ → ℤ) (y z : ℕ → ℤ) (rows more : List Line) → ((i : ℕ) → z i ≡ y (length rows + i)) → rows_sum g y (rows ++ more) ≡ rows_sum g y rows +ℤ rows_sum g z more
append_sum g y z [] more h = upto_same (length more) _ _ (λ i b. ap (λ (t : ℤ). t *ℤ g (terms_at more i) (right_at more i)) (same i ∙ sym (h i))) ∙ sym (zero_add (rows_sum g z more))
  where
    same : (i : ℕ) → y i ≡ y (0 + i)
    same i = let e : i ≡ 0 + i = omega arith in ap y e
append_sum g y z (row ∷ rows) more h =
    upto_first (length (rows ++ more)) (λ i. y i *ℤ g (terms_at (row ∷ (rows ++ more)) i) (right_at (row ∷ (rows ++ more)) i))
    ∙ rw (upto_first (length rows) (λ i. y i *ℤ g (terms_at (row ∷ rows) i) (right_at (row ∷ rows) i)), append_sum g (λ i. y (suc i)) z rows more later) (omega (arith, ints))
  where
    later : (i : ℕ) → z i ≡ y (suc (length rows + i))
    later i = let e : suc (length rows) + i ≡ suc (length rows + i) = omega arith in h i ∙ ap y e

-- the master's terms of an inequality of a list
pub master_below : (w : ℕ) (is : List Ineq) → AllByRecursion (λ i. AllBelow w i.master) is → (n : ℕ) → n < length is → AllBelow w (master_at is n)
master_below w [] h n l = absurd (omega arith)
master_below w (i ∷ is) h zero l = h.0
master_below w (i ∷ is) h (suc n) l = master_below w is h.1 n (omega arith)

module _ (f : Ineq → Line) where
  -- a row that is made of an inequality
  pub terms_of_made : (is : List Ineq) (n : ℕ) (g : List (ℕ × ℤ) → ℤ → ℤ) (k : List (ℕ × ℤ) → List (ℕ × ℤ) → ℤ → ℤ) → ((i : Ineq) → g (f i).terms (f i).rhs ≡ k i.own i.master i.rhs) → n < length is → g (terms_at (map f is) n) (right_at (map f is) n) ≡ k (own_at is n) (master_at is n) (rhs_at is n)
  terms_of_made [] n g k h l = absurd (omega arith)
  terms_of_made (i ∷ is) zero g k h l = h i
  terms_of_made (i ∷ is) (suc n) g k h l = terms_of_made is n g k h (omega arith)

  -- rows that are made of inequalities
  pub made_sum : (is : List Ineq) (y : ℕ → ℤ) (g : List (ℕ × ℤ) → ℤ → ℤ) (k : List (ℕ × ℤ) → List (ℕ × ℤ) → ℤ → ℤ) → ((i : Ineq) → g (f i).terms (f i).rhs ≡ k i.own i.master i.rhs) → rows_sum g y (map f is) ≡ upto (length is) (λ n. y n *ℤ k (own_at is n) (master_at is n) (rhs_at is n))
  made_sum is y g k h =
      ap (λ (n : ℕ). upto n (λ i. y i *ℤ g (terms_at (map f is) i) (right_at (map f is) i))) (length-map is f)
      ∙ upto_same (length is) _ _ (λ n l. ap (λ (t : ℤ). y n *ℤ t) (terms_of_made is n g k h l))
