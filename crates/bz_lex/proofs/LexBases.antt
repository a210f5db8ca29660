-- No basis comes twice in a phase, so that it meets at most as many as there are sets of columns.
use Rattle.std.specs.Prelude.{ℕ, suc, ◌+◌, ◌^◌, ◌<◌, ◌≤◌, ◌≡◌, ◌≢◌, ℤ, pos, ◌<ℤ◌, List, [], ◌∷◌, length}
use Rattle.std.proofs.Common.{sym, subst, ◌∙◌, arith}
use Rattle.bz_algebra.specs.Tableaus.{Equations, side, IsRow, AreColumns, IsTableau, IsWithin, AreAlike, IsNew}
use Rattle.bz_algebra.proofs.Bounded.{below_suc}
use Rattle.bz_algebra.proofs.Counting.{count_bases}
use Rattle.bz_algebra.proofs.Uniqueness.{column_row}
use Rattle.bz_lex.specs.Lexicographic.{AreInRange, IsAbove, IsPassed, ArePassed, AreMet}
use Rattle.bz_lex.proofs.LexOrder.{not_above_same, above_trans}

-- bases with the same columns, the last one at the last place in both, have the same row there
pub same_last_row : (s : Equations) (basis other : ℕ → ℕ) (w : ℕ → ℕ → ℤ) (v : ℕ → ℤ) (o : ℕ) → IsTableau s basis w → IsRow s other o v → s.rows ≡ suc o → other o ≡ basis o → AreAlike o basis other → (j : ℕ) → j ≤ side s → w o j ≡ v j
same_last_row s basis other w v o t r last e a = column_row s basis other w v o o t within (omega arith) r e
  where
    within : IsWithin s.rows basis other
    within i b = below_suc o (λ l. (k : ℕ) × (k < s.rows) × (other k ≡ basis l)) (λ l c. let f = a.there l c in (f.0, omega (arith, f.1), f.2)) (o, omega arith, e) i (omega arith)

-- the columns before the last, where that is the last of all
pub columns_before : (s : Equations) (basis : ℕ → ℕ) (o : ℕ) → AreColumns s basis → s.rows ≡ suc o → basis o ≡ s.slack + o → (i : ℕ) → i < o → basis i < s.slack + o
columns_before s basis o a last own i b = omega (arith, a.in_range i (omega arith), apart)
  where
    apart : basis i ≢ s.slack + o
    apart e = omega (arith, a.different i o (omega arith) (omega arith) (e ∙ sym own))

module _ (s : Equations) (n : ℕ) (places : ℕ → ℕ) (o c : ℕ) (last : s.rows ≡ suc o) (r : AreInRange s n places) where
  positive_row : (v : ℕ → ℤ) (basis : ℕ → ℕ) (p : IsPassed s n places o c v basis) → (pos 0) <ℤ (p.row c)
  positive_row v basis p = subst (λ (x : ℕ). (pos 0) <ℤ (p.row x)) p.own p.is_row.positive

  new : (basis : ℕ → ℕ) (w : ℕ → ℕ → ℤ) (met : List (ℕ → ℕ)) → IsTableau s basis w → basis o ≡ c → ArePassed s n places o c (w o) met → IsNew o basis met
  new basis w [] t own p = tt
  new basis w (other ∷ met) t own p = (
    λ a. not_above_same n places c (w o) p.0.row (sym (same a c (omega (arith, subst (λ (x : ℕ). x < side s) own (t.columns.in_range o (omega arith)))))) (λ k l. sym (same a (places k) (r k l))) p.0.above,
    new basis w met t own p.1,
  )
    where
      same : AreAlike o basis other → (j : ℕ) → j ≤ side s → w o j ≡ p.0.row j
      same a = same_last_row s basis other w p.0.row o t p.0.is_row last (p.0.own ∙ sym own) a

  passed : (v u : ℕ → ℤ) (met : List (ℕ → ℕ)) → (pos 0) <ℤ (v c) → (pos 0) <ℤ (u c) → IsAbove n places c u v → ArePassed s n places o c v met → ArePassed s n places o c u met
  passed v u [] h k a p = tt
  passed v u (other ∷ met) h k a p = (
    record { own = p.0.own; row = p.0.row; is_row = p.0.is_row; above = above_trans n places c u v p.0.row k h (positive_row v other p.0) a p.0.above },
    passed v u met h k a p.1,
  )

-- a basis whose row at the last place is above the rows there of bases met has other columns than each of them
pub is_new : (s : Equations) (n : ℕ) (places : ℕ → ℕ) (o c : ℕ) (basis : ℕ → ℕ) (w : ℕ → ℕ → ℤ) (met : List (ℕ → ℕ)) → s.rows ≡ suc o → AreInRange s n places → IsTableau s basis w → basis o ≡ c
    → AreMet s n places o c (w o) met → IsNew o basis met
is_new s n places o c basis w met last r t own m = new s n places o c last r basis w met t own m.passed

-- no basis met
pub met_none : (s : Equations) (n : ℕ) (places : ℕ → ℕ) (o c : ℕ) (v : ℕ → ℤ) → AreMet s n places o c v []
met_none s n places o c v = record { different = tt; within = tt; passed = tt }

-- one more
pub met_more : (s : Equations) (n : ℕ) (places : ℕ → ℕ) (o : ℕ) (basis : ℕ → ℕ) (w : ℕ → ℕ → ℤ) (u : ℕ → ℤ) (met : List (ℕ → ℕ)) → s.rows ≡ suc o → AreInRange s n places → IsTableau s basis w → basis o ≡ s.slack + o
    → (pos 0) <ℤ (u (s.slack + o)) → IsAbove n places (s.slack + o) u (w o) → AreMet s n places o (s.slack + o) (w o) met → AreMet s n places o (s.slack + o) u (basis ∷ met)
met_more s n places o basis w u met last r t own h a m = record {
  different = (is_new s n places o (s.slack + o) basis w met last r t own m, m.different);
  within = (columns_before s basis o t.columns last own, m.within);
  passed = (
    record { own = own; row = w o; is_row = t.rows o (omega arith); above = a },
    passed s n places o (s.slack + o) last r (w o) u met (subst (λ (x : ℕ). (pos 0) <ℤ (w o x)) own (t.rows o (omega arith)).positive) h a m.passed,
  );
}

-- with the present one they are at most 2 to the number of columns before the last
pub met_few : (s : Equations) (n : ℕ) (places : ℕ → ℕ) (o : ℕ) (basis : ℕ → ℕ) (w : ℕ → ℕ → ℤ) (met : List (ℕ → ℕ)) → s.rows ≡ suc o → AreInRange s n places → IsTableau s basis w → basis o ≡ s.slack + o
    → AreMet s n places o (s.slack + o) (w o) met → suc (length met) ≤ 2 ^ (s.slack + o)
met_few s n places o basis w met last r t own m = count_bases (s.slack + o) o (basis ∷ met) (columns_before s basis o t.columns last own, m.within) (is_new s n places o (s.slack + o) basis w met last r t own m, m.different)
