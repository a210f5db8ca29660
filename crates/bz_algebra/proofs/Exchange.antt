-- A row whose column isn't wanted has an entry in a wanted column, so that pivots reach each basis; and of two bases none has less columns.
use Rattle.std.specs.Prelude.{ℕ, ◌+◌, ◌<◌, ◌≡◌, ◌≢◌, ℤ, pos, ◌⊎◌}
use Rattle.std.proofs.Common.{ap, sym, subst, ◌∙◌, arith, inl, inr}
use Rattle.std.proofs.lemmas.Bool.{cases_eq}
use Rattle.bz_algebra.specs.Tableaus.{Equations, IsRow, IsTableau, IsBasis, IsWithin, put}
use Rattle.bz_algebra.proofs.Bounded.{all_or_some, zeros_or_not}
use Rattle.bz_algebra.proofs.NothingElse.{nothing_else}
use Rattle.bz_algebra.proofs.Pivoting.{put_at, put_off}
use Rattle.bz_algebra.proofs.Ring.{positive-ne}
use Rattle.bz_algebra.proofs.Uniqueness.{basis_tableau}

-- a place of the goal in whose column the row isn't 0; that column stands at no place of the basis
pub record Entering (s : Equations) (basis goal : ℕ → ℕ) (v : ℕ → ℤ) : Type 0 where
  pub place : ℕ
  pub in_range : place < s.rows
  pub entry_nonzero : v (goal place) ≢ pos 0
  pub fresh : (k : ℕ) → k < s.rows → basis k ≢ goal place

-- a row whose column isn't in the goal has an entry in a column of the goal
pub exchange : (s : Equations) (basis : ℕ → ℕ) (w : ℕ → ℕ → ℤ) (goal : ℕ → ℕ) (i : ℕ) → IsTableau s basis w → IsBasis s goal → i < s.rows → ((k : ℕ) → k < s.rows → goal k ≢ basis i) → Entering s basis goal (w i)
exchange s basis w goal i t g b away = elim (zeros_or_not s.rows (λ k. w i (goal k))) [ inl z ↦ absurd (nowhere z) | inr f ↦ found f.0 f.1 f.2 ]
  where
    row : IsRow s basis i (w i)
    row = t.rows i b

    nowhere : ((k : ℕ) → k < s.rows → w i (goal k) ≡ pos 0) → ⊥
    nowhere z = let f = basis_tableau s goal g in positive-ne (w i (basis i)) row.positive (nothing_else s goal f.0 f.1 (w i) row.combination z (basis i) (omega (arith, t.columns.in_range i b)))

    found : (k : ℕ) → k < s.rows → w i (goal k) ≢ pos 0 → Entering s basis goal (w i)
    found k l n = record {
      place = k;
      in_range = l;
      entry_nonzero = n;
      fresh = λ m o e. elim (cases_eq m i) [
        | inl h ↦ away k l (sym e ∙ ap basis h)
        | inr d ↦ n (subst (λ (c : ℕ). w i c ≡ pos 0) e (row.cleared m o d))
      ];
    }

-- a pivot towards the goal leaves no further place outside it
pub put_within : (basis goal : ℕ → ℕ) (n r k : ℕ) → k < n → ((i : ℕ) → i < r → (l : ℕ) × (l < n) × (goal l ≡ basis i)) → (i : ℕ) → i < r + 1 → (l : ℕ) × (l < n) × (goal l ≡ put basis r (goal k) i)
put_within basis goal n r k b h i c = elim (cases_eq i r) [
  | inl e ↦ (k, b, sym (put_at basis r (goal k)) ∙ ap (put basis r (goal k)) (sym e))
  | inr d ↦ let f = h i (omega arith) in (f.0, f.1, f.2 ∙ sym (put_off basis r (goal k) i d))
]

-- a basis whose columns are all in another has all the columns of the other
pub within_back : (s : Equations) (basis : ℕ → ℕ) (w : ℕ → ℕ → ℤ) (goal : ℕ → ℕ) → IsTableau s basis w → IsBasis s goal → IsWithin s.rows basis goal → IsWithin s.rows goal basis
within_back s basis w goal t g h k b = elim (all_or_some s.rows (λ l. basis l ≢ goal k) (λ l. basis l ≡ goal k) test) [ inl n ↦ absurd (nowhere n) | inr f ↦ (f.0, f.1, f.2) ]
  where
    test : (l : ℕ) → (basis l ≢ goal k) ⊎ (basis l ≡ goal k)
    test l = elim (cases_eq (basis l) (goal k)) [ inl e ↦ inr e | inr d ↦ inl d ]

    nowhere : ((l : ℕ) → l < s.rows → basis l ≢ goal k) → ⊥
    nowhere n =
        let f = g.has_row k b in
        positive-ne (f.0 (goal k)) f.1.positive
        (nothing_else s basis w t f.0 f.1.combination
        (λ l c. let p = h l c in subst (λ (x : ℕ). f.0 x ≡ pos 0) p.2 (f.1.cleared p.0 p.1 (λ e. n l c (sym p.2 ∙ ap goal e))))
        (goal k) (omega (arith, g.columns.in_range k b)))
