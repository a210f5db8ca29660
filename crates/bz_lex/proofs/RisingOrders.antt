-- Orders of the basic columns, column by column.
use Rattle.std.specs.Prelude.{ℕ, suc, ◌+◌, ◌<◌, ◌≡◌, ◌≢◌, List, [], ◌∷◌, ◌++◌, length}
use Rattle.std.proofs.Common.{ap, sym, subst, ◌∙◌, arith, inl, inr}
use Rattle.std.proofs.Math.ListN.{get_or-append}
use Rattle.std.proofs.Math.Seq.{get_or-append_seam}
use Rattle.std.proofs.lemmas.Bool.{cases_eq}
use Rattle.std.proofs.lemmas.List.{length-append}
use Rattle.bz_algebra.proofs.Bounded.{below_suc}
use Rattle.bz_tableau.specs.Laws.{place}
use Rattle.bz_tableau.specs.WidePlaces.{IsRisingOrder}

-- the place that was put behind the others, and those before it
pub at_end : (order : List ℕ) (i : ℕ) → place (order ++ i ∷ []) (length order) ≡ i
at_end order i = get_or-append_seam order i [] 0

pub at_before : (order : List ℕ) (i k : ℕ) → k < length order → place (order ++ i ∷ []) k ≡ place order k
at_before order i k b = get_or-append order (i ∷ []) 0 k b

pub rising_skip : (rows j : ℕ) (basis : ℕ → ℕ) (order : List ℕ) → IsRisingOrder rows j basis order → ((i : ℕ) → i < rows → basis i ≢ j) → IsRisingOrder rows (j + 1) basis order
rising_skip rows j basis order h n = record {
  inside = h.inside;
  before_slacks = λ k b. omega (arith, h.before_slacks k b);
  rising = h.rising;
  complete = λ i b l. h.complete i b (omega (arith, n i b));
}

pub rising_more : (rows j : ℕ) (basis : ℕ → ℕ) (order : List ℕ) (i : ℕ) → IsRisingOrder rows j basis order → i < rows → basis i ≡ j → IsRisingOrder rows (j + 1) basis (order ++ i ∷ [])
rising_more rows j basis order i h b e = record {
  inside = λ k l. each (λ m. m < rows) h.inside b k (within k l);
  before_slacks = λ k l. each (λ m. basis m < j + 1) (λ m c. omega (arith, h.before_slacks m c)) (omega arith) k (within k l);
  rising = λ k l c d. later k l c (within l d);
  complete = λ m c d. found m c d;
}
  where
    more : List ℕ
    more = order ++ i ∷ []

    within : (k : ℕ) → k < length (order ++ i ∷ []) → k < suc (length order)
    within k l = omega (arith, length-append order (i ∷ []))

    each : (P : ℕ → Type 0) → ((k : ℕ) → k < length order → P (place order k)) → P i → (k : ℕ) → k < suc (length order) → P (place (order ++ i ∷ []) k)
    each P f p = below_suc (length order) (λ k. P (place (order ++ i ∷ []) k)) (λ k c. subst P (sym (at_before order i k c)) (f k c)) (subst P (sym (at_end order i)) p)

    later : (k l : ℕ) → k < l → l < suc (length order) → basis (place (order ++ i ∷ []) k) < basis (place (order ++ i ∷ []) l)
    later k l c d = elim (cases_eq l (length order)) [
      | inl g ↦ subst (λ (m : ℕ). basis (place (order ++ i ∷ []) k) < basis m) (sym (ap (place (order ++ i ∷ [])) g ∙ at_end order i)) (subst (λ (m : ℕ). basis m < basis i) (sym (at_before order i k (omega arith))) (omega (arith, h.before_slacks k (omega arith))))
      | inr n ↦ subst (λ (m : ℕ). basis m < basis (place (order ++ i ∷ []) l)) (sym (at_before order i k (omega arith))) (subst (λ (m : ℕ). basis (place order k) < basis m) (sym (at_before order i l (omega arith))) (h.rising k l c (omega arith)))
    ]

    found : (m : ℕ) → m < rows → basis m < j + 1 → (k : ℕ) × (k < length (order ++ i ∷ [])) × (basis (place (order ++ i ∷ []) k) ≡ basis m)
    found m c d = elim (cases_eq (basis m) j) [
      | inl g ↦ (length order, omega (arith, length-append order (i ∷ [])), ap basis (at_end order i) ∙ e ∙ sym g)
      | inr n ↦ let f = h.complete m c (omega arith) in (f.0, omega (arith, f.1, length-append order (i ∷ [])), ap basis (at_before order i f.0 f.1) ∙ f.2)
    ]
