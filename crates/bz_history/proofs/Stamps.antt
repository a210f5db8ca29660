-- The counts of stamps.
use Rattle.std.proofs.Common.{◌≡◌, refl, sym, ◌∙◌, ap, subst, ℕ, zero, suc, List, [], ◌∷◌, ◌++◌, take, inl, inr}
use Rattle.std.specs.Prelude.{◌⊎◌, Some}
use Rattle.std.specs.List.{slice_get}
use Rattle.bz_event.specs.declared.events.Entry.{Entry}
use Rattle.bz_history.specs.Histories.{CountsRise, count_of}
use Rattle.bz_history.specs.States.{State}
use Rattle.bz_history.proofs.Growing.{histories_grow}

-- the item at a place of a list with one more is one of the old ones, or the new one
place_more : {X : Type 0} (xs : List X) (x : X) (k : ℕ) (e : X) → slice_get (xs ++ x ∷ []) k ≡ Some e
    → ((slice_get xs k ≡ Some e) × (take k (xs ++ x ∷ []) ≡ take k xs)) ⊎ ((Some x ≡ Some e) × (take k (xs ++ x ∷ []) ≡ xs))
place_more [] x zero e h = inr (h, refl)
place_more [] x (suc k) e h = absurd (cc)
place_more (y ∷ ys) x zero e h = inl (h, refl)
place_more (y ∷ ys) x (suc k) e h = later (place_more ys x k e h)
  where
    later : ((slice_get ys k ≡ Some e) × (take k (ys ++ x ∷ []) ≡ take k ys)) ⊎ ((Some x ≡ Some e) × (take k (ys ++ x ∷ []) ≡ ys))
        → ((slice_get ys k ≡ Some e) × (y ∷ take k (ys ++ x ∷ []) ≡ y ∷ take k ys)) ⊎ ((Some x ≡ Some e) × (y ∷ take k (ys ++ x ∷ []) ≡ y ∷ ys))
    later (inl g) = inl (g.0, ap (λ zs. y ∷ zs) g.1)
    later (inr g) = inr (g.0, ap (λ zs. y ∷ zs) g.1)

abbrev Rise : List Entry → State → Type 0
Rise es t = (k : ℕ) (e : Entry) → slice_get es k ≡ Some e → e.stamp.count ≡ count_of e.stamp.worker (take k es)

rise_more : (es : List Entry) (x : Entry) → x.stamp.count ≡ count_of x.stamp.worker es → ((k : ℕ) (e : Entry) → slice_get es k ≡ Some e → e.stamp.count ≡ count_of e.stamp.worker (take k es))
    → (k : ℕ) (e : Entry) → slice_get (es ++ x ∷ []) k ≡ Some e → e.stamp.count ≡ count_of e.stamp.worker (take k (es ++ x ∷ []))
rise_more es x new old k e h = by (place_more es x k e h)
  where
    by : ((slice_get es k ≡ Some e) × (take k (es ++ x ∷ []) ≡ take k es)) ⊎ ((Some x ≡ Some e) × (take k (es ++ x ∷ []) ≡ es)) → e.stamp.count ≡ count_of e.stamp.worker (take k (es ++ x ∷ []))
    by (inl g) = old k e g.0 ∙ ap (count_of e.stamp.worker) (sym g.1)
    by (inr g) =
        let same : x ≡ e = cc in
        subst (λ (y : Entry). y.stamp.count ≡ count_of y.stamp.worker es) same new ∙ ap (count_of e.stamp.worker) (sym g.1)

pub counts_rise : CountsRise
counts_rise d budget root es t r = histories_grow d budget root Rise (λ k e h. absurd (cc)) (λ before u x replayed step old. rise_more before x step.stamp old) es t r
