-- One item of a list changed, as a write in its place.
use Rattle.std.proofs.Common.{◌≡◌, ◌<◌, ◌≤◌, refl, ap, ℕ, zero, suc, List, [], ◌∷◌, get_or, length, set, arith}
use Rattle.std.specs.Prelude.{Option, Some, None, unwrap_or}
use Rattle.bz_history.specs.States.{changed, end_of}

-- what is made of the item that is read at the place is written there
pub write_changed : {X : Type 0} (f : X → X) (xs : List X) (i : ℕ) (x : X) → i < length xs → x ≡ get_or xs i x → set xs i (f x) ≡ changed f xs i
write_changed f [] i x within at = absurd (omega arith)
write_changed f (y ∷ ys) zero x within at = ap (λ z. f z ∷ ys) at
write_changed f (y ∷ ys) (suc i) x within at = ap (λ zs. y ∷ zs) (write_changed f ys i x (omega arith) at)

-- where there is no such place nothing is changed
pub none_changed : {X : Type 0} (f : X → X) (xs : List X) (i : ℕ) → length xs ≤ i → xs ≡ changed f xs i
none_changed f [] i h = refl
none_changed f (y ∷ ys) zero h = absurd (omega arith)
none_changed f (y ∷ ys) (suc i) h = ap (λ zs. y ∷ zs) (none_changed f ys i (omega arith))

-- what ended first
pub first_end : (at : ℕ) (ended : Option ℕ) → Some (unwrap_or ended at) ≡ end_of at ended
first_end at None = refl
first_end at (Some before) = refl
