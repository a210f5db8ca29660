-- Facts of each element of a list.
use Rattle.std.specs.Prelude.{ℕ, zero, suc, ◌+◌, ◌<◌, ◌≡◌, ℤ, List, [], ◌∷◌, ◌++◌, length, map, Contains}
use Rattle.std.specs.List.{AllByRecursion}
use Rattle.std.proofs.Common.{refl, ap, subst, arith}
use Rattle.bz_model.specs.Points.{coordinate}

pub all_from_mapped : {X Y : Type 0} (P : Y → Type 0) (f : X → Y) (xs : List X) → AllByRecursion P (map f xs) → AllByRecursion (λ x. P (f x)) xs
all_from_mapped P f [] h = tt
all_from_mapped P f (x ∷ xs) h = (h.0, all_from_mapped P f xs h.1)

pub all_at : {X : Type 0} (P : X → Type 0) (xs : List X) (x : X) → AllByRecursion P xs → Contains xs x → P x
all_at P [] x h c = absurd (omega (arith, c.1))
all_at P (y ∷ ys) x h (zero, l, e) = subst P e h.0
all_at P (y ∷ ys) x h (suc k, l, e) = all_at P ys x h.1 (k, omega arith, e)

-- ---- numbers of two lists, one behind the other
pub coordinate_front : (xs ys : List ℤ) (j : ℕ) → j < length xs → coordinate (xs ++ ys) j ≡ coordinate xs j
coordinate_front [] ys j l = absurd (omega arith)
coordinate_front (x ∷ xs) ys zero l = refl
coordinate_front (x ∷ xs) ys (suc j) l = coordinate_front xs ys j (omega arith)

pub coordinate_back : (xs ys : List ℤ) (j k : ℕ) → j ≡ length xs + k → coordinate (xs ++ ys) j ≡ coordinate ys k
coordinate_back [] ys j k e = let same : j ≡ k = omega (arith, e) in ap (coordinate ys) same
coordinate_back (x ∷ xs) ys zero k e = absurd (omega (arith, e))
coordinate_back (x ∷ xs) ys (suc j) k e = coordinate_back xs ys j k (omega (arith, e))
