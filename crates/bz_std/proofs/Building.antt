-- Rows in the making.
use Rattle.std.proofs.Common.{◌≡◌, refl, sym, ◌∙◌, ap, ℕ, zero, suc, ◌+◌, ◌<◌, List, [], ◌∷◌, ◌++◌, length, drop, get_or, map, arith, ℤ, Ok, Err, Result, add-zero, append_assoc, append-nil}
use Rattle.std.specs.Result.{IsErrAnd, IfErr}
use Rattle.std.specs.List.{AllByRecursion}
use Rattle.std.proofs.lemmas.List.{map-append}
use Rattle.bz_num.specs.declared.WideSum.{WideSum}
use Rattle.bz_num.specs.Fold.{IsNarrowSum, fold_of}
use Rattle.bz_num.proofs.Folds.{sum-from_fold}
use Rattle.bz_model.specs.declared.Ineq.{Ineq}
use Rattle.bz_model.specs.declared.Master.{Master}
use Rattle.bz_model.proofs.Sparse.{left_at}
use Rattle.bz_tableau.specs.declared.programs.LpRow.{LpRow}
use Rattle.bz_tableau.specs.declared.WideAt.{WideAt}
use Rattle.bz_std.specs.declared.stops.BuildStop.{BuildStop}
use Rattle.bz_std.specs.declared.stops.BuildStop.TheVariants as stop
use Rattle.bz_std.specs.Posed.{Line, line_of, line_over_columns, over_columns}
use Rattle.bz_std.specs.Stops.{IsFirstWideRow, StopsAtRow, StopsBuilding, right_pairs_at}
use Rattle.bz_std.specs.Tasks.{own_line, right_pairs}

-- the row of an inequality
pub own_is : (point : Master) (ineq : Ineq) (terms : List (ℕ × ℤ)) (rhs : ℤ) (line : Line) → line.terms ≡ terms → line.rhs ≡ rhs → terms ≡ over_columns ineq.own → Ok rhs ≡ fold_of (right_pairs point ineq) → line ≡ line_over_columns (own_line point ineq)
own_is point ineq terms rhs line a b same sum =
    λ k. record { terms = (a ∙ same) k; rhs = (b ∙ sum-from_fold (right_pairs point ineq) rhs (sym sum)) k }

-- one row more, with what is still to come
pub rows_next : {X : Type 0} (f : X → Line) (xs : List X) (i : ℕ) (x : X) (rows new : List LpRow) (row : LpRow) → i < length xs → x ≡ get_or xs i x → new ≡ rows ++ row ∷ [] → line_of row ≡ line_over_columns (f x) → map line_of rows ++ map line_over_columns (map f (drop i xs)) ≡ map line_over_columns (map f xs) → map line_of new ++ map line_over_columns (map f (drop (i + 1) xs)) ≡ map line_over_columns (map f xs)
rows_next f xs i x rows new row l here made same h =
    let coming : drop i xs ≡ x ∷ drop (i + 1) xs = left_at xs i x l ∙ ap (λ (y : _). y ∷ drop (i + 1) xs) (sym here) in
    rw (made, map-append line_of rows (row ∷ []), same)
    (append_assoc (map line_of rows) (line_over_columns (f x) ∷ []) (map line_over_columns (map f (drop (i + 1) xs)))
    ∙ ap (λ (ys : List _). map line_of rows ++ map line_over_columns (map f ys)) (sym coming)
    ∙ h)

-- ---- the first wide right side
-- row by row: those before it are narrow
abbrev pub Finds : Master → List Ineq → ℕ → Type 0
Finds point [] row = ⊥
Finds point (i ∷ is) zero = ¬ IsNarrowSum (right_pairs point i)
Finds point (i ∷ is) (suc row) = IsNarrowSum (right_pairs point i) × Finds point is row

by_place : (point : Master) (is : List Ineq) (row : ℕ) → Finds point is row → IsFirstWideRow point is row
by_place point [] row h = absurd h
by_place point (i ∷ is) zero h = record { inside = omega arith; wide = h; first = λ k l. absurd (omega arith) }
by_place point (i ∷ is) (suc row) h =
    let rest : IsFirstWideRow point is row = by_place point is row h.1 in
    record { inside = omega (arith, rest.inside); wide = rest.wide; first = each rest }
  where
    each : IsFirstWideRow point is row → (k : ℕ) → k < suc row → IsNarrowSum (right_pairs_at point (i ∷ is) k)
    each rest zero l = h.0
    each rest (suc k) l = rest.first k (omega arith)

-- it is this one
pub stops_here : (point : Master) (is : List Ineq) (i : ℕ) (x : Ineq) (s : BuildStop) → i < length is → x ≡ get_or is i x → ((k : ℕ) → Finds point (drop i is) k → Finds point is (i + k)) → StopsAtRow point x i s → StopsBuilding point is s
stops_here point is i x stop.OutOfMemory l here later h = tt
stops_here point is i x (stop.Wide at) l here later h =
    let coming : drop i is ≡ x ∷ drop (i + 1) is = left_at is i x l ∙ ap (λ (y : _). y ∷ drop (i + 1) is) (sym here) in
    let found : Finds point is (i + 0) = later 0 (rw coming h.1) in
    (i, h.0, by_place point is i (rw add-zero at found))

-- what is still to come after one that isn't wide
pub narrow_next : {X : Type 0} (P : X → Type 0) (xs : List X) (i : ℕ) (x : X) → i < length xs → x ≡ get_or xs i x → P x → (AllByRecursion P (drop i xs) → AllByRecursion P xs) → AllByRecursion P (drop (i + 1) xs) → AllByRecursion P xs
narrow_next P xs i x l here h later rest =
    let coming : drop i xs ≡ x ∷ drop (i + 1) xs = left_at xs i x l ∙ ap (λ (y : _). y ∷ drop (i + 1) xs) (sym here) in
    later (rw coming (h, rest))

pub wide_next : (point : Master) (is : List Ineq) (i : ℕ) (x : Ineq) → i < length is → x ≡ get_or is i x → IsNarrowSum (right_pairs point x) → ((k : ℕ) → Finds point (drop i is) k → Finds point is (i + k)) → (k : ℕ) → Finds point (drop (i + 1) is) k → Finds point is (i + 1 + k)
wide_next point is i x l here h later k rest =
    let coming : drop i is ≡ x ∷ drop (i + 1) is = left_at is i x l ∙ ap (λ (y : _). y ∷ drop (i + 1) is) (sym here) in
    let found : Finds point is (i + suc k) = later (suc k) (rw coming (h, rest)) in
    let same : i + suc k ≡ i + 1 + k = omega arith in
    rw same at found

-- a stop that is passed on
pub stop_passed : {A : Type 0} (point : Master) (is : List Ineq) (s : BuildStop) (result : Result A BuildStop) → IsErrAnd result (λ e. e ≡ s) → StopsBuilding point is s → IfErr result (StopsBuilding point is)
stop_passed point is s (Ok a) told h = absurd told
stop_passed point is s (Err e) told h = rw told h
