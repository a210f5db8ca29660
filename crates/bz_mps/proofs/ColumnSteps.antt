-- One more column of a model.
use Rattle.std.proofs.Common.{zero-add, zero, suc, ℕ, Bool, false, List, [], ◌∷◌, ◌++◌, ◌≡◌, take, get_or, filter, ◌<◌, ◌+◌, subst, ap, sym, ◌∙◌, refl, arith, cond, true}
use Rattle.std.specs.Prelude.{length, flat_map, ◌==◌}
use Rattle.std.specs.List.{AllByRecursion, AllZip, enumerate_from, zip}
use Rattle.std.specs.Option.{ForSome}
use Rattle.std.proofs.lemmas.Grind.{flat_map-append}
use Rattle.std.proofs.lemmas.List.{append-nil, take_more}
use Rattle.std.proofs.lemmas.List.FromFn.{get_or-enumerate_from, length-enumerate_from}
use Rattle.std.proofs.lemmas.Slice.Zip.{AllZip-long, get_or-zip}
use Rattle.std.proofs.Math.Seq.{take-length}
use Rattle.bz_lines.specs.FirstFault.{NoneFails}
use Rattle.bz_model.specs.declared.Column.{Column}
use Rattle.bz_facts.specs.declared.BoundLine.{BoundLine}
use Rattle.bz_facts.specs.declared.MpsStop.{MpsStop}
use Rattle.bz_facts.specs.SoundFacts.{IsBoundAmong, IsFinite}
use Rattle.bz_mps.specs.ColumnEnds.{ends_by, lines_at}
use Rattle.bz_mps.specs.FactModel.{IsColumnOf, IsColumnWith, end_tests_at_column, end_tests_of_column}
use Rattle.bz_mps.specs.TestAnswers.{StopsAtFirst}
use Rattle.bz_mps.proofs.TestLists.{none_append, stops_within, tests_at}

-- one more pair of items of two lists
pub zip_push : {A B : Type 0} (R : A → B → Type 0) (xs : List A) (ys : List B) (x : A) (y : B) → AllZip R xs ys → R x y → AllZip R (xs ++ x ∷ []) (ys ++ y ∷ [])
zip_push R [] [] x y h k = (k, tt)
zip_push R [] (b ∷ bs) x y h k = absurd h
zip_push R (a ∷ rest) [] x y h k = absurd h
zip_push R (a ∷ rest) (b ∷ bs) x y h k = (h.0, zip_push R rest bs x y h.1 k)

-- what holds of all items holds of those that are kept
pub all_kept : {X : Type 0} (P : X → Type 0) (keep : X → Bool) (xs : List X) → AllByRecursion P xs → AllByRecursion P (filter keep xs)
all_kept P keep [] h = tt
all_kept {X} P keep (x ∷ xs) h = by (keep x) (all_kept P keep xs h.1)
  where
    by : (b : Bool) → AllByRecursion P (filter keep xs) → AllByRecursion P (cond b (x ∷ filter keep xs) (filter keep xs))
    by true rest = (h.0, rest)
    by false rest = rest

pub all_weaker : {X : Type 0} (P Q : X → Type 0) → ((x : X) → P x → Q x) → (xs : List X) → AllByRecursion P xs → AllByRecursion Q xs
all_weaker P Q f [] h = tt
all_weaker P Q f (x ∷ xs) h = (f x h.0, all_weaker P Q f xs h.1)

-- the bound lines of a column are finite
pub lines_finite : (count j : ℕ) (bounds lines : List BoundLine) → lines ≡ lines_at j bounds → AllByRecursion (IsBoundAmong count) bounds → AllByRecursion (λ b. ForSome b.number IsFinite) lines
lines_finite count j bounds lines e h =
    subst (AllByRecursion (λ b. ForSome b.number IsFinite)) (sym e)
    (all_kept (λ b. ForSome b.number IsFinite) (λ b. b.column == j) bounds (all_weaker (IsBoundAmong count) (λ b. ForSome b.number IsFinite) (λ b k. k.finite) bounds h))

-- a column stops the maker, or passes

pub column_stops : (bounds : List BoundLine) (marks all : List Bool) (lines : List BoundLine) (i : ℕ) (stop : MpsStop) → marks ≡ all → i < length marks → lines ≡ lines_at i bounds
    → NoneFails (flat_map (end_tests_at_column bounds) (take i (enumerate_from 0 all)))
    → StopsAtFirst (end_tests_of_column (ends_by (get_or marks i false) lines) lines) stop
    → StopsAtFirst (flat_map (end_tests_at_column bounds) (enumerate_from 0 all)) stop
column_stops bounds marks all lines i stop same h at passed s =
    let inside : i < length all = subst (λ ms. i < length ms) same h in
    let here : StopsAtFirst (end_tests_of_column (ends_by (get_or all i false) (lines_at i bounds)) (lines_at i bounds)) stop =
    subst (λ ls. StopsAtFirst (end_tests_of_column (ends_by (get_or all i false) ls) ls) stop) at
    (subst (λ ms. StopsAtFirst (end_tests_of_column (ends_by (get_or ms i false) lines) lines) stop) same s) in
    subst (λ ts. StopsAtFirst ts stop) (sym (tests_at (end_tests_at_column bounds) all i (get_or all i false) inside (get_or_itself all i false inside)))
    (stops_within (flat_map (end_tests_at_column bounds) (take i (enumerate_from 0 all))) (end_tests_at_column bounds (i, get_or all i false)) _ stop passed here)
  where
    get_or_itself : (bs : List Bool) (i : ℕ) (d : Bool) → i < length bs → get_or bs i d ≡ get_or bs i (get_or bs i d)
    get_or_itself [] i d h = absurd (omega arith)
    get_or_itself (b ∷ bs) zero d h = refl
    get_or_itself (b ∷ bs) (suc i) d h = get_or_itself bs i d (omega arith)

pub column_passes : (bounds : List BoundLine) (marks all : List Bool) (lines : List BoundLine) (i : ℕ) → marks ≡ all → i < length marks → lines ≡ lines_at i bounds
    → NoneFails (flat_map (end_tests_at_column bounds) (take i (enumerate_from 0 all)))
    → NoneFails (end_tests_of_column (ends_by (get_or marks i false) lines) lines)
    → NoneFails (flat_map (end_tests_at_column bounds) (take (i + 1) (enumerate_from 0 all)))
column_passes bounds marks all lines i same h at passed s =
    let inside : i < length all = subst (λ ms. i < length ms) same h in
    let longer : i < length (enumerate_from 0 all) = subst (λ n. i < n) (sym (length-enumerate_from 0 all)) inside in
    let here : NoneFails (end_tests_at_column bounds (i, get_or all i false)) =
    subst (λ ls. NoneFails (end_tests_of_column (ends_by (get_or all i false) ls) ls)) at
    (subst (λ ms. NoneFails (end_tests_of_column (ends_by (get_or ms i false) lines) lines)) same s) in
    let tests : flat_map (end_tests_at_column bounds) (take (i + 1) (enumerate_from 0 all)) ≡ flat_map (end_tests_at_column bounds) (take i (enumerate_from 0 all)) ++ end_tests_at_column bounds (i, get_or all i false) =
    ap (flat_map (end_tests_at_column bounds)) (take_more (enumerate_from 0 all) i (0, false) longer)
    ∙ flat_map-append (end_tests_at_column bounds) (take i (enumerate_from 0 all)) (get_or (enumerate_from 0 all) i (0, false) ∷ [])
    ∙ ap (λ y. flat_map (end_tests_at_column bounds) (take i (enumerate_from 0 all)) ++ (end_tests_at_column bounds y ++ [])) (get_or-enumerate_from 0 all i (0, false) inside ∙ ap (λ k. (k, get_or all i false)) (zero-add i))
    ∙ ap (λ ts. flat_map (end_tests_at_column bounds) (take i (enumerate_from 0 all)) ++ ts) (append-nil (end_tests_at_column bounds (i, get_or all i false))) in
    subst NoneFails (sym tests) (none_append (flat_map (end_tests_at_column bounds) (take i (enumerate_from 0 all))) (end_tests_at_column bounds (i, get_or all i false)) passed here)

-- all columns

pub length_zip : {A B : Type 0} (xs : List A) (ys : List B) → length xs ≡ length ys → length (zip xs ys) ≡ length ys
length_zip [] [] e = refl
length_zip [] (y ∷ ys) e = absurd (omega arith)
length_zip (x ∷ xs) [] e = refl
length_zip (x ∷ xs) (y ∷ ys) e = ap (λ n. suc n) (length_zip xs ys (omega arith))

column_step : {C : Type 0} (R : ℕ × (List ℕ × Bool) → C → Type 0) (names : List (List ℕ)) (flags : List Bool) (i : ℕ) (d : Bool) (old new : List C) (c : C)
    → length names ≡ length flags → i < length flags → AllZip R (take i (enumerate_from 0 (zip names flags))) old → R (i, (get_or names i [], get_or flags i d)) c → new ≡ old ++ c ∷ []
    → AllZip R (take (i + 1) (enumerate_from 0 (zip names flags))) new
column_step R names flags i d old new c same within before is push =
    let l : length (zip names flags) ≡ length flags = length_zip names flags same in
    let m : length (enumerate_from 0 (zip names flags)) ≡ length (zip names flags) = length-enumerate_from 0 (zip names flags) in
    let here : get_or (enumerate_from 0 (zip names flags)) i (0, ([], d)) ≡ (i, (get_or names i [], get_or flags i d)) =
    get_or-enumerate_from 0 (zip names flags) i (0, ([], d)) (omega arith) ∙ ap (λ k. (k, get_or (zip names flags) i ([], d))) (zero-add i) ∙ ap (λ z. (i, z)) (get_or-zip names flags i ([], d) (omega arith) within) in
    subst (λ cs. AllZip R (take (i + 1) (enumerate_from 0 (zip names flags))) cs) (sym push)
    (subst (λ ns. AllZip R ns (old ++ c ∷ [])) (sym (take_more (enumerate_from 0 (zip names flags)) i (0, ([], d)) (omega arith)))
    (zip_push R (take i (enumerate_from 0 (zip names flags))) old _ c before (subst (λ e. R e c) (sym here) is)))

pub column_added : (bounds : List BoundLine) (names : List (List ℕ)) (marks all : List Bool) (lines : List BoundLine) (name : List ℕ) (i : ℕ) (old new : List Column) (column : Column)
    → length names ≡ length all → marks ≡ all → i < length marks → lines ≡ lines_at i bounds → name ≡ get_or names i []
    → AllZip (IsColumnOf bounds) (take i (enumerate_from 0 (zip names all))) old → IsColumnWith name (get_or marks i false) lines column → new ≡ old ++ column ∷ []
    → AllZip (IsColumnOf bounds) (take (i + 1) (enumerate_from 0 (zip names all))) new
column_added bounds names marks all lines name i old new column long same h at named before is push =
    column_step (IsColumnOf bounds) names all i false old new column long (subst (λ ms. i < length ms) same h) before
    (subst (λ n. IsColumnWith n (get_or all i false) (lines_at i bounds) column) named
    (subst (λ ls. IsColumnWith name (get_or all i false) ls column) at
    (subst (λ ms. IsColumnWith name (get_or ms i false) lines column) same is)))
    push

pub columns_whole : (bounds : List BoundLine) (names : List (List ℕ)) (marks all : List Bool) (i : ℕ) (columns : List Column)
    → length names ≡ length all → marks ≡ all → i ≡ length marks → AllZip (IsColumnOf bounds) (take i (enumerate_from 0 (zip names all))) columns
    → AllZip (IsColumnOf bounds) (enumerate_from 0 (zip names all)) columns
columns_whole bounds names marks all i columns long same e h =
    let l : length (enumerate_from 0 (zip names all)) ≡ length all = length-enumerate_from 0 (zip names all) ∙ length_zip names all long in
    let n : i ≡ length (enumerate_from 0 (zip names all)) = e ∙ ap length same ∙ sym l in
    subst (λ ns. AllZip (IsColumnOf bounds) ns columns) (ap (λ n. take n (enumerate_from 0 (zip names all))) n ∙ take-length (enumerate_from 0 (zip names all))) h

pub tests_whole : (bounds : List BoundLine) (marks all : List Bool) (i : ℕ) → marks ≡ all → i ≡ length marks
    → NoneFails (flat_map (end_tests_at_column bounds) (take i (enumerate_from 0 all))) → NoneFails (flat_map (end_tests_at_column bounds) (enumerate_from 0 all))
tests_whole bounds marks all i same e h =
    let n : i ≡ length (enumerate_from 0 all) = e ∙ ap length same ∙ sym (length-enumerate_from 0 all) in
    subst (λ ns. NoneFails (flat_map (end_tests_at_column bounds) ns)) (ap (λ n. take n (enumerate_from 0 all)) n ∙ take-length (enumerate_from 0 all)) h

-- as many columns as names
pub as_many_columns : (bounds : List BoundLine) (names : List (List ℕ)) (marks : List Bool) (columns : List Column) → length marks ≡ length names
    → AllZip (IsColumnOf bounds) (enumerate_from 0 (zip names marks)) columns → length columns ≡ length names
as_many_columns bounds names marks columns same h =
    AllZip-long (IsColumnOf bounds) (enumerate_from 0 (zip names marks)) columns h ∙ length-enumerate_from 0 (zip names marks) ∙ length_zip names marks (sym same) ∙ same
