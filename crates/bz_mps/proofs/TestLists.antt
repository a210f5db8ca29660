-- Lists of tests: none fails, or the first that does.
use Rattle.std.proofs.Common.{ℕ, ◌+◌, ◌<◌, ◌≡◌, sym, ap, ◌∙◌, subst, zero-add, add-one, Bool, true, List, [], ◌∷◌, ◌++◌, append_assoc, take, drop, get_or, take-append-drop}
use Rattle.std.specs.Prelude.{length, flat_map, Result, Ok, Err, IsErrAnd}
use Rattle.std.specs.List.{enumerate_from}
use Rattle.std.proofs.lemmas.Grind.{flat_map-append}
use Rattle.std.proofs.lemmas.List.{append-nil}
use Rattle.std.proofs.lemmas.List.FromFn.{get_or-enumerate_from, length-enumerate_from}
use Rattle.std.proofs.Math.Seq.{drop-cons}
use Rattle.bz_lines.specs.FirstFault.{IsFirstFailing, NoneFails}
use Rattle.bz_facts.specs.declared.MpsFault.{MpsFault}
use Rattle.bz_facts.specs.declared.MpsStop.{MpsStop}
use Rattle.bz_facts.specs.declared.MpsStop.TheVariants.{Fault, OutOfMemory}
use Rattle.bz_mps.specs.FactModel.{fault}
use Rattle.bz_mps.specs.TestAnswers.{StopsAtFirst, Tests}

pub none_append : {K : Type 0} (before ts : List (Bool × K)) → NoneFails before → NoneFails ts → NoneFails (before ++ ts)
none_append [] ts h k = k
none_append (t ∷ before) ts h k = (h.0, none_append before ts h.1 k)

first_within : {K : Type 0} (before ts behind : List (Bool × K)) (k : K) → NoneFails before → IsFirstFailing ts k → IsFirstFailing (before ++ (ts ++ behind)) k
first_within before ts behind k h f = record {
  before = before ++ f.before;
  behind = f.behind ++ behind;
  are = ap (λ ts. before ++ (ts ++ behind)) f.are ∙ ap (λ l. before ++ l) (append_assoc f.before ((true, k) ∷ f.behind) behind) ∙ sym (append_assoc before f.before ((true, k) ∷ f.behind ++ behind));
  passed = none_append before f.before h f.passed;
}

-- a maker stops at the first of all tests that fails, where none before some of them does and it stops at the first of these
pub stops_within : (before ts behind : List (Bool × MpsFault)) (stop : MpsStop) → NoneFails before → StopsAtFirst ts stop → StopsAtFirst (before ++ (ts ++ behind)) stop
stops_within before ts behind (Fault f) h s = first_within before ts behind (fault f.line f.kind) h s
stops_within before ts behind OutOfMemory h s = tt

-- the same where no tests stand behind
pub stops_behind : (before ts : List (Bool × MpsFault)) (stop : MpsStop) → NoneFails before → StopsAtFirst ts stop → StopsAtFirst (before ++ ts) stop
stops_behind before ts stop h s = subst (λ l. StopsAtFirst (before ++ l) stop) (append-nil ts) (stops_within before ts [] stop h s)

-- a stop that is passed on
pub stops_on : {X : Type 0} (tests : List (Bool × MpsFault)) (r : Result X MpsStop) (e : MpsStop) → IsErrAnd r (λ f. f ≡ e) → StopsAtFirst tests e → Tests tests r
stops_on tests (Ok x) e same h = absurd same
stops_on tests (Err f) e same h = subst (StopsAtFirst tests) (sym same) h

-- a list about one of its items
pub split_at : {X : Type 0} (xs : List X) (i : ℕ) (d : X) → i < length xs → xs ≡ take i xs ++ get_or xs i d ∷ drop (i + 1) xs
split_at xs i d h = sym (take-append-drop i xs) ∙ ap (λ l. take i xs ++ l) (drop-cons xs i d h ∙ ap (λ n. get_or xs i d ∷ drop n xs) (sym (add-one i)))

-- an item with its place
pub numbered_at : {X : Type 0} (xs : List X) (i : ℕ) (x : X) → i < length xs → x ≡ get_or xs i x → get_or (enumerate_from 0 xs) i (0, x) ≡ (i, x)
numbered_at xs i x h e = get_or-enumerate_from 0 xs i (0, x) h ∙ ap (λ k. (k, get_or xs i x)) (zero-add i) ∙ ap (λ x. (i, x)) (sym e)

-- the tests of each item, about those of one
pub tests_at : {X K : Type 0} (f : ℕ × X → List (Bool × K)) (xs : List X) (i : ℕ) (x : X) → i < length xs → x ≡ get_or xs i x
    → flat_map f (enumerate_from 0 xs) ≡ flat_map f (take i (enumerate_from 0 xs)) ++ (f (i, x) ++ flat_map f (drop (i + 1) (enumerate_from 0 xs)))
tests_at f xs i x h e =
    ap (flat_map f) (split_at (enumerate_from 0 xs) i (0, x) (subst (λ n. i < n) (sym (length-enumerate_from 0 xs)) h))
    ∙ flat_map-append f (take i (enumerate_from 0 xs)) (get_or (enumerate_from 0 xs) i (0, x) ∷ drop (i + 1) (enumerate_from 0 xs))
    ∙ ap (λ y. flat_map f (take i (enumerate_from 0 xs)) ++ (f y ++ flat_map f (drop (i + 1) (enumerate_from 0 xs)))) (numbered_at xs i x h e)
