-- The first fault as a relation and as a function are the same.
use Rattle.std.proofs.Common.{refl, sym, ap, ◌∙◌, subst, Bool, true, false, ◌≡◌, List, [], ◌∷◌, ◌++◌, Option, Some, None}
use Rattle.std.proofs.lemmas.List.{append-nil, append_assoc}
use Rattle.bz_lines.specs.FirstFault.{NoneFails, IsFirstFailing, NoLineFails, IsFirstFaultAfter, first_failing, failing_or, first_fault}

-- Tests of one line.

none_next : {K : Type 0} (b : Bool) (k : K) (ts : List (Bool × K)) → (first_failing ts ≡ None → NoneFails ts) → first_failing ((b, k) ∷ ts) ≡ None → NoneFails ((b, k) ∷ ts)
none_next true k ts rest e = absurd cc
none_next false k ts rest e = (refl, rest e)

pub none_fails : {K : Type 0} (ts : List (Bool × K)) → first_failing ts ≡ None → NoneFails ts
none_fails [] e = tt
none_fails (t ∷ ts) e = none_next t.0 t.1 ts (none_fails ts) e

pub first_failing-none : {K : Type 0} (ts : List (Bool × K)) → NoneFails ts → first_failing ts ≡ None
first_failing-none [] h = refl
first_failing-none (t ∷ ts) h = rw h.0 (first_failing-none ts h.1)

-- tests behind others none of which fails
pub first_failing-behind : {K : Type 0} (before ts : List (Bool × K)) → NoneFails before → first_failing (before ++ ts) ≡ first_failing ts
first_failing-behind [] ts h = refl
first_failing-behind (t ∷ before) ts h = rw h.0 (first_failing-behind before ts h.1)

pub first_failing-some : {K : Type 0} (ts : List (Bool × K)) (kind : K) → IsFirstFailing ts kind → first_failing ts ≡ Some kind
first_failing-some ts kind h = ap first_failing h.are ∙ first_failing-behind h.before ((true, kind) ∷ h.behind) h.passed

some_next : {K : Type 0} (b : Bool) (k : K) (ts : List (Bool × K)) (kind : K) → (first_failing ts ≡ Some kind → IsFirstFailing ts kind) → first_failing ((b, k) ∷ ts) ≡ Some kind → IsFirstFailing ((b, k) ∷ ts) kind
some_next true k ts kind rest e =
    let same : k ≡ kind = cc in record { before = []; behind = ts; are = ap (λ x. (true, x) ∷ ts) same; passed = tt }
some_next false k ts kind rest e =
    let f = rest e in record { before = (false, k) ∷ f.before; behind = f.behind; are = ap (λ x. (false, k) ∷ x) f.are; passed = (refl, f.passed) }

pub some_fails : {K : Type 0} (ts : List (Bool × K)) (kind : K) → first_failing ts ≡ Some kind → IsFirstFailing ts kind
some_fails [] kind e = absurd cc
some_fails (t ∷ ts) kind e = some_next t.0 t.1 ts kind (some_fails ts kind) e

-- Lines.

no_line_next : {L K : Type 0} (tests : List L → L → List (Bool × K)) (seen ls : List L) (l : L) (found : Option K) → first_failing (tests seen l) ≡ found → (first_fault tests (seen ++ l ∷ []) ls ≡ None → NoLineFails tests (seen ++ l ∷ []) ls) → failing_or l found (first_fault tests (seen ++ l ∷ []) ls) ≡ None → NoLineFails tests seen (l ∷ ls)
no_line_next tests seen ls l None f rest e = (none_fails (tests seen l) f, rest e)
no_line_next tests seen ls l (Some kind) f rest e = absurd cc

pub no_line_fails : {L K : Type 0} (tests : List L → L → List (Bool × K)) (seen ls : List L) → first_fault tests seen ls ≡ None → NoLineFails tests seen ls
no_line_fails tests seen [] e = tt
no_line_fails tests seen (l ∷ ls) e =
    no_line_next tests seen ls l (first_failing (tests seen l)) refl (no_line_fails tests (seen ++ l ∷ []) ls) e

-- lines behind others none of which fails
pub first_fault-behind : {L K : Type 0} (tests : List L → L → List (Bool × K)) (seen before ls : List L) → NoLineFails tests seen before → first_fault tests seen (before ++ ls) ≡ first_fault tests (seen ++ before) ls
first_fault-behind tests seen [] ls h = ap (λ s. first_fault tests s ls) (sym (append-nil seen))
first_fault-behind tests seen (l ∷ before) ls h =
    ap (λ o. failing_or l o (first_fault tests (seen ++ l ∷ []) (before ++ ls))) (first_failing-none (tests seen l) h.0)
    ∙ first_fault-behind tests (seen ++ l ∷ []) before ls h.1
    ∙ ap (λ s. first_fault tests s ls) (append_assoc seen (l ∷ []) before)

pub first_fault-none : {L K : Type 0} (tests : List L → L → List (Bool × K)) (seen ls : List L) → NoLineFails tests seen ls → first_fault tests seen ls ≡ None
first_fault-none tests seen ls h = ap (first_fault tests seen) (sym (append-nil ls)) ∙ first_fault-behind tests seen ls [] h

-- the next line fails
pub first_fault-here : {L K : Type 0} (tests : List L → L → List (Bool × K)) (seen ls : List L) (l : L) (kind : K) → first_failing (tests seen l) ≡ Some kind → first_fault tests seen (l ∷ ls) ≡ Some (l, kind)
first_fault-here tests seen ls l kind e = ap (λ o. failing_or l o (first_fault tests (seen ++ l ∷ []) ls)) e

-- the next line does not fail
pub first_fault-next : {L K : Type 0} (tests : List L → L → List (Bool × K)) (seen ls : List L) (l : L) → first_failing (tests seen l) ≡ None → first_fault tests seen (l ∷ ls) ≡ first_fault tests (seen ++ l ∷ []) ls
first_fault-next tests seen ls l e = ap (λ o. failing_or l o (first_fault tests (seen ++ l ∷ []) ls)) e

pub first_fault-some : {L K : Type 0} (tests : List L → L → List (Bool × K)) (seen ls : List L) (line : L) (kind : K) → IsFirstFaultAfter tests seen ls line kind → first_fault tests seen ls ≡ Some (line, kind)
first_fault-some tests seen ls line kind h =
    ap (first_fault tests seen) h.are
    ∙ first_fault-behind tests seen h.before (line ∷ h.behind) h.passed
    ∙ first_fault-here tests (seen ++ h.before) h.behind line kind (first_failing-some (tests (seen ++ h.before) line) kind h.failing)

some_line_next : {L K : Type 0} (tests : List L → L → List (Bool × K)) (seen ls : List L) (l line : L) (kind : K) (found : Option K) → first_failing (tests seen l) ≡ found → (first_fault tests (seen ++ l ∷ []) ls ≡ Some (line, kind) → IsFirstFaultAfter tests (seen ++ l ∷ []) ls line kind) → failing_or l found (first_fault tests (seen ++ l ∷ []) ls) ≡ Some (line, kind) → IsFirstFaultAfter tests seen (l ∷ ls) line kind
some_line_next tests seen ls l line kind None f rest e = let r = rest e in record {
  before = l ∷ r.before;
  behind = r.behind;
  are = ap (λ x. l ∷ x) r.are;
  passed = (none_fails (tests seen l) f, r.passed);
  failing = subst (λ s. IsFirstFailing (tests s line) kind) (append_assoc seen (l ∷ []) r.before) r.failing;
}
some_line_next {L = L} {K = K} tests seen ls l line kind (Some found) f rest e =
    let pair : (l, found) ≡ (line, kind) = cc in
    let same : l ≡ line = ap (λ (p : L × K). p.0) pair in
    let same_kind : found ≡ kind = ap (λ (p : L × K). p.1) pair in
    let here : first_failing (tests seen line) ≡ Some kind = ap (λ x. first_failing (tests seen x)) (sym same) ∙ f ∙ ap Some same_kind in
    record {
      before = [];
      behind = ls;
      are = ap (λ x. x ∷ ls) same;
      passed = tt;
      failing = subst (λ s. IsFirstFailing (tests s line) kind) (sym (append-nil seen)) (some_fails (tests seen line) kind here);
    }

pub some_line_fails : {L K : Type 0} (tests : List L → L → List (Bool × K)) (seen ls : List L) (line : L) (kind : K) → first_fault tests seen ls ≡ Some (line, kind) → IsFirstFaultAfter tests seen ls line kind
some_line_fails tests seen [] line kind e = absurd cc
some_line_fails tests seen (l ∷ ls) line kind e =
    some_line_next tests seen ls l line kind (first_failing (tests seen l)) refl (some_line_fails tests (seen ++ l ∷ []) ls line kind) e
