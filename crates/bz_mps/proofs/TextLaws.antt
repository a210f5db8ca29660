-- A text doesn't have both a model and a fault, and has one fault alone.
use Rattle.std.proofs.Common.{ℕ, ◌≡◌, inl, inr, ap, sym, ◌∙◌, subst, Some, List}
use Rattle.bz_lines.specs.FirstFault.{NoneFails}
use Rattle.bz_lines.proofs.FirstFaults.{first_failing-none, first_failing-some}
use Rattle.bz_model.specs.declared.Model.{Model}
use Rattle.bz_facts.specs.declared.Facts.{Facts}
use Rattle.bz_facts.specs.declared.MpsFault.{MpsFault}
use Rattle.bz_facts.specs.declared.MpsKind.{MpsKind}
use Rattle.bz_facts.proofs.FactLaws.{facts-no_fault, same_facts, same_line_fault}
use Rattle.bz_mps.specs.FactModel.{EndFault, ModelOf, MpsFaultOf, end_tests, fault}

passing-no_end_fault : (f : Facts) (line : ℕ) (kind : MpsKind) → NoneFails (end_tests f) → EndFault f line kind → ⊥
passing-no_end_fault f line kind h k =
    let none = first_failing-none (end_tests f) h in
    let some = first_failing-some (end_tests f) (fault line kind) k in
    absurd cc

-- a text that has a model has no fault
pub model-no_fault : (text : List ℕ) (m : Model) (line : ℕ) (kind : MpsKind) → ModelOf text m → MpsFaultOf text line kind → ⊥
model-no_fault text m line kind h (inl k) = facts-no_fault text h.facts line kind h.are k
model-no_fault text m line kind h (inr k) =
    passing-no_end_fault h.facts line kind h.ends
    (subst (λ (f : Facts). EndFault f line kind) (same_facts text k.facts h.facts k.are h.are) k.first)

same_end_fault : (f : Facts) (l m : ℕ) (k j : MpsKind) → EndFault f l k → EndFault f m j → (l ≡ m) × (k ≡ j)
same_end_fault f l m k j h g =
    let faults : Some (fault l k) ≡ Some (fault m j) =
    sym (first_failing-some (end_tests f) (fault l k) h) ∙ first_failing-some (end_tests f) (fault m j) g in
    let inside : fault l k ≡ fault m j = cc in
    (ap (λ (x : MpsFault). x.line) inside, ap (λ (x : MpsFault). x.kind) inside)

-- a text has one fault alone
pub same_mps_fault : (text : List ℕ) (l m : ℕ) (k j : MpsKind) → MpsFaultOf text l k → MpsFaultOf text m j → (l ≡ m) × (k ≡ j)
same_mps_fault text l m k j (inl h) (inl g) = same_line_fault text l m k j h g
same_mps_fault text l m k j (inl h) (inr g) = absurd (facts-no_fault text g.facts l k g.are h)
same_mps_fault text l m k j (inr h) (inl g) = absurd (facts-no_fault text h.facts m j h.are g)
same_mps_fault text l m k j (inr h) (inr g) =
    same_end_fault g.facts l m k j (subst (λ (f : Facts). EndFault f l k) (same_facts text h.facts g.facts h.are g.are) h.first) g.first
