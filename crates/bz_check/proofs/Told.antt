-- What the tests of a certificate tell of it.
use Rattle.std.specs.Prelude.{pos, ◌≡◌, ◌⊎◌, [], Result, Ok, Err, IfErr, IfOk}
use Rattle.std.proofs.Common.{arith, ap, inl, inr, refl}
use Rattle.bz_model.specs.Splits.{Decomposition, IsSplit}
use Rattle.bz_first.specs.Tests.{JudgesUnless}
use Rattle.bz_tree.specs.declared.Leaf.{Leaf}
use Rattle.bz_tree.specs.Boxes.{Box, IsRootBox}
use Rattle.bz_tree.specs.Trees.{Tree}
use Rattle.bz_cert.specs.declared.Certificate.{Certificate}
use Rattle.bz_cert.specs.declared.Verdict.{Verdict}
use Rattle.bz_cert.specs.declared.Verdict.TheVariants.{Optimal, Infeasible, Unbounded}
use Rattle.bz_cert.specs.Shapes.{HasTreeOf, IsShaped}
use Rattle.bz_judge.specs.declared.CheckFault.{CheckFault}
use Rattle.bz_judge.specs.declared.CheckFault.TheVariants as fault
use Rattle.bz_check.specs.Checking.{IsDue, PassesTests, Settles}
use Rattle.bz_check.specs.CheckTests.{HasTree, IsCheckFault, check_tests}
use Rattle.bz_cert.specs.Fits.{Fits}
use Rattle.bz_cert.specs.Passing.{Passes}
use Rattle.bz_check.proofs.AllTests.{fault_fails, fault_is_one, tests_tell}
use Rattle.bz_model.proofs.InnerCosts.{decomposed}

tree_of : (c : Certificate) (verdict : Verdict) → HasTreeOf verdict c.tree → (tree : Tree) × HasTree c verdict tree
tree_of c Optimal h = (h.tree, h.is_tree)
tree_of c Infeasible h = (h.tree, h.is_tree)
tree_of c Unbounded h = (Tree.tip (let leaf : Leaf = record { lambda = []; delta = pos 0; bound = pos 0; delta_narrow = omega arith; bound_narrow = omega arith } in leaf), tt)

-- a shaped certificate has a tree, where its verdict has one
pub some_tree : (c : Certificate) → IsShaped c → (tree : Tree) × HasTree c c.verdict tree
some_tree c h = tree_of c c.verdict h.tree

pub settles : (d : Decomposition) (c : Certificate) (root : Box) (tree : Tree) (result : Result (Unit {0}) CheckFault) → IsSplit d → IsRootBox d.model root → HasTree c c.verdict tree → JudgesUnless fault.OutOfMemory (check_tests d.model d.part root tree c) result → Settles d c result
settles d c root tree (Ok x) s is_root is_tree h = (s, record { root = root; is_root = is_root; tree = tree; is_tree = is_tree; hold = h })
settles d c root tree (Err f) s is_root is_tree (inl e) = inl e
settles d c root tree (Err f) s is_root is_tree (inr h) = inr (s, record { root = root; is_root = is_root; tree = tree; is_tree = is_tree; first = h })

-- all tests hold exactly where the certificate passes and fits
told : (d : Decomposition) (c : Certificate) → IsSplit d → PassesTests d.model d.part c → Passes d.model d.part c × Fits d.model d.part c
told d c s h = (tests_tell d.model d.part h.root h.tree c (decomposed d s) h.is_root h.is_tree).0 h.hold

pub passes_told : (d : Decomposition) (c : Certificate) (result : Result (Unit {0}) CheckFault) → Settles d c result → IfOk result (λ _. Passes d.model d.part c)
passes_told d c (Ok x) h = (told d c h.0 h.1).0
passes_told d c (Err f) h = tt

pub fits_told : (d : Decomposition) (c : Certificate) (result : Result (Unit {0}) CheckFault) → Settles d c result → IfOk result (λ _. Fits d.model d.part c)
fits_told d c (Ok x) h = (told d c h.0 h.1).1
fits_told d c (Err f) h = tt

pub split_told : (d : Decomposition) (c : Certificate) (result : Result (Unit {0}) CheckFault) → Settles d c result → IfOk result (λ _. IsSplit d)
split_told d c (Ok x) h = h.0
split_told d c (Err f) h = tt

pub fault_told : (d : Decomposition) (c : Certificate) (result : Result (Unit {0}) CheckFault) → Settles d c result → IfErr result (λ f. (f ≡ fault.OutOfMemory) ⊎ IsCheckFault d.model d.part c f)
fault_told d c (Ok x) h = tt
fault_told d c (Err f) (inl e) = inl e
fault_told d c (Err f) (inr h) = inr h.1

pub holds_due : (d : Decomposition) (c : Certificate) (result : Result (Unit {0}) CheckFault) → Settles d c result → Passes d.model d.part c → Fits d.model d.part c → IsDue (Ok tt) result
holds_due d c (Ok x) h p q = inl refl
holds_due d c (Err f) (inl e) p q = inr (ap Err e)
holds_due d c (Err f) (inr h) p q = absurd (fault_fails d.model d.part c f (decomposed d h.0) h.1 (p, q))

pub first_due : (d : Decomposition) (c : Certificate) (result : Result (Unit {0}) CheckFault) → Settles d c result → (f : CheckFault) → IsCheckFault d.model d.part c f → IsDue (Err f) result
first_due d c (Ok x) h f k = absurd (fault_fails d.model d.part c f (decomposed d h.0) k (told d c h.0 h.1))
first_due d c (Err g) (inl e) f k = inr (ap Err e)
first_due d c (Err g) (inr h) f k = inl (ap Err (fault_is_one d.model d.part c g f (decomposed d h.0) h.1 k))
