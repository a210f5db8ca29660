-- The tests' tasks fit the worked model.
use Rattle.std.specs.Prelude.{ℕ, zero, suc, ◌<◌, ◌≤◌, ◌≡◌, ℤ, pos, List, [], ◌∷◌, length, filter}
use Rattle.std.specs.List.{AllByRecursion, enumerate_from}
use Rattle.std.proofs.Common.{refl, sym, subst, ◌∙◌, arith}
use Rattle.std.proofs.lemmas.Int.{ints}
use Rattle.bz_algebra.specs.Sums.{AllBelow}
use Rattle.bz_model.specs.declared.Column.{Column}
use Rattle.bz_model.specs.declared.Model.{Model}
use Rattle.bz_model.specs.Worked.{AreWorkedColumns}
use Rattle.bz_cut.specs.declared.Cut.{Cut}
use Rattle.bz_cut.specs.declared.Mode.{Mode}
use Rattle.bz_cut.specs.declared.Mode.TheVariants as mode
use Rattle.bz_tree.specs.Ends.{box_of}
use Rattle.bz_tree.specs.declared.NodeBox.{NodeBox}
use Rattle.bz_std.specs.Floored.{AreFloored, HasFloor}
use Rattle.bz_std.specs.Tasks.{IsBoxOf, IsCutOfSplit}
use Rattle.bz_event.specs.Nodes.{IsReady}
use Rattle.bz_node.specs.Worked.{AreTestCuts}

-- x in the master and y in block 1
abbrev worked_part : List ℕ
worked_part = 0 ∷ 1 ∷ []

one_integer : (cs : List Column) → AreWorkedColumns cs → length (filter (λ (e : ℕ × Column). e.1.integer) (enumerate_from 0 cs)) ≡ 1
one_integer [] h = absurd h
one_integer (x ∷ []) h = absurd h
one_integer (x ∷ y ∷ []) h = rw (h.0, h.3) refl
one_integer (x ∷ y ∷ z ∷ rest) h = absurd h

pub box_fits : (m : Model) (region : NodeBox) → AreWorkedColumns m.columns → length region.lower ≡ 1 → length region.upper ≡ 1 → IsBoxOf m (box_of region)
box_fits m region h lower upper = record { lowers = lower ∙ sym (one_integer m.columns h); uppers = upper ∙ sym (one_integer m.columns h) }

cuts_fit_here : (cuts : List Cut) → AreTestCuts cuts → AllByRecursion (IsCutOfSplit worked_part) cuts
cuts_fit_here [] h = absurd h
cuts_fit_here (floor ∷ []) h = absurd h
cuts_fit_here (floor ∷ cut ∷ []) h = (
  record { first = omega (arith, h.0); last = omega (arith, h.0); alpha = rw h.2 tt },
  (record { first = omega (arith, h.3.0); last = omega (arith, h.3.0); alpha = h.3.1 }, tt),
)
cuts_fit_here (floor ∷ cut ∷ next ∷ rest) h = absurd h

pub cuts_fit : (part : List ℕ) (cuts : List Cut) → part ≡ worked_part → AreTestCuts cuts → AllByRecursion (IsCutOfSplit part) cuts
cuts_fit part cuts e h = subst (λ (p : List ℕ). AllByRecursion (IsCutOfSplit p) cuts) (sym e) (cuts_fit_here cuts h)

pub two_cuts : (cuts : List Cut) → AreTestCuts cuts → length cuts ≡ 2
two_cuts [] h = absurd h
two_cuts (floor ∷ []) h = absurd h
two_cuts (floor ∷ cut ∷ []) h = refl
two_cuts (floor ∷ cut ∷ next ∷ rest) h = absurd h

one_floor : (cuts : List Cut) → AreTestCuts cuts → HasFloor cuts 1
one_floor [] h = absurd h
one_floor (floor ∷ []) h = absurd h
one_floor (floor ∷ cut ∷ []) h = record { cut = floor; among = (0, omega arith, refl); block = h.0; eta = omega (arith, ints, h.1) }
one_floor (floor ∷ cut ∷ next ∷ rest) h = absurd h

floored : (cuts : List Cut) → AreTestCuts cuts → AreFloored 1 cuts
floored cuts h zero l u = absurd (omega arith)
floored cuts h (suc zero) l u = one_floor cuts h
floored cuts h (suc (suc b)) l u = absurd (omega arith)

ready_here : (cuts : List Cut) (way : Mode) → AreTestCuts cuts → IsReady worked_part cuts way
ready_here cuts mode.Cost h = floored cuts h
ready_here cuts mode.Point h = omega arith

pub ready : (part : List ℕ) (cuts : List Cut) (way : Mode) → part ≡ worked_part → AreTestCuts cuts → IsReady part cuts way
ready part cuts way e h = subst (λ (p : List ℕ). IsReady p cuts way) (sym e) (ready_here cuts way h)
