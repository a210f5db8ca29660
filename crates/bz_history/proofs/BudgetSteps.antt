-- Appended cuts are few, and so are the units that are spent while a node is open.
use Rattle.std.proofs.Common.{◌≡◌, refl, sym, ◌∙◌, ap, subst, ℕ, zero, suc, ◌+◌, ◌-◌, ◌*◌, ◌^◌, ◌<◌, ◌≤◌, List, [], ◌∷◌, length, map, inl, inr, arith}
use Rattle.std.proofs.lemmas.Bool.{cases_Bool, cases_eq, eq-eqb, ne_eqb}
use Rattle.std.proofs.lemmas.List.{length-append, length-drop, length-map}
use Rattle.std.specs.Prelude.{◌==◌, ◌||◌, Some, Bool, true, false, cond, drop}
use Rattle.std.specs.List.{AllByRecursion, list_any, slice_get}
use Rattle.bz_algebra.specs.Tableaus.{AllWithinBound, AreAlike, IsNew, NoTwoAlike}
use Rattle.bz_algebra.proofs.Counting.{count_bases}
use Rattle.bz_model.specs.Parting.{blocks_of, inequalities_of, width_of}
use Rattle.bz_model.specs.Splits.{Decomposition}
use Rattle.bz_cut.specs.declared.Cut.{Cut}
use Rattle.bz_cut.specs.declared.Mode.{Mode}
use Rattle.bz_cut.specs.declared.Mode.TheVariants as mode
use Rattle.bz_cut.specs.Cuts.{IsValid}
use Rattle.bz_cut.specs.Points.{AreSame}
use Rattle.bz_tableau.specs.Laws.{place}
use Rattle.bz_std.specs.CutsOfBases.{CutOf, falling_cost, unsided_separation}
use Rattle.bz_std.specs.Tasks.{falling_line}
use Rattle.bz_std.proofs.CutsOfBases.{one_cut_of}
use Rattle.bz_pool.specs.Pools.{AreApart}
use Rattle.bz_history.specs.declared.state.Node.{Node}
use Rattle.bz_history.specs.Budgets.{EnoughIsEnough, column_sets, separation_columns}
use Rattle.bz_history.specs.Measures.{all_nodes_below, nodes_below, points_of}
use Rattle.bz_history.specs.Pools.{IsBasisCut, IsPoolOf}
use Rattle.bz_history.specs.Sizes.{AreSizes, closed_in}
use Rattle.bz_history.specs.States.{is_open, mode_of}
use Rattle.bz_history.proofs.AppendedSteps.{appended_cuts_are_of_bases}
use Rattle.bz_history.proofs.Lists.{all_at, all_of_items, at_dropped}
use Rattle.bz_history.proofs.MeasureSteps.{nodes_are_few, points_some}
use Rattle.bz_history.proofs.PoolSteps.{pools_are_right}
use Rattle.bz_history.proofs.SizeSteps.{sizes_are_right}

-- ---- cuts by their blocks
-- the cuts of the block
of_block : ℕ → List Cut → List Cut
of_block b [] = []
of_block b (c ∷ cs) = cond (c.block == b) (c ∷ of_block b cs) (of_block b cs)

-- how many cuts are of the blocks from 1 to n
of_blocks : ℕ → List Cut → ℕ
of_blocks zero cs = 0
of_blocks (suc n) cs = of_blocks n cs + length (of_block (suc n) cs)

block_here : (b : ℕ) (c : Cut) (cs : List Cut) → c.block ≡ b → of_block b (c ∷ cs) ≡ c ∷ of_block b cs
unfolding of_block
block_here b c cs e = ap (λ (t : Bool). cond t (c ∷ of_block b cs) (of_block b cs)) (eq-eqb c.block b e)

block_other : (b : ℕ) (c : Cut) (cs : List Cut) → (c.block ≡ b → ⊥) → of_block b (c ∷ cs) ≡ of_block b cs
unfolding of_block
block_other b c cs d = ap (λ (t : Bool). cond t (c ∷ of_block b cs) (of_block b cs)) (ne_eqb c.block b d)

-- a cut of a later block isn't counted
blocks_before : (n : ℕ) (c : Cut) (cs : List Cut) → n < c.block → of_blocks n (c ∷ cs) ≡ of_blocks n cs
unfolding of_blocks
blocks_before zero c cs later = refl
blocks_before (suc n) c cs later =
    let rest : of_blocks n (c ∷ cs) ≡ of_blocks n cs = blocks_before n c cs (omega arith) in
    let own : of_block (suc n) (c ∷ cs) ≡ of_block (suc n) cs = block_other (suc n) c cs (λ e. omega arith) in
    let size : length (of_block (suc n) (c ∷ cs)) ≡ length (of_block (suc n) cs) = ap length own in
    omega arith

blocks_within : (n : ℕ) (c : Cut) (cs : List Cut) → 0 < c.block → c.block ≤ n → of_blocks n (c ∷ cs) ≡ suc (of_blocks n cs)
unfolding of_blocks
blocks_within zero c cs first last = absurd (omega arith)
blocks_within (suc n) c cs first last = elim (cases_eq c.block (suc n)) [
  | inl e ↦
      let rest : of_blocks n (c ∷ cs) ≡ of_blocks n cs = blocks_before n c cs (omega arith) in
      let size : length (of_block (suc n) (c ∷ cs)) ≡ suc (length (of_block (suc n) cs)) = ap length (block_here (suc n) c cs e) in
      omega arith
  | inr d ↦
      let rest : of_blocks n (c ∷ cs) ≡ suc (of_blocks n cs) = blocks_within n c cs first (omega arith) in
      let size : length (of_block (suc n) (c ∷ cs)) ≡ length (of_block (suc n) cs) = ap length (block_other (suc n) c cs d) in
      omega arith
]

none_counted : (n : ℕ) → of_blocks n [] ≡ 0
unfolding of_blocks of_block
none_counted zero = refl
none_counted (suc n) =
    let rest : of_blocks n [] ≡ 0 = none_counted n in
    omega arith

-- each cut is of one block
all_counted : (n : ℕ) (cs : List Cut) → AllByRecursion (λ c. (0 < c.block) × (c.block ≤ n)) cs → of_blocks n cs ≡ length cs
all_counted n [] h = none_counted n
all_counted n (c ∷ cs) h = blocks_within n c cs h.0.0 h.0.1 ∙ ap suc (all_counted n cs h.1)

-- what each cut has, each of the block has
all_of_block : (P : Cut → Type 0) (b : ℕ) (cs : List Cut) → AllByRecursion P cs → AllByRecursion P (of_block b cs)
unfolding of_block
all_of_block P b [] h = tt
all_of_block P b (c ∷ cs) h = elim (cases_eq c.block b) [
  | inl e ↦ subst (AllByRecursion P) (sym (block_here b c cs e)) (h.0, all_of_block P b cs h.1)
  | inr d ↦ subst (AllByRecursion P) (sym (block_other b c cs d)) (all_of_block P b cs h.1)
]

own_block : (b : ℕ) (cs : List Cut) → AllByRecursion (λ c. c.block ≡ b) (of_block b cs)
unfolding of_block
own_block b [] = tt
own_block b (c ∷ cs) = elim (cases_eq c.block b) [
  | inl e ↦ subst (AllByRecursion (λ c. c.block ≡ b)) (sym (block_here b c cs e)) (e, own_block b cs)
  | inr d ↦ subst (AllByRecursion (λ c. c.block ≡ b)) (sym (block_other b c cs d)) (own_block b cs)
]

-- ---- cuts that differ
-- no two of the list are the same
AreDifferent : List Cut → Type 0
AreDifferent [] = Unit {0}
AreDifferent (c ∷ cs) = AllByRecursion (λ other. ¬ AreSame c other) cs × AreDifferent cs

different : (cs : List Cut) → AreApart cs → AreDifferent cs
unfolding AreDifferent
different [] apart = tt
different (c ∷ cs) apart = (
  all_of_items (λ other. ¬ AreSame c other) cs (λ k other at same. absurd (first (apart 0 (suc k) c other refl at same))),
  different cs (λ i j a b at_a at_b same. later i j (apart (suc i) (suc j) a b at_a at_b same)),
)
  where
    first : {k : ℕ} → 0 ≡ suc k → ⊥
    first e = omega arith

    later : (i j : ℕ) → suc i ≡ suc j → i ≡ j
    later i j e = omega arith

different_dropped : (n : ℕ) (cs : List Cut) → AreDifferent cs → AreDifferent (drop n cs)
unfolding AreDifferent
different_dropped zero cs h = h
different_dropped (suc n) [] h = h
different_dropped (suc n) (c ∷ cs) h = different_dropped n cs h.1

different_of_block : (b : ℕ) (cs : List Cut) → AreDifferent cs → AreDifferent (of_block b cs)
unfolding AreDifferent of_block
different_of_block b [] h = tt
different_of_block b (c ∷ cs) h = elim (cases_eq c.block b) [
  | inl e ↦ subst AreDifferent (sym (block_here b c cs e)) (all_of_block (λ other. ¬ AreSame c other) b cs h.0, different_of_block b cs h.1)
  | inr d ↦ subst AreDifferent (sym (block_other b c cs d)) (different_of_block b cs h.1)
]

-- ---- their bases
module _ (d : Decomposition) (way : Mode) (b : ℕ) where
  -- a cut of the block is that of a basis
  record IsOne (cut : Cut) : Type 0 where
    basis : List ℕ
    of_basis : CutOf d.model d.part way b basis cut

  bases_of : (cs : List Cut) → AllByRecursion IsOne cs → List (ℕ → ℕ)
  bases_of [] h = []
  bases_of (c ∷ cs) h = place h.0.basis ∷ bases_of cs h.1

  rows : ℕ
  rows = length (unsided_separation d.model d.part b way).rows

  one_each : (cs : List Cut) (h : AllByRecursion IsOne cs) → length (bases_of cs h) ≡ length cs
  unfolding bases_of
  one_each [] h = refl
  one_each (c ∷ cs) h = ap suc (one_each cs h.1)

  -- the program over columns has a row for each inequality, and in mode Cost one for the cost
  few_rows : rows ≤ length (inequalities_of d.model d.part b) + 1
  unfolding rows
  few_rows = by way
    where
      count : (way : Mode) → length (unsided_separation d.model d.part b way).rows ≡ length (inequalities_of d.model d.part b) + length (falling_cost d.model d.part b way)
      count way = length-append (map falling_line (inequalities_of d.model d.part b)) (falling_cost d.model d.part b way) ∙ ap (λ (n : ℕ). n + length (falling_cost d.model d.part b way)) (length-map (inequalities_of d.model d.part b) falling_line)

      by : (way : Mode) → length (unsided_separation d.model d.part b way).rows ≤ length (inequalities_of d.model d.part b) + 1
      by mode.Cost =
          let all : length (unsided_separation d.model d.part b mode.Cost).rows ≡ length (inequalities_of d.model d.part b) + 1 = count mode.Cost in
          omega arith
      by mode.Point =
          let all : length (unsided_separation d.model d.part b mode.Point).rows ≡ length (inequalities_of d.model d.part b) + 0 = count mode.Point in
          omega arith

  column_few : (basis : List ℕ) (cut : Cut) → CutOf d.model d.part way b basis cut → (i : ℕ) → i < rows → place basis i < separation_columns d b
  unfolding rows
  column_few basis cut c i inside =
      let below : place basis i < suc (2 * width_of d.part b) + rows = c.is_basis.is_basis.columns.in_range i inside in
      let few : rows ≤ length (inequalities_of d.model d.part b) + 1 = few_rows in
      omega arith

  within_bound : (cs : List Cut) (h : AllByRecursion IsOne cs) → AllWithinBound rows (separation_columns d b) (bases_of cs h)
  unfolding bases_of
  within_bound [] h = tt
  within_bound (c ∷ cs) h = (column_few h.0.basis c h.0.of_basis, within_bound cs h.1)

  -- cuts of alike bases are the same
  new_basis : (basis : List ℕ) (cut : Cut) → CutOf d.model d.part way b basis cut → (cs : List Cut) (h : AllByRecursion IsOne cs) → AllByRecursion (λ other. ¬ AreSame cut other) cs → IsNew rows (place basis) (bases_of cs h)
  unfolding bases_of rows
  new_basis basis cut own [] h differs = tt
  new_basis basis cut own (c ∷ cs) h differs = (
    λ alike. differs.0 (one_cut_of d.model d.part b way basis h.0.basis cut c (subst (λ (n : ℕ). AreAlike n (place basis) (place h.0.basis)) (sym own.is_basis.count) alike) own h.0.of_basis).0,
    new_basis basis cut own cs h.1 differs.1,
  )

  none_alike : (cs : List Cut) (h : AllByRecursion IsOne cs) → AreDifferent cs → NoTwoAlike rows (bases_of cs h)
  unfolding bases_of AreDifferent
  none_alike [] h differs = tt
  none_alike (c ∷ cs) h differs = (new_basis h.0.basis c h.0.of_basis cs h.1 differs.0, none_alike cs h.1 differs.1)

  few_of_block : (cs : List Cut) → AllByRecursion IsOne cs → AreDifferent cs → length cs ≤ 2 ^ separation_columns d b
  few_of_block cs h differs =
      subst (λ (n : ℕ). n ≤ 2 ^ separation_columns d b) (one_each cs h)
      (count_bases (separation_columns d b) rows (bases_of cs h) (within_bound cs h) (none_alike cs h differs))

-- the cuts of a block are each of a basis of it
each_of_block : (d : Decomposition) (way : Mode) (b : ℕ) (cs : List Cut) → AllByRecursion (IsBasisCut d way) cs → AllByRecursion (λ c. c.block ≡ b) cs → AllByRecursion (IsOne d way b) cs
each_of_block d way b [] h own = tt
each_of_block d way b (c ∷ cs) h own = (
  record { basis = h.0.basis; of_basis = subst (λ (n : ℕ). CutOf d.model d.part way n h.0.basis c) own.0 h.0.of_basis },
  each_of_block d way b cs h.1 own.1,
)

few_of_blocks : (d : Decomposition) (way : Mode) (n : ℕ) (cs : List Cut) → AllByRecursion (IsBasisCut d way) cs → AreDifferent cs → of_blocks n cs ≤ column_sets d n
unfolding of_blocks
few_of_blocks d way zero cs h differs = omega arith
few_of_blocks d way (suc n) cs h differs =
    let rest : of_blocks n cs ≤ column_sets d n = few_of_blocks d way n cs h differs in
    let own : length (of_block (suc n) cs) ≤ 2 ^ separation_columns d (suc n) = few_of_block d way (suc n) (of_block (suc n) cs)
    (each_of_block d way (suc n) (of_block (suc n) cs) (all_of_block (IsBasisCut d way) (suc n) cs h) (own_block (suc n) cs)) (different_of_block (suc n) cs differs) in
    omega arith

-- the cuts that come after the first n are at most as many as the sets of columns
few_after : (d : Decomposition) (way : Mode) (n : ℕ) (cuts : List Cut) → AllByRecursion (IsValid d.model d.part) cuts → AreApart cuts → ((k : ℕ) (cut : Cut) → n ≤ k → slice_get cuts k ≡ Some cut → IsBasisCut d way cut) → length (drop n cuts) ≤ column_sets d (blocks_of d.part)
few_after d way n cuts valid apart each =
    subst (λ (k : ℕ). k ≤ column_sets d (blocks_of d.part)) (all_counted (blocks_of d.part) (drop n cuts) blocks)
    (few_of_blocks d way (blocks_of d.part) (drop n cuts) bases (different_dropped n cuts (different cuts apart)))
  where
    bases : AllByRecursion (IsBasisCut d way) (drop n cuts)
    bases = all_of_items (IsBasisCut d way) (drop n cuts) (λ k c at. each (n + k) c (later k) (at_dropped n cuts k c at))
      where
        later : (k : ℕ) → n ≤ n + k
        later k = omega arith

    blocks : AllByRecursion (λ c. (0 < c.block) × (c.block ≤ blocks_of d.part)) (drop n cuts)
    blocks = all_of_items (λ c. (0 < c.block) × (c.block ≤ blocks_of d.part)) (drop n cuts) (λ k c at. (all_at (IsValid d.model d.part) cuts (n + k) c valid (at_dropped n cuts k c at)).block)

-- ---- nodes
some_below : (node : Node) → 1 ≤ nodes_below node
some_below node = by (is_open node)
  where
    by : (b : Bool) → 1 ≤ cond b (points_of node.region + (points_of node.region - 1)) 1
    by true =
        let some : 1 ≤ points_of node.region = points_some node.region.lower node.region.upper in
        omega arith
    by false = omega arith

closed_below : (nodes : List Node) → closed_in nodes ≤ all_nodes_below nodes
closed_below [] = omega arith
closed_below (x ∷ nodes) =
    let rest : closed_in nodes ≤ all_nodes_below nodes = closed_below nodes in
    let some : 1 ≤ nodes_below x = some_below x in
    let own : cond (is_open x) 0 1 ≤ 1 = one (is_open x) in
    omega arith
  where
    one : (b : Bool) → cond b 0 1 ≤ 1
    one true = omega arith
    one false = omega arith

-- where a node is open, the closed ones are fewer than those that the tree can have
closed_fewer : (nodes : List Node) → list_any is_open nodes ≡ true → closed_in nodes + 1 ≤ all_nodes_below nodes
closed_fewer [] h = absurd (cc)
closed_fewer (x ∷ nodes) h = elim (cases_Bool (is_open x)) [
  | inl stands ↦
      let rest : closed_in nodes ≤ all_nodes_below nodes = closed_below nodes in
      let some : 1 ≤ nodes_below x = some_below x in
      let own : closed_in (x ∷ nodes) ≡ 0 + closed_in nodes = ap (λ (c : Bool). cond c 0 1 + closed_in nodes) stands in
      omega arith
  | inr closed ↦
      let rest : closed_in nodes + 1 ≤ all_nodes_below nodes = closed_fewer nodes (sym (ap (λ (c : Bool). c || list_any is_open nodes) closed) ∙ h) in
      let some : 1 ≤ nodes_below x = some_below x in
      let own : closed_in (x ∷ nodes) ≡ 1 + closed_in nodes = ap (λ (c : Bool). cond c 0 1 + closed_in nodes) closed in
      omega arith
]

-- ---- all histories
pub enough_is_enough : EnoughIsEnough
enough_is_enough d budget root es t r some_open =
    let pool : IsPoolOf d es t = pools_are_right d budget root es t r in
    let sizes : AreSizes d budget es t = sizes_are_right d budget root es t r in
    let cuts : length (drop (length t.floors) t.cuts) ≤ column_sets d (blocks_of d.part) = few_after d (mode_of t) (length t.floors) t.cuts pool.valid pool.apart (appended_cuts_are_of_bases d budget root es t r) in
    let left : length (drop (length t.floors) t.cuts) ≡ length t.cuts - length t.floors = length-drop (length t.floors) t.cuts in
    let closed : closed_in t.nodes + 1 ≤ all_nodes_below t.nodes = closed_fewer t.nodes some_open in
    let most : all_nodes_below t.nodes + 1 ≤ 2 * points_of root = nodes_are_few d budget root es t r in
    let units : length t.floors + t.units ≡ length t.cuts + closed_in t.nodes = sizes.units in
    omega arith
