-- A certificate that passes over a split is short enough to be written.
use Rattle.std.specs.Prelude.{ℕ, ◌≡◌, ◌+◌, ◌*◌, ◌<◌, ◌≤◌, ◌^◌, List, [], ◌∷◌, ◌++◌, length, Option, Some, None}
use Rattle.std.specs.List.{AllByRecursion, enumerate_from, flat_map}
use Rattle.std.proofs.Common.{arith, map, nat_eq, subst, sym}
use Rattle.std.proofs.lemmas.List.{length-append, length-map}
use Rattle.std.proofs.lemmas.List.Sums.{count_by-le-length, length-filter}
use Rattle.std.proofs.lemmas.List.FromFn.{length-enumerate_from}
use Rattle.bz_num.proofs.Lengths.{short}
use Rattle.bz_model.specs.declared.Column.{Column}
use Rattle.bz_model.specs.declared.Parts.{Parts}
use Rattle.bz_model.specs.Parting.{inequalities_of, integers_of, width_of}
use Rattle.bz_model.specs.Splits.{Decomposition, IsSplit}
use Rattle.bz_model.proofs.Inequalities.{length-inequalities}
use Rattle.bz_model.proofs.MeetingParts.{all_both}
use Rattle.bz_cut.specs.declared.Cut.{Cut}
use Rattle.bz_cut.specs.Cuts.{IsValid}
use Rattle.bz_cut.proofs.Steps.{multipliers_below}
use Rattle.bz_tree.specs.declared.TreeNode.{TreeNode}
use Rattle.bz_tree.specs.Boxes.{Box}
use Rattle.bz_tree.specs.Leaves.{side_of_cut, side_of_master, sides_of, sides_of_box}
use Rattle.bz_tree.specs.Trees.{HoldsOver, IsTreeOf, Tree, preorder, with_lower, with_upper}
use Rattle.bz_cert.specs.declared.records.Certificate.{Certificate}
use Rattle.bz_cert.specs.declared.records.Verdict.{Verdict}
use Rattle.bz_cert.specs.declared.records.Verdict.TheVariants.{Optimal, Infeasible, Unbounded}
use Rattle.bz_cert.specs.CertText.{HasFewBlocks}
use Rattle.bz_cert.specs.CertWriting.{HasFewItems, HasShortList, HasShortLists, IsIndexedCut, IsIndexedNode}
use Rattle.bz_cert.specs.Passing.{Passes, PassesAs}
use Rattle.bz_cert.specs.Shapes.{HasCutsOf, HasPartsOf, HasTreeOf, IsShaped}

-- ---- how long lists are
module _ (d : Decomposition) (s : IsSplit d) where
  few_inequalities : (b : ℕ) → length (inequalities_of d.model d.part b) ≤ 2 ^ 30
  few_inequalities b = let l = length-inequalities d.model d.part b in omega (arith, l, d.model.few_columns, d.model.few_rows)

  narrow_master : width_of d.part 0 ≤ 2 ^ 28
  narrow_master =
      let most : width_of d.part 0 ≤ length d.part = count_by-le-length (λ c. nat_eq c 0) d.part in
      omega (arith, most, s.partition.numbers, d.model.few_columns)

  few_integers : length (integers_of d.model) ≤ 2 ^ 28
  few_integers =
      let i : length (integers_of d.model) ≤ length d.model.columns = omega (arith, length-filter (λ (e : ℕ × Column). e.1.integer) (enumerate_from 0 d.model.columns), count_by-le-length (λ (e : ℕ × Column). e.1.integer) (enumerate_from 0 d.model.columns), length-enumerate_from 0 d.model.columns) in
      omega (arith, i, d.model.few_columns)

length-sides_of_box : (part : List ℕ) (box : Box) (n : ℕ) (es : List (ℕ × Column)) → length (flat_map (sides_of_box part box) (enumerate_from n es)) ≡ 2 * length es
length-sides_of_box part box n [] = omega arith
length-sides_of_box part box n (e ∷ es) = let more = length-sides_of_box part box (n + 1) es in omega (arith, more)

few_sides : (d : Decomposition) (box : Box) (cuts : List Cut) → IsSplit d → length cuts ≤ 65535 → length (sides_of d.model d.part box cuts) < 2 ^ 32
few_sides d box cuts s l =
    let rows = inequalities_of d.model d.part 0 in
    let front : List _ = map side_of_master rows ++ flat_map (sides_of_box d.part box) (enumerate_from 0 (integers_of d.model)) in
    let a = length-append front (map side_of_cut cuts) in
    let b = length-append (map side_of_master rows) (flat_map (sides_of_box d.part box) (enumerate_from 0 (integers_of d.model))) in
    omega (arith, a, b, length-map rows side_of_master, length-map cuts side_of_cut, length-sides_of_box d.part box 0 (integers_of d.model), few_inequalities d s 0, few_integers d s, l)

-- ---- cuts, leaves and trees
short_cut : (d : Decomposition) (cut : Cut) → IsSplit d → IsValid d.model d.part cut → IsIndexedCut cut → HasShortLists cut
short_cut d cut s v i =
    let rows : ℕ = length (inequalities_of d.model d.part cut.block) in (
      (let most = short (width_of d.part 0) cut.alpha i.alpha.sparse v.alpha in omega (arith, most, narrow_master d s)),
      (let most = short rows cut.mu i.mu.sparse (multipliers_below rows cut.mu v.mu) in omega (arith, most, few_inequalities d s cut.block)),
    )

short_cuts : (d : Decomposition) (cuts : List Cut) → IsSplit d → AllByRecursion (IsValid d.model d.part) cuts → AllByRecursion IsIndexedCut cuts → AllByRecursion HasShortLists cuts
short_cuts d cuts s v i = all_both (IsValid d.model d.part) IsIndexedCut HasShortLists cuts v i (λ cut w j. short_cut d cut s w j)

all_front : {X : Type 0} (P : X → Type 0) (xs ys : List X) → AllByRecursion P (xs ++ ys) → AllByRecursion P xs × AllByRecursion P ys
all_front P [] ys h = (tt, h)
all_front P (x ∷ xs) ys h = let rest = all_front P xs ys h.1 in ((h.0, rest.0), rest.1)

all_joined : {X : Type 0} (P : X → Type 0) (xs ys : List X) → AllByRecursion P xs → AllByRecursion P ys → AllByRecursion P (xs ++ ys)
all_joined P [] ys h g = g
all_joined P (x ∷ xs) ys h g = (h.0, all_joined P xs ys h.1 g)

short_tree : (d : Decomposition) (cuts : List Cut) (box : Box) (tree : Tree) → IsSplit d → length cuts ≤ 65535 → HoldsOver d.model d.part cuts box tree → AllByRecursion IsIndexedNode (preorder tree) → AllByRecursion HasShortList (preorder tree)
short_tree d cuts box (Tree.tip leaf) s l h i =
    let sides : ℕ = length (sides_of d.model d.part box cuts) in
    let most = short sides leaf.lambda i.0.sparse (multipliers_below sides leaf.lambda h.lambda) in
    (omega (arith, most, few_sides d box cuts s l), tt)
short_tree d cuts box (Tree.fork position left right below above) s l (k, split, first, second) i =
    let two = all_front IsIndexedNode (preorder below) (preorder above) i.1 in
    (tt, all_joined HasShortList (preorder below) (preorder above) (short_tree d cuts (with_upper k left box) below s l first two.0) (short_tree d cuts (with_lower k right box) above s l second two.1))

short_nodes : (d : Decomposition) (cuts : List Cut) (box : Box) (nodes : List TreeNode) (tree : Tree) → IsSplit d → length cuts ≤ 65535 → IsTreeOf nodes tree → HoldsOver d.model d.part cuts box tree → AllByRecursion IsIndexedNode nodes → AllByRecursion HasShortList nodes
short_nodes d cuts box nodes tree s l e h i =
    subst (AllByRecursion HasShortList) (sym e) (short_tree d cuts box tree s l h (subst (AllByRecursion IsIndexedNode) e i))

-- ---- the certificate, by its verdict
by_verdict : (d : Decomposition) (c : Certificate) (verdict : Verdict) (parts : Option Parts) → IsSplit d → HasPartsOf verdict parts → HasCutsOf verdict c.cuts → HasTreeOf verdict c.tree → AllByRecursion IsIndexedCut c.cuts → AllByRecursion IsIndexedNode c.tree → PassesAs d.model d.part c verdict parts → HasFewBlocks parts × AllByRecursion HasShortLists c.cuts × AllByRecursion HasShortList c.tree
by_verdict d c Optimal None s hp hc ht i j p = absurd hp
by_verdict d c Optimal (Some parts) s hp hc ht i j p = (
  omega (arith, p.shape.point.blocks, s.partition.few),
  short_cuts d c.cuts s p.cuts i,
  short_nodes d c.cuts p.root c.tree p.tree s hc p.is_tree p.holds j,
)
by_verdict d c Infeasible None s hp hc ht i j p = (
  tt,
  short_cuts d c.cuts s p.cuts i,
  short_nodes d c.cuts p.root c.tree p.tree s hc p.is_tree p.holds j,
)
by_verdict d c Infeasible (Some parts) s hp hc ht i j p = absurd hp
by_verdict d c Unbounded None s hp hc ht i j p = absurd hp
by_verdict d c Unbounded (Some parts) s hp hc ht i j p = (
  omega (arith, p.shape.blocks, s.partition.few),
  subst (AllByRecursion HasShortLists) (sym hc) tt,
  subst (AllByRecursion HasShortList) (sym ht) tt,
)

pub passing_is_short : (d : Decomposition) (c : Certificate) → IsSplit d → IsShaped c → AllByRecursion IsIndexedCut c.cuts → AllByRecursion IsIndexedNode c.tree → Passes d.model d.part c → HasFewItems c
passing_is_short d c s shaped i j p =
    let few = by_verdict d c c.verdict c.parts s shaped.parts shaped.cuts shaped.tree i j p.as_its_verdict in
    record { blocks = few.0; cuts = few.1; nodes = few.2 }
