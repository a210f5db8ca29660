-- Lines that pass, up to the last one, are the lines of a certificate.
use Rattle.std.proofs.Common.{◌≡◌, ◌∷◌, ◌++◌, ◌∙◌, [], ℕ, suc, ◌+◌, ◌<◌, ◌≤◌, ◌^◌, ◌⊎◌, inl, inr, ℤ, pos, nat_abs, List, get_or, Option, Some, length, drop, map, ap, sym, refl, subst, arith, append-nil, append_assoc, nat_lt}
use Rattle.std.specs.List.{AllByRecursion, flat_map}
use Rattle.std.proofs.lemmas.Bool.{cases_lt, lt-ltb}
use Rattle.bz_algebra.specs.Numbers.{IsNarrow}
use Rattle.bz_cut.specs.declared.Cut.{Cut}
use Rattle.bz_tree.proofs.NarrowSides.{narrow_at}
use Rattle.bz_tree.specs.declared.Leaf.{Leaf}
use Rattle.bz_tree.specs.declared.TreeNode.{TreeNode}
use Rattle.bz_tree.specs.Trees.{Tree, fork, preorder, tip}
use Rattle.bz_cert.specs.declared.records.Verdict.{Verdict}
use Rattle.bz_cert.specs.declared.words.Word.{Word}
use Rattle.bz_cert.specs.Shapes.{IsNarrowNode}
use Rattle.bz_cert.specs.CertText.{CertLine, IsSparseList, IsWritableCut, IsWritableNode, cut_line, line_with, node_line, sparse_numbers}
use Rattle.bz_cert.specs.CertFaults.{BreaksTree, IsIn, IsIndex, IsWhole, Passes, Standing, words_behind, words_of_cuts}
use Rattle.bz_cert.specs.CertReading.{BeginsWithList, PassFrom, advance, advance_all, tree_words}
use Rattle.bz_cert.proofs.ListIndexes.{IsCutOf, cut_is, list_in_range, lists_of_cut}
use Rattle.bz_cert.proofs.TextFaults.{behind_no_end}
use Rattle.bz_cert.proofs.TextsPass.{BeforeCuts, BeforeNodes, behind_cut, behind_leaf, behind_split, first_node}

pub known : (line : CertLine) (word : Word) → line.word ≡ word → line ≡ line_with word line.numbers
known line word e = ap (λ w. line_with w line.numbers) e

passes_as : (verdict : Verdict) (before : Standing) (line other : CertLine) → line ≡ other → Passes verdict before line → Passes verdict before other
passes_as verdict before line other e p = subst (Passes verdict before) e p

-- lines that pass behind a line, which end in the last one
pub record PassBehind (verdict : Verdict) (before : Standing) (line : CertLine) (ls : List CertLine) : Type 0 where
  pub first : Passes verdict before line
  pub later : PassFrom verdict (advance before line) ls
  pub ends : (advance_all (advance before line) ls).last ≡ Some Word.End

pub behind_as : (verdict : Verdict) (before : Standing) (line other : CertLine) (ls : List CertLine) → line ≡ other → PassBehind verdict before line ls →
    PassBehind verdict before other ls
behind_as verdict before line other ls e h = subst (λ (l : CertLine). PassBehind verdict before l ls) e h

-- the word of a line where a line of few words has to come
pub possible_word : (verdict : Verdict) (before : Standing) (words : List Word) (line : CertLine) →
    words_behind verdict (nat_lt before.cuts before.told) before.last ≡ words → Passes verdict before line → IsIn words line.word
possible_word verdict before words line are p = subst (λ (ws : List Word). IsIn ws line.word) are p.possible

-- where a line has to come the last one was not there
pub not_last : (verdict : Verdict) (before : Standing) (word : Word) (words : List Word) →
    words_behind verdict (nat_lt before.cuts before.told) before.last ≡ word ∷ words → before.last ≡ Some Word.End → ⊥
not_last verdict before word words are last =
    let none : [] ≡ word ∷ words = subst (λ (w : Option Word). words_behind verdict (nat_lt before.cuts before.told) w ≡ word ∷ words) last are in absurd (cc)

-- the nodes of lines up to the last one, which are so many trees
pub record NodesOf (ls : List CertLine) (nodes_before count : ℕ) : Type 0 where
  pub nodes : List TreeNode
  pub lines_are : ls ≡ map node_line nodes ++ line_with Word.End [] ∷ []
  pub writable : AllByRecursion IsWritableNode nodes
  pub narrow : AllByRecursion IsNarrowNode nodes
  pub few : nodes_before + length nodes ≤ 65535
  pub trees : List Tree
  pub many : length trees ≡ count
  pub are_trees : nodes ≡ flat_map preorder trees

abbrev NodesFrom : Verdict → List CertLine → Type 0
NodesFrom verdict ls =
    (before : Standing) (trees nodes : ℕ) → BeforeNodes verdict before trees nodes → nodes ≤ 65535 → PassFrom verdict before ls →
    (advance_all before ls).last ≡ Some Word.End → NodesOf ls nodes trees

-- a split in front of two trees
forked : (position : ℕ) (left right : ℤ) (count : ℕ) (nodes : List TreeNode) (trees : List Tree) → length trees ≡ suc (suc count) → nodes ≡ flat_map preorder trees →
    (ts : List Tree) × (length ts ≡ suc count) × (TreeNode.Split position left right ∷ nodes ≡ flat_map preorder ts)
forked position left right count nodes [] many are = absurd (omega (arith, many))
forked position left right count nodes (t ∷ []) many are = absurd (omega (arith, many))
forked position left right count nodes (t ∷ u ∷ ts) many are = (
  fork position left right t u ∷ ts,
  omega (arith, many),
  ap (λ ns. TreeNode.Split position left right ∷ ns) (are ∙ sym (append_assoc (preorder t) (preorder u) (flat_map preorder ts))),
)

-- a node that is one more than few
one_more_node : (verdict : Verdict) (before : Standing) (trees nodes : ℕ) → BeforeNodes verdict before trees nodes → (65535 ≤ before.splits + before.leaves → ⊥) →
    suc nodes ≤ 65535
one_more_node verdict before trees nodes h few = by (cases_lt nodes 65535)
  where
    by : (nodes < 65535) ⊎ (65535 ≤ nodes) → suc nodes ≤ 65535
    by (inl l) = omega (arith, l)
    by (inr g) = absurd (few (omega (arith, g, h.nodes_are)))

behind_a_split : (verdict : Verdict) (before : Standing) (trees nodes position : ℕ) (left right : ℤ) (ls : List CertLine) → BeforeNodes verdict before trees nodes →
    PassBehind verdict before (node_line (TreeNode.Split position left right)) ls → position < 2 ^ 32 → IsNarrow left → IsNarrow right → NodesFrom verdict ls →
    NodesOf (node_line (TreeNode.Split position left right) ∷ ls) nodes trees
behind_a_split verdict before Prim.Native.Nat.zero nodes position left right ls h p small l r later = absurd (p.first.tree (omega (arith, h.trees_are)))
behind_a_split verdict before (suc trees) nodes position left right ls h p small l r later =
    let few : suc nodes ≤ 65535 = one_more_node verdict before (suc trees) nodes h p.first.few in
    let rest : NodesOf ls (suc nodes) (suc (suc trees)) =
    later (advance before (node_line (TreeNode.Split position left right))) (suc (suc trees)) (suc nodes)
    (behind_split verdict before trees nodes position left right h) few p.later p.ends in
    let joined : (ts : List Tree) × (length ts ≡ suc trees) × (TreeNode.Split position left right ∷ rest.nodes ≡ flat_map preorder ts) =
    forked position left right trees rest.nodes rest.trees rest.many rest.are_trees in
    record {
      nodes = TreeNode.Split position left right ∷ rest.nodes;
      lines_are = ap (λ t. node_line (TreeNode.Split position left right) ∷ t) rest.lines_are;
      writable = (small, rest.writable);
      narrow = ((l, r), rest.narrow);
      few = omega (arith, rest.few);
      trees = joined.0;
      many = joined.1;
      are_trees = joined.2;
    }

behind_a_leaf : (verdict : Verdict) (before : Standing) (trees nodes : ℕ) (leaf : Leaf) (ls : List CertLine) → BeforeNodes verdict before trees nodes →
    PassBehind verdict before (node_line (TreeNode.Leaf leaf)) ls → IsSparseList leaf.lambda → NodesFrom verdict ls →
    NodesOf (node_line (TreeNode.Leaf leaf) ∷ ls) nodes trees
behind_a_leaf verdict before Prim.Native.Nat.zero nodes leaf ls h p list later = absurd (p.first.tree (omega (arith, h.trees_are)))
behind_a_leaf verdict before (suc trees) nodes leaf ls h p list later =
    let few : suc nodes ≤ 65535 = one_more_node verdict before (suc trees) nodes h p.first.few in
    let rest : NodesOf ls (suc nodes) trees =
    later (advance before (node_line (TreeNode.Leaf leaf))) trees (suc nodes) (behind_leaf verdict before trees nodes leaf h) few p.later p.ends in
    record {
      nodes = TreeNode.Leaf leaf ∷ rest.nodes;
      lines_are = ap (λ t. node_line (TreeNode.Leaf leaf) ∷ t) rest.lines_are;
      writable = (list, rest.writable);
      narrow = (tt, rest.narrow);
      few = omega (arith, rest.few);
      trees = tip leaf ∷ rest.trees;
      many = ap suc rest.many;
      are_trees = ap (λ t. TreeNode.Leaf leaf ∷ t) rest.are_trees;
    }

split_here : (verdict : Verdict) (before : Standing) (trees nodes : ℕ) (numbers : List ℤ) (ls : List CertLine) → BeforeNodes verdict before trees nodes →
    PassBehind verdict before (line_with Word.Split numbers) ls → NodesFrom verdict ls → NodesOf (line_with Word.Split numbers ∷ ls) nodes trees
split_here verdict before trees nodes [] ls h p later = absurd (omega (arith, p.first.enough))
split_here verdict before trees nodes (a ∷ []) ls h p later = absurd (omega (arith, p.first.enough))
split_here verdict before trees nodes (a ∷ b ∷ []) ls h p later = absurd (omega (arith, p.first.enough))
split_here verdict before trees nodes (a ∷ b ∷ d ∷ []) ls h p later =
    let index : IsIndex a = p.first.indexes.0 in
    let same : line_with Word.Split (a ∷ b ∷ d ∷ []) ≡ node_line (TreeNode.Split index.0 b d) = ap (λ z. line_with Word.Split (z ∷ b ∷ d ∷ [])) index.1 in
    subst (λ (l : CertLine). NodesOf (l ∷ ls) nodes trees) (sym same)
    (behind_a_split verdict before trees nodes index.0 b d ls h (behind_as verdict before _ _ ls same p) index.2 p.first.narrow.1.0 p.first.narrow.1.1.0 later)
split_here verdict before trees nodes (a ∷ b ∷ d ∷ e ∷ ns) ls h p later = absurd (omega (arith, p.first.enough))

leaf_here : (verdict : Verdict) (before : Standing) (trees nodes : ℕ) (numbers : List ℤ) (ls : List CertLine) → BeforeNodes verdict before trees nodes →
    PassBehind verdict before (line_with Word.Leaf numbers) ls → NodesFrom verdict ls → NodesOf (line_with Word.Leaf numbers ∷ ls) nodes trees
leaf_here verdict before trees nodes numbers ls h p later =
    let order = p.first.in_order in
    let numbers_are : numbers ≡ order.0.delta ∷ order.0.bound ∷ sparse_numbers order.0.lambda = order.0.numbers_are in
    let narrow = subst (λ (ns : List ℤ). AllByRecursion IsNarrow ns) numbers_are p.first.narrow in
    let leaf : Leaf = record { lambda = order.0.lambda; delta = order.0.delta; bound = order.0.bound; delta_narrow = narrow.0; bound_narrow = narrow.1.0 } in
    let range : BeginsWithList order.0.lambda (drop 2 numbers) [] =
    list_in_range order.0.lambda [] (drop 2 numbers) (ap (drop 2) order.0.numbers_are ∙ sym (append-nil _)) p.first.indexes in
    let list : IsSparseList order.0.lambda = record { sparse = order.1; indexes = range.indexes; count = range.count } in
    let same : line_with Word.Leaf numbers ≡ node_line (TreeNode.Leaf leaf) = ap (line_with Word.Leaf) order.0.numbers_are in
    subst (λ (l : CertLine). NodesOf (l ∷ ls) nodes trees) (sym same)
    (behind_a_leaf verdict before trees nodes leaf ls h (behind_as verdict before _ _ ls same p) list later)

-- behind the last line there is none
pub nothing_left : (verdict : Verdict) (before : Standing) (ls : List CertLine) → PassFrom verdict before ls → before.last ≡ Some Word.End → ls ≡ []
nothing_left verdict before [] p last = refl
nothing_left verdict before (l ∷ ls) p last = absurd (behind_no_end verdict before l p.0 last)

pub no_number : (numbers : List ℤ) → length numbers ≡ 0 → numbers ≡ []
no_number [] e = refl
no_number (n ∷ ns) e = absurd (omega (arith, e))

-- a tree that may end is whole
abbrev pub EndsWhole : Verdict → Type 0
EndsWhole verdict = (before : Standing) → (BreaksTree verdict before Word.End → ⊥) → IsWhole before

end_here : (verdict : Verdict) (before : Standing) (trees nodes : ℕ) (numbers : List ℤ) (ls : List CertLine) → EndsWhole verdict → BeforeNodes verdict before trees nodes →
    nodes ≤ 65535 → PassBehind verdict before (line_with Word.End numbers) ls → NodesOf (line_with Word.End numbers ∷ ls) nodes trees
end_here verdict before trees nodes numbers ls ends h few p =
    let whole : before.leaves ≡ suc before.splits = ends before p.first.tree in
    record {
      nodes = [];
      lines_are = ap (λ ns. line_with Word.End ns ∷ ls) (no_number numbers p.first.enough)
          ∙ ap (λ ms. line_with Word.End [] ∷ ms) (nothing_left verdict (advance before (line_with Word.End numbers)) ls p.later refl);
      writable = tt;
      narrow = tt;
      few = omega (arith, few);
      trees = [];
      many = omega (arith, whole, h.trees_are);
      are_trees = refl;
    }

node_here : (verdict : Verdict) (before : Standing) (trees nodes : ℕ) (line : CertLine) (ls : List CertLine) → EndsWhole verdict → BeforeNodes verdict before trees nodes →
    nodes ≤ 65535 → PassBehind verdict before line ls → IsIn tree_words line.word → NodesFrom verdict ls → NodesOf (line ∷ ls) nodes trees
node_here verdict before trees nodes line ls ends h few p (inl e) later =
    subst (λ (l : CertLine). NodesOf (l ∷ ls) nodes trees) (sym (known line Word.Split e))
    (split_here verdict before trees nodes line.numbers ls h (behind_as verdict before _ _ ls (known line Word.Split e) p) later)
node_here verdict before trees nodes line ls ends h few p (inr (inl e)) later =
    subst (λ (l : CertLine). NodesOf (l ∷ ls) nodes trees) (sym (known line Word.Leaf e))
    (leaf_here verdict before trees nodes line.numbers ls h (behind_as verdict before _ _ ls (known line Word.Leaf e) p) later)
node_here verdict before trees nodes line ls ends h few p (inr (inr (inl e))) later =
    subst (λ (l : CertLine). NodesOf (l ∷ ls) nodes trees) (sym (known line Word.End e))
    (end_here verdict before trees nodes line.numbers ls ends h few (behind_as verdict before _ _ ls (known line Word.End e) p))
node_here verdict before trees nodes line ls ends h few p (inr (inr (inr none))) later = absurd none

nodes_of : (verdict : Verdict) (ls : List CertLine) → EndsWhole verdict → NodesFrom verdict ls
nodes_of verdict [] ends before trees nodes h few pass last = absurd (not_last verdict before _ _ h.words_are last)
nodes_of verdict (line ∷ ls) ends before trees nodes h few pass last =
    node_here verdict before trees nodes line ls ends h few (record { first = pass.0; later = pass.1; ends = last })
    (possible_word verdict before tree_words line h.words_are pass.0) (nodes_of verdict ls ends)

-- so many cuts, and the tree behind them
pub record CutsOf (ls : List CertLine) (count : ℕ) : Type 0 where
  pub cuts : List Cut
  pub rest : List CertLine
  pub lines_are : ls ≡ map cut_line cuts ++ rest
  pub many : length cuts ≡ count
  pub writable : AllByRecursion IsWritableCut cuts
  pub nodes : NodesOf rest 0 1

abbrev CutsFrom : Verdict → ℕ → List CertLine → Type 0
CutsFrom verdict count ls =
    (before : Standing) → BeforeCuts verdict before count → PassFrom verdict before ls → (advance_all before ls).last ≡ Some Word.End → CutsOf ls count

behind_a_cut : (verdict : Verdict) (before : Standing) (count : ℕ) (cut : Cut) (ls : List CertLine) → BeforeCuts verdict before (suc count) →
    PassBehind verdict before (cut_line cut) ls → IsWritableCut cut → CutsFrom verdict count ls → CutsOf (cut_line cut ∷ ls) (suc count)
behind_a_cut verdict before count cut ls h p writable later =
    let rest : CutsOf ls count = later (advance before (cut_line cut)) (behind_cut verdict before cut count h) p.later p.ends in
    record {
      cuts = cut ∷ rest.cuts;
      rest = rest.rest;
      lines_are = ap (λ t. cut_line cut ∷ t) rest.lines_are;
      many = ap suc rest.many;
      writable = (writable, rest.writable);
      nodes = rest.nodes;
    }

cut_here : (verdict : Verdict) (before : Standing) (count : ℕ) (numbers : List ℤ) (ls : List CertLine) → BeforeCuts verdict before (suc count) →
    PassBehind verdict before (line_with Word.Cut numbers) ls → CutsFrom verdict count ls → CutsOf (line_with Word.Cut numbers ∷ ls) (suc count)
cut_here verdict before count numbers ls h p later =
    let order = p.first.in_order in
    let long : 4 ≤ length numbers = omega (arith, ap length order.0.numbers_are) in
    let cut : Cut = record {
      block = nat_abs (get_or numbers 0 (pos 0));
      mu = order.0.mu;
      gcd = get_or numbers 3 (pos 0);
      alpha = order.0.alpha;
      p0 = get_or numbers 1 (pos 0);
      beta = get_or numbers 2 (pos 0);
      gcd_narrow = narrow_at numbers 3 p.first.narrow;
      p0_narrow = narrow_at numbers 1 p.first.narrow;
      beta_narrow = narrow_at numbers 2 p.first.narrow;
    } in
    let first : IsCutOf numbers cut = record { block = refl; p0 = refl; beta = refl; gcd = refl } in
    let is = cut_is numbers cut first long p.first.indexes (lists_of_cut numbers long p.first.indexes order.0) order.1 order.2 in
    let same : line_with Word.Cut numbers ≡ cut_line cut = ap (line_with Word.Cut) is.0 in
    subst (λ (l : CertLine). CutsOf (l ∷ ls) (suc count)) (sym same)
    (behind_a_cut verdict before count cut ls h (behind_as verdict before _ _ ls same p) is.1 later)

cut_or_none : (verdict : Verdict) (before : Standing) (count : ℕ) (line : CertLine) (ls : List CertLine) → BeforeCuts verdict before (suc count) →
    PassBehind verdict before line ls → IsIn (Word.Cut ∷ []) line.word → CutsFrom verdict count ls → CutsOf (line ∷ ls) (suc count)
cut_or_none verdict before count line ls h p (inl e) later =
    subst (λ (l : CertLine). CutsOf (l ∷ ls) (suc count)) (sym (known line Word.Cut e))
    (cut_here verdict before count line.numbers ls h (behind_as verdict before _ _ ls (known line Word.Cut e) p) later)
cut_or_none verdict before count line ls h p (inr none) later = absurd none

cuts_to_come : (verdict : Verdict) (before : Standing) (count : ℕ) → BeforeCuts verdict before (suc count) →
    words_behind verdict (nat_lt before.cuts before.told) before.last ≡ Word.Cut ∷ []
cuts_to_come verdict before count h =
    let lt : before.cuts < before.told = omega (arith, h.told) in h.words_are _ ∙ ap words_of_cuts (lt-ltb _ _ lt)

pub cuts_of : (verdict : Verdict) (count : ℕ) (ls : List CertLine) → EndsWhole verdict → CutsFrom verdict count ls
cuts_of verdict Prim.Native.Nat.zero ls ends before h pass last =
    record {
      cuts = [];
      rest = ls;
      lines_are = refl;
      many = refl;
      writable = tt;
      nodes = nodes_of verdict ls ends before 1 0 (first_node verdict before h) (omega arith) pass last;
    }
cuts_of verdict (suc count) [] ends before h pass last = absurd (not_last verdict before _ _ (cuts_to_come verdict before count h) last)
cuts_of verdict (suc count) (line ∷ ls) ends before h pass last =
    cut_or_none verdict before count line ls h (record { first = pass.0; later = pass.1; ends = last })
    (possible_word verdict before (Word.Cut ∷ []) line (cuts_to_come verdict before count h) pass.0) (cuts_of verdict count ls ends)
