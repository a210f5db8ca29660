-- The lines of a certificate's text break no test.
use Rattle.std.proofs.Common.{◌≡◌, ◌∷◌, ◌++◌, ◌∙◌, [], ℕ, suc, ◌+◌, ◌*◌, ◌<◌, ◌≤◌, ◌^◌, ℤ, pos, List, Option, Some, None, Bool, true, nat_lt, inl, inr, ap, sym, refl, subst, arith, append-nil, append_assoc, length, length-append, map, take}
use Rattle.std.specs.List.{AllByRecursion}
use Rattle.std.proofs.lemmas.Bool.{le-ltb, lt-ltb}
use Rattle.std.proofs.lemmas.Int.{ints}
use Rattle.bz_algebra.specs.Numbers.{IsNarrow}
use Rattle.bz_algebra.specs.Sums.{AllBelow}
use Rattle.bz_num.specs.Row.{IsSparseFrom}
use Rattle.bz_model.specs.declared.BlockPart.{BlockPart}
use Rattle.bz_model.specs.declared.Parts.{Parts}
use Rattle.bz_cut.specs.declared.Cut.{Cut}
use Rattle.bz_tree.specs.declared.Leaf.{Leaf}
use Rattle.bz_tree.specs.declared.TreeNode.{TreeNode}
use Rattle.bz_tree.specs.Trees.{Tree, tip, fork, preorder}
use Rattle.bz_cert.specs.declared.records.Certificate.{Certificate}
use Rattle.bz_cert.specs.declared.records.Verdict.{Verdict}
use Rattle.bz_cert.specs.declared.records.Verdict.TheVariants.{Optimal, Infeasible, Unbounded}
use Rattle.bz_cert.specs.declared.words.Word.{Word}
use Rattle.bz_cert.specs.Shapes.{AreCuts, AreNodes, HasCutsOf, HasPartsOf, HasRayOf, HasTreeOf, HasValueOf, IsNarrowNode, IsShaped}
use Rattle.bz_cert.specs.CertText.{CertLine, HasFewBlocks, IsSparseList, IsWritable, IsWritableCut, IsWritableNode, block_lines, bound_lines, cert_lines, cut_line, line_with, lines_by, node_line, sparse_numbers}
use Rattle.bz_cert.specs.CertFaults.{BreaksTree, IsIn, IsIndex, IsWhole, Passes, Standing, alternate, behind_list, list_indexes, lists_indexes, words_behind, words_of_block, words_of_cuts}
use Rattle.bz_cert.specs.CertPhases.{start}
use Rattle.bz_cert.specs.CertReading.{PassFrom, advance, tree_words}
use Rattle.bz_cert.proofs.Failing.{cut_numbers, few_cuts}
use Rattle.bz_cert.proofs.ListIndexes.{behind_is}
use Rattle.bz_model.proofs.MeetingParts.{all_append}
use Rattle.bz_cert.proofs.ListLemmas.{all_apart}
use Rattle.bz_cert.proofs.Phases.{map-append}
use Rattle.bz_cert.proofs.SparseLists.{pair_numbers}

-- a count or an index is in its range, and not wide
pub index_of : (n : ℕ) → n < 2 ^ 32 → IsIndex (pos n)
index_of n h = (n, refl, h)

pub narrow_index : (n : ℕ) → n < 2 ^ 32 → IsNarrow (pos n)
narrow_index n h = omega (arith, ints)

double_suc : (n : ℕ) → 2 * suc n ≡ suc (suc (2 * n))
double_suc n = omega arith

-- the indexes of pairs in front of other numbers
pairs_in_range : (es : List (ℕ × ℤ)) (rest : List ℤ) → AllBelow (2 ^ 32) es → AllByRecursion IsIndex (alternate (take (2 * length es) (pair_numbers es ++ rest)))
pairs_in_range [] rest h = tt
pairs_in_range (e ∷ es) rest h =
    subst (λ (m : ℕ). AllByRecursion IsIndex (alternate (take m (pos e.0 ∷ e.1 ∷ (pair_numbers es ++ rest))))) (sym (double_suc (length es)))
    (index_of e.0 h.0, pairs_in_range es rest h.1)

-- the count and the indexes of a sparse list in front of other numbers
list_in_range : (es : List (ℕ × ℤ)) (rest : List ℤ) → IsSparseList es → AllByRecursion IsIndex (list_indexes (sparse_numbers es ++ rest))
list_in_range es rest h = (index_of (length es) h.count, pairs_in_range es rest h.indexes)

-- those of two
lists_in_range : (alpha mu : List (ℕ × ℤ)) → IsSparseList alpha → IsSparseList mu →
    AllByRecursion IsIndex (lists_indexes (sparse_numbers alpha ++ sparse_numbers mu))
lists_in_range alpha mu h k =
    let second : AllByRecursion IsIndex (list_indexes (sparse_numbers mu)) =
    subst (λ (ns : List ℤ). AllByRecursion IsIndex (list_indexes ns)) (append-nil (sparse_numbers mu)) (list_in_range mu [] k) in
    all_append IsIndex (list_indexes (sparse_numbers alpha ++ sparse_numbers mu)) (list_indexes (behind_list (sparse_numbers alpha ++ sparse_numbers mu)))
    (list_in_range alpha (sparse_numbers mu) h)
    (subst (λ (ns : List ℤ). AllByRecursion IsIndex (list_indexes ns)) (sym (behind_is alpha (sparse_numbers mu))) second)

-- no number of pairs whose indexes are in their range is wide
narrow_pairs : (low : ℕ) (es : List (ℕ × ℤ)) → IsSparseFrom low es → AllBelow (2 ^ 32) es → AllByRecursion IsNarrow (pair_numbers es)
narrow_pairs low [] s h = tt
narrow_pairs low (e ∷ es) s h = (narrow_index e.0 h.0, (s.0.narrow, narrow_pairs (suc e.0) es s.1 h.1))

pub narrow_list : (es : List (ℕ × ℤ)) → IsSparseList es → AllByRecursion IsNarrow (sparse_numbers es)
narrow_list es h = (narrow_index (length es) h.count, narrow_pairs 0 es h.sparse h.indexes)

-- a cut's line, where cuts are still to come
cut_passes : (verdict : Verdict) (before : Standing) (cut : Cut) → IsIn (words_behind verdict (nat_lt before.cuts before.told) before.last) Word.Cut →
    IsWritableCut cut → Passes verdict before (cut_line cut)
cut_passes verdict before cut possible writable = record {
  possible = possible;
  tree = λ t. t;
  narrow = (
    narrow_index cut.block writable.block,
    (
      cut.p0_narrow,
      (
        cut.beta_narrow,
        (
          cut.gcd_narrow,
          all_append IsNarrow (sparse_numbers cut.alpha) (sparse_numbers cut.mu) (narrow_list cut.alpha writable.alpha) (narrow_list cut.mu writable.mu),
        ),
      ),
    ),
  );
  indexes = (index_of cut.block writable.block, lists_in_range cut.alpha cut.mu writable.alpha writable.mu);
  few = λ t. t;
  enough = cut_numbers _ cut refl;
  in_order = (cut_numbers _ cut refl, writable.alpha.sparse, writable.mu.sparse);
}

-- what holds before the first node of a tree behind which so many others come
pub record BeforeNodes (verdict : Verdict) (before : Standing) (trees nodes : ℕ) : Type 0 where
  pub words_are : words_behind verdict (nat_lt before.cuts before.told) before.last ≡ tree_words
  pub trees_are : trees + before.leaves ≡ suc before.splits
  pub nodes_are : before.splits + before.leaves ≡ nodes

is_possible : (words listed : List Word) (word : Word) → words ≡ listed → IsIn listed word → IsIn words word
is_possible words listed word are h = subst (λ (ws : List Word). IsIn ws word) (sym are) h

split_passes : (verdict : Verdict) (before : Standing) (trees nodes position : ℕ) (left right : ℤ) → BeforeNodes verdict before (suc trees) nodes → nodes ≤ 65534 →
    position < 2 ^ 32 → IsNarrow left → IsNarrow right → Passes verdict before (node_line (TreeNode.Split position left right))
split_passes verdict before trees nodes position left right h few small l r = record {
  possible = is_possible _ tree_words Word.Split h.words_are (inl refl);
  tree = λ whole. absurd (omega (arith, h.trees_are, whole));
  narrow = (narrow_index position small, (l, (r, tt)));
  indexes = (index_of position small, tt);
  few = λ many. absurd (omega (arith, many, h.nodes_are, few));
  enough = refl;
  in_order = tt;
}

leaf_passes : (verdict : Verdict) (before : Standing) (trees nodes : ℕ) (leaf : Leaf) → BeforeNodes verdict before (suc trees) nodes → nodes ≤ 65534 →
    IsSparseList leaf.lambda → Passes verdict before (node_line (TreeNode.Leaf leaf))
leaf_passes verdict before trees nodes leaf h few list = record {
  possible = is_possible _ tree_words Word.Leaf h.words_are (inr (inl refl));
  tree = λ whole. absurd (omega (arith, h.trees_are, whole));
  narrow = (leaf.delta_narrow, (leaf.bound_narrow, narrow_list leaf.lambda list));
  indexes = subst (λ (ns : List ℤ). AllByRecursion IsIndex (list_indexes ns)) (append-nil (sparse_numbers leaf.lambda)) (list_in_range leaf.lambda [] list);
  few = λ many. absurd (omega (arith, many, h.nodes_are, few));
  enough = record { delta = leaf.delta; bound = leaf.bound; lambda = leaf.lambda; numbers_are = refl };
  in_order = (record { delta = leaf.delta; bound = leaf.bound; lambda = leaf.lambda; numbers_are = refl }, list.sparse);
}

pub behind_split : (verdict : Verdict) (before : Standing) (trees nodes position : ℕ) (left right : ℤ) → BeforeNodes verdict before (suc trees) nodes →
    BeforeNodes verdict (advance before (node_line (TreeNode.Split position left right))) (suc (suc trees)) (suc nodes)
behind_split verdict before trees nodes position left right h =
    record { words_are = refl; trees_are = omega (arith, h.trees_are); nodes_are = omega (arith, h.nodes_are) }

pub behind_leaf : (verdict : Verdict) (before : Standing) (trees nodes : ℕ) (leaf : Leaf) → BeforeNodes verdict before (suc trees) nodes →
    BeforeNodes verdict (advance before (node_line (TreeNode.Leaf leaf))) trees (suc nodes)
behind_leaf verdict before trees nodes leaf h =
    record { words_are = refl; trees_are = omega (arith, h.trees_are); nodes_are = omega (arith, h.nodes_are) }

-- the lines of a tree, and what passes behind them
tree_then : (verdict : Verdict) (before : Standing) (trees nodes : ℕ) (tree : Tree) (more : List CertLine) → BeforeNodes verdict before (suc trees) nodes →
    nodes + length (preorder tree) ≤ 65535 → AllByRecursion IsNarrowNode (preorder tree) → AllByRecursion IsWritableNode (preorder tree) →
    ((b : Standing) → BeforeNodes verdict b trees (nodes + length (preorder tree)) → PassFrom verdict b more) →
    PassFrom verdict before (map node_line (preorder tree) ++ more)
tree_then verdict before trees nodes (tip leaf) more h few narrow writable later = (
  leaf_passes verdict before trees nodes leaf h (omega (arith, few)) writable.0,
  later _ (subst (λ (n : ℕ). BeforeNodes verdict (advance before (node_line (TreeNode.Leaf leaf))) trees n) one_node (behind_leaf verdict before trees nodes leaf h)),
)
  where
    one_node : suc nodes ≡ nodes + 1
    one_node = omega arith
tree_then verdict before trees nodes (fork position left right below above) more h few narrow writable later =
    let narrows : AllByRecursion IsNarrowNode (preorder below) × AllByRecursion IsNarrowNode (preorder above) =
    all_apart IsNarrowNode (preorder below) (preorder above) narrow.1 in
    let writables : AllByRecursion IsWritableNode (preorder below) × AllByRecursion IsWritableNode (preorder above) =
    all_apart IsWritableNode (preorder below) (preorder above) writable.1 in
    let long : length (preorder below ++ preorder above) ≡ length (preorder below) + length (preorder above) = length-append (preorder below) (preorder above) in
    let size : (suc nodes + length (preorder below)) + length (preorder above) ≡ nodes + suc (length (preorder below ++ preorder above)) = omega (arith, long) in
    let all : suc nodes + length (preorder below) ≤ 65535 = omega (arith, few, size) in
    let lines : map node_line (preorder below ++ preorder above) ++ more ≡ map node_line (preorder below) ++ (map node_line (preorder above) ++ more) =
    ap (λ ls. ls ++ more) (map-append node_line (preorder below) (preorder above))
    ∙ append_assoc (map node_line (preorder below)) (map node_line (preorder above)) more in (
      split_passes verdict before trees nodes position left right h (omega (arith, few)) writable.0 narrow.0.0 narrow.0.1,
      subst (λ (ls : List CertLine). PassFrom verdict (advance before (node_line (TreeNode.Split position left right))) ls) (sym lines)
          (tree_then verdict (advance before (node_line (TreeNode.Split position left right))) (suc trees) (suc nodes) below (map node_line (preorder above) ++ more)
          (behind_split verdict before trees nodes position left right h) all narrows.0 writables.0
          (λ b k. tree_then verdict b trees (suc nodes + length (preorder below)) above more k (omega (arith, few, size)) narrows.1 writables.1
          (λ d l. later d (subst (λ (n : ℕ). BeforeNodes verdict d trees n) size l)))),
    )

-- what holds before cuts of which so many are still to come, and then a tree
pub record BeforeCuts (verdict : Verdict) (before : Standing) (cuts : ℕ) : Type 0 where
  pub words_are : (to_come : Bool) → words_behind verdict to_come before.last ≡ words_of_cuts to_come
  pub told : before.told ≡ before.cuts + cuts
  pub splits : before.splits ≡ 0
  pub leaves : before.leaves ≡ 0

-- the last line behind a tree
end_passes : (verdict : Verdict) (before : Standing) (nodes : ℕ) → BeforeNodes verdict before 0 nodes →
    ((b : Standing) → IsWhole b → BreaksTree verdict b Word.End → ⊥) → Passes verdict before (line_with Word.End [])
end_passes verdict before nodes h stays = record {
  possible = is_possible _ tree_words Word.End h.words_are (inr (inr (inl refl)));
  tree = stays before (omega (arith, h.trees_are));
  narrow = tt;
  indexes = tt;
  few = λ t. t;
  enough = refl;
  in_order = tt;
}

cut_allowed : (verdict : Verdict) (before : Standing) (cuts : ℕ) → BeforeCuts verdict before (suc cuts) →
    IsIn (words_behind verdict (nat_lt before.cuts before.told) before.last) Word.Cut
cut_allowed verdict before cuts h =
    let lt : before.cuts < before.told = omega (arith, h.told) in
    is_possible _ (words_of_cuts true) Word.Cut (h.words_are _ ∙ ap words_of_cuts (lt-ltb _ _ lt)) (inl refl)

pub behind_cut : (verdict : Verdict) (before : Standing) (cut : Cut) (cuts : ℕ) → BeforeCuts verdict before (suc cuts) →
    BeforeCuts verdict (advance before (cut_line cut)) cuts
behind_cut verdict before cut cuts h = record {
  words_are = λ to_come. refl;
  told = omega (arith, h.told);
  splits = omega (arith, h.splits);
  leaves = omega (arith, h.leaves);
}

pub first_node : (verdict : Verdict) (before : Standing) → BeforeCuts verdict before 0 → BeforeNodes verdict before 1 0
first_node verdict before h =
    let ge : before.told ≤ before.cuts = omega (arith, h.told) in
    record {
      words_are = h.words_are _ ∙ ap words_of_cuts (le-ltb _ _ ge);
      trees_are = omega (arith, h.splits, h.leaves);
      nodes_are = omega (arith, h.splits, h.leaves);
    }

-- the lines of cuts, and what passes behind them
cuts_then : (verdict : Verdict) (before : Standing) (cuts : List Cut) (more : List CertLine) → BeforeCuts verdict before (length cuts) →
    AllByRecursion IsWritableCut cuts → ((b : Standing) → BeforeCuts verdict b 0 → PassFrom verdict b more) →
    PassFrom verdict before (map cut_line cuts ++ more)
cuts_then verdict before [] more h writable later = later before h
cuts_then verdict before (cut ∷ cuts) more h writable later = (
  cut_passes verdict before cut (cut_allowed verdict before (length cuts) h) writable.0,
  cuts_then verdict (advance before (cut_line cut)) cuts more (behind_cut verdict before cut (length cuts) h) writable.1 later,
)

-- what holds before the number of the cuts
pub record BeforeBound (verdict : Verdict) (before : Standing) : Type 0 where
  pub words_are : (to_come : Bool) → words_behind verdict to_come before.last ≡ Word.Cuts ∷ []
  pub told : before.told ≡ 0
  pub cuts : before.cuts ≡ 0
  pub splits : before.splits ≡ 0
  pub leaves : before.leaves ≡ 0

count_passes : (verdict : Verdict) (before : Standing) (count : ℕ) → BeforeBound verdict before → count ≤ 65535 →
    Passes verdict before (line_with Word.Cuts (pos count ∷ []))
count_passes verdict before count h few =
    let small : count < 2 ^ 32 = omega (arith, few) in
    record {
      possible = is_possible _ (Word.Cuts ∷ []) Word.Cuts (h.words_are _) (inl refl);
      tree = λ t. t;
      narrow = (narrow_index count small, tt);
      indexes = (index_of count small, tt);
      few = few_cuts (pos count ∷ []) count refl few;
      enough = refl;
      in_order = tt;
    }

pub behind_count : (verdict : Verdict) (before : Standing) (count : ℕ) → BeforeBound verdict before →
    BeforeCuts verdict (advance before (line_with Word.Cuts (pos count ∷ []))) count
behind_count verdict before count h = record {
  words_are = λ to_come. refl;
  told = omega (arith, h.told, h.cuts);
  splits = omega (arith, h.splits);
  leaves = omega (arith, h.leaves);
}

-- the lines of the cuts and of the tree
bound_pass : (verdict : Verdict) (before : Standing) (cuts : List Cut) (nodes : List TreeNode) → BeforeBound verdict before → AreCuts cuts → AreNodes nodes →
    AllByRecursion IsWritableCut cuts → AllByRecursion IsWritableNode nodes → ((b : Standing) → IsWhole b → BreaksTree verdict b Word.End → ⊥) →
    PassFrom verdict before (bound_lines cuts nodes)
bound_pass verdict before cuts nodes h are are_nodes writable writable_nodes stays =
    let is : nodes ≡ preorder are_nodes.tree = are_nodes.is_tree in
    let few : length (preorder are_nodes.tree) ≤ 65535 = subst (λ (ns : List TreeNode). length ns ≤ 65535) is are_nodes.few in (
      count_passes verdict before (length cuts) h are,
      subst (λ (ls : List CertLine). PassFrom verdict (advance before (line_with Word.Cuts (pos (length cuts) ∷ []))) ls)
          (sym (append_assoc (map cut_line cuts) (map node_line nodes) (line_with Word.End [] ∷ [])))
          (cuts_then verdict _ cuts (map node_line nodes ++ line_with Word.End [] ∷ []) (behind_count verdict before (length cuts) h) writable
          (λ b k. subst (λ (ns : List TreeNode). PassFrom verdict b (map node_line ns ++ line_with Word.End [] ∷ [])) (sym is)
          (tree_then verdict b 0 0 are_nodes.tree (line_with Word.End [] ∷ []) (first_node verdict b k) (omega (arith, few))
          (subst (λ (ns : List TreeNode). AllByRecursion IsNarrowNode ns) is are_nodes.narrow)
          (subst (λ (ns : List TreeNode). AllByRecursion IsWritableNode ns) is writable_nodes)
          (λ d l. (end_passes verdict d _ l stays, tt))))),
    )

-- what holds before blocks, behind which a line of another word comes
pub record BeforeBlocks (verdict : Verdict) (before : Standing) (last : Word) (blocks : ℕ) : Type 0 where
  pub words_are : (to_come : Bool) → words_behind verdict to_come before.last ≡ Word.Block ∷ last ∷ []
  pub blocks_are : before.blocks ≡ blocks
  pub told : before.told ≡ 0
  pub cuts : before.cuts ≡ 0
  pub splits : before.splits ≡ 0
  pub leaves : before.leaves ≡ 0

block_passes : (verdict : Verdict) (before : Standing) (last : Word) (first : ℕ) (block : BlockPart) → BeforeBlocks verdict before last first → suc first < 2 ^ 32 →
    Passes verdict before (line_with Word.Block (pos (suc first) ∷ block.times ∷ block.y))
block_passes verdict before last first block h small = record {
  possible = is_possible _ (Word.Block ∷ last ∷ []) Word.Block (h.words_are _) (inl refl);
  tree = λ t. t;
  narrow = (narrow_index (suc first) small, (block.times_narrow, block.y_narrow));
  indexes = (index_of (suc first) small, tt);
  few = λ t. t;
  enough = omega arith;
  in_order = ap suc (sym h.blocks_are);
}

pub behind_block : (verdict : Verdict) (before : Standing) (last : Word) (first : ℕ) (block : BlockPart) → words_of_block verdict ≡ Word.Block ∷ last ∷ [] →
    BeforeBlocks verdict before last first →
    BeforeBlocks verdict (advance before (line_with Word.Block (pos (suc first) ∷ block.times ∷ block.y))) last (suc first)
behind_block verdict before last first block words h = record {
  words_are = λ to_come. words;
  blocks_are = omega (arith, h.blocks_are);
  told = omega (arith, h.told);
  cuts = omega (arith, h.cuts);
  splits = omega (arith, h.splits);
  leaves = omega (arith, h.leaves);
}

-- the lines of blocks, and what passes behind them
blocks_then : (verdict : Verdict) (before : Standing) (last : Word) (first : ℕ) (blocks : List BlockPart) (more : List CertLine) →
    words_of_block verdict ≡ Word.Block ∷ last ∷ [] → BeforeBlocks verdict before last first → first + length blocks < 2 ^ 32 →
    ((b : Standing) (count : ℕ) → BeforeBlocks verdict b last count → PassFrom verdict b more) → PassFrom verdict before (block_lines (suc first) blocks ++ more)
blocks_then verdict before last first [] more words h few later = later before first h
blocks_then verdict before last first (block ∷ blocks) more words h few later =
    let next : suc (suc first) ≡ suc first + 1 = omega arith in (
      block_passes verdict before last first block h (omega (arith, few)),
      subst (λ (n : ℕ). PassFrom verdict (advance before (line_with Word.Block (pos (suc first) ∷ block.times ∷ block.y))) (block_lines n blocks ++ more)) next
          (blocks_then verdict (advance before (line_with Word.Block (pos (suc first) ∷ block.times ∷ block.y))) last (suc first) blocks more words
          (behind_block verdict before last first block words h) (omega (arith, few)) later),
    )

lines_pass : (v : Verdict) (p : Option Parts) (x : ℤ) (r : List ℤ) (cuts : List Cut) (nodes : List TreeNode) → HasPartsOf v p → HasValueOf v x → HasRayOf v r →
    HasCutsOf v cuts → HasTreeOf v nodes → HasFewBlocks p → AllByRecursion IsWritableCut cuts → AllByRecursion IsWritableNode nodes →
    PassFrom v start (lines_by v p x r cuts nodes)
lines_pass Optimal None x r cuts nodes hp hx hr hc hn few wc wn = absurd hp
lines_pass Optimal (Some p) x r cuts nodes hp hx hr hc hn few wc wn = (
  record { possible = inl refl; tree = λ t. t; narrow = (p.master.den_narrow, p.master.x_narrow); indexes = tt; few = λ t. t; enough = omega arith; in_order = tt },
  (
    record { possible = inl refl; tree = λ t. t; narrow = p.master.eta_narrow; indexes = tt; few = λ t. t; enough = tt; in_order = tt },
    blocks_then Optimal _ Word.Value 0 p.blocks (line_with Word.Value (x ∷ []) ∷ bound_lines cuts nodes) refl
        (record { words_are = λ to_come. refl; blocks_are = refl; told = refl; cuts = refl; splits = refl; leaves = refl }) (omega (arith, few))
        (λ b count h. (
          record {
            possible = is_possible _ (Word.Block ∷ Word.Value ∷ []) Word.Value (h.words_are _) (inr (inl refl));
            tree = λ t. t;
            narrow = (hx, tt);
            indexes = tt;
            few = λ t. t;
            enough = refl;
            in_order = tt;
          },
          bound_pass Optimal _ cuts nodes
              (record {
                words_are = λ to_come. refl;
                told = omega (arith, h.told);
                cuts = omega (arith, h.cuts);
                splits = omega (arith, h.splits);
                leaves = omega (arith, h.leaves);
              }) hc hn wc wn (λ d whole broken. broken whole),
        )),
  ),
)
lines_pass Infeasible (Some p) x r cuts nodes hp hx hr hc hn few wc wn = absurd hp
lines_pass Infeasible None x r cuts nodes hp hx hr hc hn few wc wn =
    bound_pass Infeasible start cuts nodes
    (record { words_are = λ to_come. refl; told = refl; cuts = refl; splits = refl; leaves = refl }) hc hn wc wn (λ d whole broken. broken whole)
lines_pass Unbounded None x r cuts nodes hp hx hr hc hn few wc wn = absurd hp
lines_pass Unbounded (Some p) x r cuts nodes hp hx hr hc hn few wc wn = (
  record { possible = inl refl; tree = λ t. t; narrow = (p.master.den_narrow, p.master.x_narrow); indexes = tt; few = λ t. t; enough = omega arith; in_order = tt },
  blocks_then Unbounded _ Word.Ray 0 p.blocks (line_with Word.Ray r ∷ line_with Word.End [] ∷ []) refl
      (record { words_are = λ to_come. refl; blocks_are = refl; told = refl; cuts = refl; splits = refl; leaves = refl }) (omega (arith, few))
      (λ b count h. (
        record {
          possible = is_possible _ (Word.Block ∷ Word.Ray ∷ []) Word.Ray (h.words_are _) (inr (inl refl));
          tree = λ t. t;
          narrow = hr;
          indexes = tt;
          few = λ t. t;
          enough = tt;
          in_order = tt;
        },
        (record { possible = inl refl; tree = λ t. t; narrow = tt; indexes = tt; few = λ t. t; enough = refl; in_order = tt }, tt),
      )),
)

-- the lines of a certificate pass
pub cert_passes : (c : Certificate) → IsShaped c → IsWritable c → PassFrom c.verdict start (cert_lines c)
cert_passes c h k =
    lines_pass c.verdict c.parts c.value c.ray c.cuts c.tree h.parts h.value h.ray h.cuts h.tree k.blocks k.cuts k.nodes
