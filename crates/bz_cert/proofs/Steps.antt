-- One more block, cut or node.
use Rattle.std.proofs.Common.{◌≡◌, ◌∷◌, ◌++◌, ◌∙◌, [], ℕ, suc, ◌+◌, add-zero, ◌<◌, ◌≤◌, pos, List, inl, inr, ap, sym, refl, subst, arith, append-nil, append_assoc, length, length-append, map}
use Rattle.std.specs.List.{flat_map}
use Rattle.std.proofs.lemmas.Bool.{le-ltb, lt-ltb}
use Rattle.bz_model.specs.declared.BlockPart.{BlockPart}
use Rattle.bz_cut.specs.declared.Cut.{Cut}
use Rattle.bz_tree.specs.declared.TreeNode.{TreeNode}
use Rattle.bz_tree.specs.Trees.{Tree, tip, fork, preorder}
use Rattle.bz_cert.specs.declared.records.Verdict.{Verdict}
use Rattle.bz_cert.specs.declared.words.Word.{Word}
use Rattle.bz_cert.specs.CertText.{CertLine, IsWritableCut, IsWritableNode, block_lines, cut_line, line_with, node_line}
use Rattle.bz_cert.specs.CertFaults.{AreOfLeaf, BreaksTree, IsIn, IsWhole, Passes, Standing, words_of_cuts}
use Rattle.bz_cert.specs.CertReading.{Awaits, Reads, ReadsLine, advance, advance_all, tree_words}
use Rattle.bz_cert.specs.CertPhases.{AwaitsBlocks, AwaitsTree, CutsTold, MakesTree, NodesTold, trees_behind}
use Rattle.bz_cert.proofs.Failing.{cut_numbers, passes}
use Rattle.bz_cert.proofs.Phases.{advance_append, block_lines_push, map-append, reads_line, reads_none, reads_on}

-- what holds of the standing behind lines and one more
pub one_more : (P : Standing → Type 0) (before : Standing) (ls : List CertLine) (line : CertLine) → P (advance (advance_all before ls) line) →
    P (advance_all before (ls ++ line ∷ []))
one_more P before ls line h = subst P (sym (advance_append before ls (line ∷ []))) h

pub blocks_step : (verdict : Verdict) (before : Standing) (last : Word) (parts : List BlockPart) (part : BlockPart) (block n0 : ℕ) (r0 : List ℕ) (n : ℕ) (r : List ℕ)
    (n1 : ℕ) (r1 : List ℕ) → block ≡ length parts + 1 → AwaitsBlocks verdict before last →
    Reads verdict before (block_lines 1 parts) n0 r0 n r × Awaits verdict (advance_all before (block_lines 1 parts)) (Word.Block ∷ last ∷ [])
    × ((advance_all before (block_lines 1 parts)).blocks ≡ length parts) →
    ReadsLine n r (line_with Word.Block (pos block ∷ part.times ∷ part.y)) n1 r1 →
    Reads verdict before (block_lines 1 (parts ++ part ∷ [])) n0 r0 n1 r1
    × Awaits verdict (advance_all before (block_lines 1 (parts ++ part ∷ []))) (Word.Block ∷ last ∷ [])
    × ((advance_all before (block_lines 1 (parts ++ part ∷ []))).blocks ≡ length (parts ++ part ∷ []))
blocks_step verdict before last parts part block n0 r0 n r n1 r1 is a h line =
    let l : CertLine = line_with Word.Block (pos block ∷ part.times ∷ part.y) in
    let s : Standing = advance_all before (block_lines 1 parts) in
    let p : Passes verdict (advance_all before (block_lines 1 parts)) (line_with Word.Block (pos block ∷ part.times ∷ part.y)) =
    passes verdict (advance_all before (block_lines 1 parts)) (Word.Block ∷ last ∷ []) r Word.Block (pos block ∷ part.times ∷ part.y) (10 ∷ r1) h.1 (inl refl)
    line.begins (a.fine (advance_all before (block_lines 1 parts)) Word.Block (inl refl)) (λ t. t) (omega arith) (omega (arith, is, h.2)) in
    let R : Reads verdict before (block_lines 1 parts ++ line_with Word.Block (pos block ∷ part.times ∷ part.y) ∷ []) n0 r0 n1 r1 =
    reads_on verdict before (block_lines 1 parts) (line_with Word.Block (pos block ∷ part.times ∷ part.y) ∷ []) n0 r0 n r n1 r1 h.0
    (reads_line verdict (advance_all before (block_lines 1 parts)) _ n r n1 r1 line p) in
    let w : Awaits verdict (advance (advance_all before (block_lines 1 parts)) (line_with Word.Block (pos block ∷ part.times ∷ part.y))) (Word.Block ∷ last ∷ []) =
    record { words_are = a.more; more = λ e. absurd (cc) } in
    let b : (advance (advance_all before (block_lines 1 parts)) (line_with Word.Block (pos block ∷ part.times ∷ part.y))).blocks ≡ length (parts ++ part ∷ []) =
    omega (arith, h.2, length-append parts (part ∷ [])) in
    subst (λ (ls : List CertLine). Reads verdict before ls n0 r0 n1 r1 × Awaits verdict (advance_all before ls) (Word.Block ∷ last ∷ [])
    × ((advance_all before ls).blocks ≡ length (parts ++ part ∷ [])))
    (sym (block_lines_push parts part block is)) (
      R,
      one_more (λ t. Awaits verdict t (Word.Block ∷ last ∷ [])) before (block_lines 1 parts) _ w,
      one_more (λ t. t.blocks ≡ length (parts ++ part ∷ [])) before (block_lines 1 parts) _ b,
    )

-- where cuts are still to come, a cut has to come
pub awaits_cut : (verdict : Verdict) (before : Standing) (count cuts : ℕ) → CutsTold verdict before count cuts → cuts < count →
    Awaits verdict before (Word.Cut ∷ [])
awaits_cut verdict before count cuts told few =
    let lt : before.cuts < before.told = omega (arith, told.told, told.here, few) in
    record { words_are = told.words_are _ ∙ ap words_of_cuts (lt-ltb _ _ lt); more = told.more }

-- behind the last cut a tree has to come
pub awaits_tree : (verdict : Verdict) (before : Standing) (count cuts : ℕ) → CutsTold verdict before count cuts → cuts ≡ count → Awaits verdict before tree_words
awaits_tree verdict before count cuts told all =
    let ge : before.told ≤ before.cuts = omega (arith, told.told, told.here, all) in
    record { words_are = told.words_are _ ∙ ap words_of_cuts (le-ltb _ _ ge); more = told.more }

pub cuts_step : (verdict : Verdict) (before : Standing) (cuts : List Cut) (cut : Cut) (count n0 : ℕ) (r0 : List ℕ) (n : ℕ) (r : List ℕ) (n1 : ℕ) (r1 : List ℕ) →
    length cuts < count → IsWritableCut cut →
    Reads verdict before (map cut_line cuts) n0 r0 n r × CutsTold verdict (advance_all before (map cut_line cuts)) count (length cuts) →
    ReadsLine n r (cut_line cut) n1 r1 →
    Reads verdict before (map cut_line (cuts ++ cut ∷ [])) n0 r0 n1 r1
    × CutsTold verdict (advance_all before (map cut_line (cuts ++ cut ∷ []))) count (length (cuts ++ cut ∷ []))
cuts_step verdict before cuts cut count n0 r0 n r n1 r1 few writable h line =
    let p : Passes verdict (advance_all before (map cut_line cuts)) (cut_line cut) =
    passes verdict (advance_all before (map cut_line cuts)) (Word.Cut ∷ []) r Word.Cut (cut_line cut).numbers (10 ∷ r1) (awaits_cut verdict _ count _ h.1 few) (inl refl)
    line.begins (λ t. t) (λ t. t) (cut_numbers _ cut refl) (cut_numbers _ cut refl, writable.alpha.sparse, writable.mu.sparse) in
    let R : Reads verdict before (map cut_line cuts ++ cut_line cut ∷ []) n0 r0 n1 r1 =
    reads_on verdict before (map cut_line cuts) (cut_line cut ∷ []) n0 r0 n r n1 r1 h.0
    (reads_line verdict (advance_all before (map cut_line cuts)) _ n r n1 r1 line p) in
    let t : CutsTold verdict (advance (advance_all before (map cut_line cuts)) (cut_line cut)) count (length (cuts ++ cut ∷ [])) = record {
      words_are = λ to_come. refl;
      more = λ e. absurd (cc);
      told = add-zero _ ∙ h.1.told;
      here = omega (arith, h.1.here, length-append cuts (cut ∷ []));
    } in
    subst (λ (ls : List CertLine). Reads verdict before ls n0 r0 n1 r1 × CutsTold verdict (advance_all before ls) count (length (cuts ++ cut ∷ [])))
    (sym (map-append cut_line cuts (cut ∷ [])))
    (R, one_more (λ s. CutsTold verdict s count (length (cuts ++ cut ∷ []))) before (map cut_line cuts) _ t)

-- where trees are still to come, the tree is not whole
pub not_whole : (verdict : Verdict) (before : Standing) (trees nodes : ℕ) → NodesTold verdict before trees nodes → 0 < trees → IsWhole before → ⊥
not_whole verdict before trees nodes told some whole = absurd (omega (arith, told.to_come, some, whole))

-- a node that passes, and what is told behind it
node_passes : (verdict : Verdict) (before : Standing) (trees nodes n : ℕ) (r : List ℕ) (n1 : ℕ) (r1 : List ℕ) (node : TreeNode) → NodesTold verdict before trees nodes →
    0 < trees → nodes ≤ 65534 → IsWritableNode node → ReadsLine n r (node_line node) n1 r1 →
    Passes verdict before (node_line node) × NodesTold verdict (advance before (node_line node)) (trees_behind node trees) (nodes + 1)
node_passes verdict before trees nodes n r n1 r1 (TreeNode.Split position left right) told some few writable line = (
  passes verdict before tree_words r Word.Split (pos position ∷ left ∷ right ∷ []) (10 ∷ r1) told.awaits (inl refl) line.begins
      (not_whole verdict before trees nodes told some) (λ many. absurd (omega (arith, many, told.here, few))) refl tt,
  record {
    awaits = record { words_are = refl; more = λ e. absurd (cc) };
    here = omega (arith, told.here);
    to_come = omega (arith, told.to_come);
  },
)
node_passes verdict before trees nodes n r n1 r1 (TreeNode.Leaf leaf) told some few writable line =
    let is : AreOfLeaf (node_line (TreeNode.Leaf leaf)).numbers = record { delta = leaf.delta; bound = leaf.bound; lambda = leaf.lambda; numbers_are = refl } in (
      passes verdict before tree_words r Word.Leaf (node_line (TreeNode.Leaf leaf)).numbers (10 ∷ r1) told.awaits (inr (inl refl)) line.begins
          (not_whole verdict before trees nodes told some) (λ many. absurd (omega (arith, many, told.here, few)))
          (record { delta = leaf.delta; bound = leaf.bound; lambda = leaf.lambda; numbers_are = refl })
          (record { delta = leaf.delta; bound = leaf.bound; lambda = leaf.lambda; numbers_are = refl }, writable.sparse),
      record {
        awaits = record { words_are = refl; more = λ e. absurd (cc) };
        here = omega (arith, told.here);
        to_come = omega (arith, told.to_come, some);
      },
    )

pub tree_step : (verdict : Verdict) (before : Standing) (items : List TreeNode) (node : TreeNode) (trees n0 : ℕ) (r0 : List ℕ) (n : ℕ) (r : List ℕ) (n1 : ℕ) (r1 : List ℕ) →
    0 < trees → length items ≤ 65534 → IsWritableNode node →
    Reads verdict before (map node_line items) n0 r0 n r × NodesTold verdict (advance_all before (map node_line items)) trees (length items) →
    ReadsLine n r (node_line node) n1 r1 →
    Reads verdict before (map node_line (items ++ node ∷ [])) n0 r0 n1 r1
    × NodesTold verdict (advance_all before (map node_line (items ++ node ∷ []))) (trees_behind node trees) (length (items ++ node ∷ []))
tree_step verdict before items node trees n0 r0 n r n1 r1 some few writable h line =
    let both : Passes verdict (advance_all before (map node_line items)) (node_line node)
    × NodesTold verdict (advance (advance_all before (map node_line items)) (node_line node)) (trees_behind node trees) (length items + 1) =
    node_passes verdict (advance_all before (map node_line items)) trees (length items) n r n1 r1 node h.1 some few writable line in
    let R : Reads verdict before (map node_line items ++ node_line node ∷ []) n0 r0 n1 r1 =
    reads_on verdict before (map node_line items) (node_line node ∷ []) n0 r0 n r n1 r1 h.0
    (reads_line verdict (advance_all before (map node_line items)) _ n r n1 r1 line both.0) in
    let m : length items + 1 ≡ length (items ++ node ∷ []) = omega (arith, length-append items (node ∷ [])) in
    let t : NodesTold verdict (advance (advance_all before (map node_line items)) (node_line node)) (trees_behind node trees) (length (items ++ node ∷ [])) =
    subst (λ (k : ℕ). NodesTold verdict (advance (advance_all before (map node_line items)) (node_line node)) (trees_behind node trees) k) m both.1 in
    subst (λ (ls : List CertLine). Reads verdict before ls n0 r0 n1 r1 × NodesTold verdict (advance_all before ls) (trees_behind node trees) (length (items ++ node ∷ [])))
    (sym (map-append node_line items (node ∷ [])))
    (R, one_more (λ s. NodesTold verdict s (trees_behind node trees) (length (items ++ node ∷ []))) before (map node_line items) _ t)

-- nodes that further trees make one tree
pub makes_one : MakesTree 1 []
makes_one [] many = absurd (omega arith)
makes_one (t ∷ []) many = (t, append-nil (preorder t))
makes_one (t ∷ u ∷ ts) many = absurd (omega (arith, many))

pub makes_step : (trees : ℕ) (items : List TreeNode) (node : TreeNode) → 0 < trees → MakesTree trees items → MakesTree (trees_behind node trees) (items ++ node ∷ [])
makes_step trees items (TreeNode.Split position left right) some h [] many = absurd (omega (arith, many))
makes_step trees items (TreeNode.Split position left right) some h (t ∷ []) many = absurd (omega (arith, many, some))
makes_step trees items (TreeNode.Split position left right) some h (t ∷ u ∷ ts) many =
    let made : (tree : Tree) × (items ++ flat_map preorder (fork position left right t u ∷ ts) ≡ preorder tree) =
    h (fork position left right t u ∷ ts) (omega (arith, many)) in (
      made.0,
      append_assoc items (TreeNode.Split position left right ∷ []) (preorder t ++ (preorder u ++ flat_map preorder ts))
          ∙ ap (λ ns. items ++ TreeNode.Split position left right ∷ ns) (sym (append_assoc (preorder t) (preorder u) (flat_map preorder ts))) ∙ made.1,
    )
makes_step trees items (TreeNode.Leaf leaf) some h ts many =
    let made : (tree : Tree) × (items ++ flat_map preorder (tip leaf ∷ ts) ≡ preorder tree) = h (tip leaf ∷ ts) (omega (arith, many, some)) in
    (made.0, append_assoc items (TreeNode.Leaf leaf ∷ []) (flat_map preorder ts) ∙ made.1)

-- a cut breaks no tree
pub cut_fine : (verdict : Verdict) (before : Standing) (word : Word) → IsIn (Word.Cut ∷ []) word → BreaksTree verdict before word → ⊥
cut_fine verdict before word (inl same) broken = subst (BreaksTree verdict before) same broken
cut_fine verdict before word (inr none) broken = none

-- where no tree is still to come, the tree is whole
pub whole_now : (verdict : Verdict) (before : Standing) (trees nodes : ℕ) → NodesTold verdict before trees nodes → trees ≡ 0 → before.leaves ≡ suc before.splits
whole_now verdict before trees nodes told done = omega (arith, told.to_come, done)

-- one more node gives at most one more tree
pub trees_grow : (node : TreeNode) (trees : ℕ) → trees_behind node trees ≤ trees + 1
trees_grow (TreeNode.Split position left right) trees = omega arith
trees_grow (TreeNode.Leaf leaf) trees = omega arith

-- before the first node
pub tree_start : (verdict : Verdict) (before : Standing) (items : List TreeNode) (n : ℕ) (r : List ℕ) → items ≡ [] → AwaitsTree verdict before →
    Reads verdict before (map node_line items) n r n r × NodesTold verdict (advance_all before (map node_line items)) 1 (length items)
tree_start verdict before items n r none a =
    subst (λ (ns : List TreeNode). Reads verdict before (map node_line ns) n r n r × NodesTold verdict (advance_all before (map node_line ns)) 1 (length ns)) (sym none)
    (reads_none verdict before n r, record { awaits = a.awaits; here = omega (arith, a.splits, a.leaves); to_come = omega (arith, a.splits, a.leaves) })
