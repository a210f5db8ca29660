-- The lines of a certificate tell the certificate.
use Rattle.std.proofs.Common.{◌≡◌, ◌≢◌, ◌∷◌, ◌++◌, ◌∙◌, [], ℕ, ◌+◌, ℤ, pos, List, Option, Some, None, length, map, ap, sym, refl, subst, append-nil, append_assoc, arith}
use Rattle.std.specs.List.{AllByRecursion}
use Rattle.std.proofs.Props.{props}
use mathlib.Core.HLevel.{is_prop→PathP}
use Rattle.bz_algebra.specs.Numbers.{IsNarrow}
use Rattle.bz_model.specs.declared.BlockPart.{BlockPart}
use Rattle.bz_model.specs.declared.Master.{Master}
use Rattle.bz_model.specs.declared.Parts.{Parts}
use Rattle.bz_cut.specs.declared.Cut.{Cut}
use Rattle.bz_tree.specs.declared.Leaf.{Leaf}
use Rattle.bz_tree.specs.declared.TreeNode.{TreeNode}
use Rattle.bz_cert.specs.declared.records.Certificate.{Certificate}
use Rattle.bz_cert.specs.declared.records.Verdict.{Verdict}
use Rattle.bz_cert.specs.declared.records.Verdict.TheVariants.{Optimal, Infeasible, Unbounded}
use Rattle.bz_cert.specs.declared.words.Word.{Word}
use Rattle.bz_cert.specs.CertText.{CertLine, block_lines, bound_lines, cert_lines, cut_line, line_with, lines_by, node_line, sparse_numbers}
use Rattle.bz_cert.specs.Shapes.{HasCutsOf, HasPartsOf, HasRayOf, HasTreeOf, HasValueOf, IsShaped}
use Rattle.bz_cert.proofs.ListLemmas.{same_head, same_tail}
use Rattle.bz_cert.proofs.SparseLists.{same_index, same_list}

-- records are the same where their numbers are
part_same : (b d : BlockPart) → b.times ≡ d.times → b.y ≡ d.y → b ≡ d
part_same b d t y = λ i. record {
  times = t i;
  y = y i;
  times_narrow = is_prop→PathP (λ j. IsNarrow (t j)) (λ j. hlevel props) b.times_narrow d.times_narrow i;
  y_narrow = is_prop→PathP (λ j. AllByRecursion IsNarrow (y j)) (λ j. hlevel props) b.y_narrow d.y_narrow i;
}

master_same : (m n : Master) → m.den ≡ n.den → m.x ≡ n.x → m.eta ≡ n.eta → m ≡ n
master_same m n d x e = λ i. record {
  den = d i;
  x = x i;
  eta = e i;
  den_narrow = is_prop→PathP (λ j. IsNarrow (d j)) (λ j. hlevel props) m.den_narrow n.den_narrow i;
  x_narrow = is_prop→PathP (λ j. AllByRecursion IsNarrow (x j)) (λ j. hlevel props) m.x_narrow n.x_narrow i;
  eta_narrow = is_prop→PathP (λ j. AllByRecursion IsNarrow (e j)) (λ j. hlevel props) m.eta_narrow n.eta_narrow i;
}

cut_same : (b d : Cut) → b.block ≡ d.block → b.mu ≡ d.mu → b.gcd ≡ d.gcd → b.alpha ≡ d.alpha → b.p0 ≡ d.p0 → b.beta ≡ d.beta → b ≡ d
cut_same b d k m g a p r = λ i. record {
  block = k i;
  mu = m i;
  gcd = g i;
  alpha = a i;
  p0 = p i;
  beta = r i;
  gcd_narrow = is_prop→PathP (λ j. IsNarrow (g j)) (λ j. hlevel props) b.gcd_narrow d.gcd_narrow i;
  p0_narrow = is_prop→PathP (λ j. IsNarrow (p j)) (λ j. hlevel props) b.p0_narrow d.p0_narrow i;
  beta_narrow = is_prop→PathP (λ j. IsNarrow (r j)) (λ j. hlevel props) b.beta_narrow d.beta_narrow i;
}

leaf_same : (x y : Leaf) → x.lambda ≡ y.lambda → x.delta ≡ y.delta → x.bound ≡ y.bound → x ≡ y
leaf_same x y l d b = λ i. record {
  lambda = l i;
  delta = d i;
  bound = b i;
  delta_narrow = is_prop→PathP (λ j. IsNarrow (d j)) (λ j. hlevel props) x.delta_narrow y.delta_narrow i;
  bound_narrow = is_prop→PathP (λ j. IsNarrow (b j)) (λ j. hlevel props) x.bound_narrow y.bound_narrow i;
}

-- lines of different words differ
apart : (l m : CertLine) (ls ms : List CertLine) → (l.word ≡ m.word → ⊥) → l ∷ ls ≡ m ∷ ms → ⊥
apart l m ls ms other e = other (ap (λ line. line.word) (same_head l m ls ms e))

numbers_same : (l m : CertLine) (ls ms : List CertLine) → l ∷ ls ≡ m ∷ ms → l.numbers ≡ m.numbers
numbers_same l m ls ms e = ap (λ line. line.numbers) (same_head l m ls ms e)

-- blocks up to a line of another word
same_blocks : (n : ℕ) (bs cs : List BlockPart) (l m : CertLine) (ls ms : List CertLine) → l.word ≢ Word.Block → m.word ≢ Word.Block →
    block_lines n bs ++ l ∷ ls ≡ block_lines n cs ++ m ∷ ms → (bs ≡ cs) × (l ∷ ls ≡ m ∷ ms)
same_blocks n [] [] l m ls ms h k e = (refl, e)
same_blocks n [] (d ∷ cs) l m ls ms h k e = absurd (apart l _ ls _ h e)
same_blocks n (b ∷ bs) [] l m ls ms h k e = absurd (apart m _ ms _ k (sym e))
same_blocks n (b ∷ bs) (d ∷ cs) l m ls ms h k e =
    let numbers : pos n ∷ b.times ∷ b.y ≡ pos n ∷ d.times ∷ d.y = numbers_same _ _ _ _ e in
    let later : (bs ≡ cs) × (l ∷ ls ≡ m ∷ ms) = same_blocks (n + 1) bs cs l m ls ms h k (same_tail _ _ _ _ e) in
    let times : b.times ≡ d.times = same_head _ _ _ _ (same_tail _ _ _ _ numbers) in
    let y : b.y ≡ d.y = same_tail _ _ _ _ (same_tail _ _ _ _ numbers) in
    let block : b ≡ d = part_same b d times y in
    (ap (λ t. t ∷ bs) block ∙ ap (λ t. d ∷ t) later.0, later.1)

same_alone : (es fs : List (ℕ × ℤ)) → sparse_numbers es ≡ sparse_numbers fs → es ≡ fs
same_alone es fs e = (same_list es fs [] [] (append-nil (sparse_numbers es) ∙ e ∙ sym (append-nil (sparse_numbers fs)))).0

same_cut : (b d : Cut) → (cut_line b).numbers ≡ (cut_line d).numbers → b ≡ d
same_cut b d e =
    let e1 = same_tail _ _ _ _ e in
    let e2 = same_tail _ _ _ _ e1 in
    let e3 = same_tail _ _ _ _ e2 in
    let lists : (b.alpha ≡ d.alpha) × (sparse_numbers b.mu ≡ sparse_numbers d.mu) = same_list b.alpha d.alpha _ _ (same_tail _ _ _ _ e3) in
    cut_same b d (same_index b.block d.block (same_head _ _ _ _ e)) (same_alone b.mu d.mu lists.1) (same_head _ _ _ _ e3) lists.0 (same_head _ _ _ _ e1) (same_head _ _ _ _ e2)

-- as many cuts in front of further lines
same_cuts : (bs cs : List Cut) (ls ms : List CertLine) → length bs ≡ length cs → map cut_line bs ++ ls ≡ map cut_line cs ++ ms → (bs ≡ cs) × (ls ≡ ms)
same_cuts [] [] ls ms many e = (refl, e)
same_cuts [] (d ∷ cs) ls ms many e = absurd (omega arith)
same_cuts (b ∷ bs) [] ls ms many e = absurd (omega arith)
same_cuts (b ∷ bs) (d ∷ cs) ls ms many e =
    let later : (bs ≡ cs) × (ls ≡ ms) = same_cuts bs cs ls ms (omega arith) (same_tail _ _ _ _ e) in
    (ap (λ t. t ∷ bs) (same_cut b d (numbers_same (cut_line b) (cut_line d) _ _ e)) ∙ ap (λ t. d ∷ t) later.0, later.1)

-- the line of a node tells the node
same_node : (x y : TreeNode) → (node_line x).word ≡ (node_line y).word → (node_line x).numbers ≡ (node_line y).numbers → x ≡ y
same_node (TreeNode.Split p l r) (TreeNode.Split q m s) w e =
    let position : p ≡ q = same_index p q (same_head _ _ _ _ e) in
    let left : l ≡ m = same_head _ _ _ _ (same_tail _ _ _ _ e) in
    let right : r ≡ s = same_head _ _ _ _ (same_tail _ _ _ _ (same_tail _ _ _ _ e)) in
    ap (λ t. TreeNode.Split t l r) position ∙ ap (λ t. TreeNode.Split q t r) left ∙ ap (λ t. TreeNode.Split q m t) right
same_node (TreeNode.Split p l r) (TreeNode.Leaf y) w e = absurd (cc)
same_node (TreeNode.Leaf x) (TreeNode.Split q m s) w e = absurd (cc)
same_node (TreeNode.Leaf x) (TreeNode.Leaf y) w e =
    let behind = same_tail _ _ _ _ e in
    let leaf : x ≡ y = leaf_same x y (same_alone x.lambda y.lambda (same_tail _ _ _ _ behind)) (same_head _ _ _ _ e) (same_head _ _ _ _ behind) in
    ap TreeNode.Leaf leaf

-- a node's line is not the last one
not_end : (x : TreeNode) → (node_line x).word ≡ Word.End → ⊥
not_end (TreeNode.Split p l r) e = absurd (cc)
not_end (TreeNode.Leaf x) e = absurd (cc)

-- nodes up to the last line
same_nodes : (xs ys : List TreeNode) → map node_line xs ++ line_with Word.End [] ∷ [] ≡ map node_line ys ++ line_with Word.End [] ∷ [] → xs ≡ ys
same_nodes [] [] e = refl
same_nodes [] (y ∷ ys) e = absurd (apart (node_line y) (line_with Word.End []) _ _ (not_end y) (sym e))
same_nodes (x ∷ xs) [] e = absurd (apart (node_line x) (line_with Word.End []) _ _ (not_end x) e)
same_nodes (x ∷ xs) (y ∷ ys) e =
    let node : x ≡ y = same_node x y (ap (λ line. line.word) (same_head _ _ _ _ e)) (numbers_same (node_line x) (node_line y) _ _ e) in
    ap (λ t. t ∷ xs) node ∙ ap (λ t. y ∷ t) (same_nodes xs ys (same_tail _ _ _ _ e))

-- the lines of the cuts and of the tree
same_bound : (bs cs : List Cut) (xs ys : List TreeNode) → bound_lines bs xs ≡ bound_lines cs ys → (bs ≡ cs) × (xs ≡ ys)
same_bound bs cs xs ys e =
    let count : pos (length bs) ∷ [] ≡ pos (length cs) ∷ [] = numbers_same _ _ _ _ e in
    let many : length bs ≡ length cs = same_index (length bs) (length cs) (same_head _ _ _ _ count) in
    let cuts : (bs ≡ cs) × (map node_line xs ++ line_with Word.End [] ∷ [] ≡ map node_line ys ++ line_with Word.End [] ∷ []) =
    same_cuts bs cs _ _ many
    (sym (append_assoc (map cut_line bs) (map node_line xs) (line_with Word.End [] ∷ [])) ∙ same_tail _ _ _ _ e
    ∙ append_assoc (map cut_line cs) (map node_line ys) (line_with Word.End [] ∷ [])) in
    (cuts.0, same_nodes xs ys cuts.1)

same_master : (m n : Master) → m.den ∷ m.x ≡ n.den ∷ n.x → m.eta ≡ n.eta → m ≡ n
same_master m n e k = master_same m n (same_head _ _ _ _ e) (same_tail _ _ _ _ e) k

same_parts : (p q : Parts) → p.master ≡ q.master → p.blocks ≡ q.blocks → Some p ≡ Some q
same_parts p q m b = ap (λ t. Some (record { master = t; blocks = p.blocks })) m ∙ ap (λ t. Some (record { master = q.master; blocks = t })) b

-- the lines behind the verdict's tell what they say
same_by : (v : Verdict) (p q : Option Parts) (x y : ℤ) (r s : List ℤ) (bs cs : List Cut) (ns ms : List TreeNode) → HasPartsOf v p → HasPartsOf v q →
    HasValueOf v x → HasValueOf v y → HasRayOf v r → HasRayOf v s → HasCutsOf v bs → HasCutsOf v cs → HasTreeOf v ns → HasTreeOf v ms →
    lines_by v p x r bs ns ≡ lines_by v q y s cs ms → (p ≡ q) × (x ≡ y) × (r ≡ s) × (bs ≡ cs) × (ns ≡ ms)
same_by Optimal None q x y r s bs cs ns ms hp hq hx hy hr hs hb hc hn hm e = absurd hp
same_by Optimal (Some p) None x y r s bs cs ns ms hp hq hx hy hr hs hb hc hn hm e = absurd hq
same_by Optimal (Some p) (Some q) x y r s bs cs ns ms hp hq hx hy hr hs hb hc hn hm e =
    let e1 = same_tail _ _ _ _ e in
    let blocks : (p.blocks ≡ q.blocks) × (line_with Word.Value (x ∷ []) ∷ bound_lines bs ns ≡ line_with Word.Value (y ∷ []) ∷ bound_lines cs ms) =
    same_blocks 1 p.blocks q.blocks _ _ _ _ (λ w. absurd (cc)) (λ w. absurd (cc)) (same_tail _ _ _ _ e1) in
    let value : x ∷ [] ≡ y ∷ [] = numbers_same _ _ _ _ blocks.1 in
    let bound : (bs ≡ cs) × (ns ≡ ms) = same_bound bs cs ns ms (same_tail _ _ _ _ blocks.1) in
    let master : p.master ≡ q.master = same_master p.master q.master (numbers_same _ _ _ _ e) (numbers_same _ _ _ _ e1) in
    (same_parts p q master blocks.0, same_head _ _ _ _ value, hr ∙ sym hs, bound.0, bound.1)
same_by Infeasible (Some p) q x y r s bs cs ns ms hp hq hx hy hr hs hb hc hn hm e = absurd hp
same_by Infeasible None (Some q) x y r s bs cs ns ms hp hq hx hy hr hs hb hc hn hm e = absurd hq
same_by Infeasible None None x y r s bs cs ns ms hp hq hx hy hr hs hb hc hn hm e =
    let bound : (bs ≡ cs) × (ns ≡ ms) = same_bound bs cs ns ms e in
    (refl, hx ∙ sym hy, hr ∙ sym hs, bound.0, bound.1)
same_by Unbounded None q x y r s bs cs ns ms hp hq hx hy hr hs hb hc hn hm e = absurd hp
same_by Unbounded (Some p) None x y r s bs cs ns ms hp hq hx hy hr hs hb hc hn hm e = absurd hq
same_by Unbounded (Some p) (Some q) x y r s bs cs ns ms hp hq hx hy hr hs hb hc hn hm e =
    let blocks : (p.blocks ≡ q.blocks) × (line_with Word.Ray r ∷ line_with Word.End [] ∷ [] ≡ line_with Word.Ray s ∷ line_with Word.End [] ∷ []) =
    same_blocks 1 p.blocks q.blocks _ _ _ _ (λ w. absurd (cc)) (λ w. absurd (cc)) (same_tail _ _ _ _ e) in
    let master : p.master ≡ q.master = same_master p.master q.master (numbers_same _ _ _ _ e) (hp ∙ sym hq) in
    (same_parts p q master blocks.0, hx ∙ sym hy, numbers_same _ _ _ _ blocks.1, hb ∙ sym hc, hn ∙ sym hm)

-- shaped certificates of the same verdict and the same lines are the same
pub same_cert : (c d : Certificate) → IsShaped c → IsShaped d → c.verdict ≡ d.verdict → cert_lines c ≡ cert_lines d → c ≡ d
same_cert c d h k v e =
    let e' : lines_by c.verdict c.parts c.value c.ray c.cuts c.tree ≡ lines_by c.verdict d.parts d.value d.ray d.cuts d.tree =
    e ∙ ap (λ w. lines_by w d.parts d.value d.ray d.cuts d.tree) (sym v) in
    let all = same_by c.verdict c.parts d.parts c.value d.value c.ray d.ray c.cuts d.cuts c.tree d.tree
    h.parts (subst (λ (w : Verdict). HasPartsOf w d.parts) (sym v) k.parts)
    h.value (subst (λ (w : Verdict). HasValueOf w d.value) (sym v) k.value)
    h.ray (subst (λ (w : Verdict). HasRayOf w d.ray) (sym v) k.ray)
    h.cuts (subst (λ (w : Verdict). HasCutsOf w d.cuts) (sym v) k.cuts)
    h.tree (subst (λ (w : Verdict). HasTreeOf w d.tree) (sym v) k.tree) e' in
    ap (λ t. record { verdict = t; parts = c.parts; value = c.value; ray = c.ray; cuts = c.cuts; tree = c.tree }) v
    ∙ ap (λ t. record { verdict = d.verdict; parts = t; value = c.value; ray = c.ray; cuts = c.cuts; tree = c.tree }) all.0
    ∙ ap (λ t. record { verdict = d.verdict; parts = d.parts; value = t; ray = c.ray; cuts = c.cuts; tree = c.tree }) all.1
    ∙ ap (λ t. record { verdict = d.verdict; parts = d.parts; value = d.value; ray = t; cuts = c.cuts; tree = c.tree }) all.2
    ∙ ap (λ t. record { verdict = d.verdict; parts = d.parts; value = d.value; ray = d.ray; cuts = t; tree = c.tree }) all.3
    ∙ ap (λ t. record { verdict = d.verdict; parts = d.parts; value = d.value; ray = d.ray; cuts = d.cuts; tree = t }) all.4
