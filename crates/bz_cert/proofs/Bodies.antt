-- Certificates from what was read, by the verdict.
use Rattle.std.proofs.Common.{◌≡◌, ◌≢◌, ◌∷◌, ◌++◌, ◌∙◌, [], ℕ, add-zero, ℤ, pos, List, Some, None, inl, inr, ap, sym, refl, subst, arith, append-nil, append_assoc, length, map}
use Rattle.std.specs.List.{AllByRecursion}
use Rattle.bz_model.specs.declared.BlockPart.{BlockPart}
use Rattle.bz_model.specs.declared.Master.{Master}
use Rattle.bz_cut.specs.declared.Cut.{Cut}
use Rattle.bz_tree.specs.declared.TreeNode.{TreeNode}
use Rattle.bz_cert.specs.declared.records.Certificate.{Certificate}
use Rattle.bz_cert.specs.declared.records.Verdict.{Verdict}
use Rattle.bz_cert.specs.declared.words.Word.{Word}
use Rattle.bz_cert.specs.Shapes.{AreCuts, AreNodes, IsNarrowNode}
use Rattle.bz_cert.specs.CertText.{CertLine, IsWritableNode, block_lines, bound_lines, cut_line, laid_out, line_with, node_line}
use Rattle.bz_cert.specs.CertFaults.{BreaksTree, IsIn, Passes, Standing}
use Rattle.bz_cert.specs.CertReading.{Awaits, PassFrom, Reads, ReadsLine, advance, advance_all}
use Rattle.bz_cert.specs.CertPhases.{AwaitsBlocks, AwaitsBound, ReadsBlocksTo, ReadsBody, ReadsBound, start}
use Rattle.bz_cert.proofs.Failing.{passes}
use Rattle.bz_cert.proofs.Phases.{blocks_keep, laid_out_append, reads_line, reads_on}
use Rattle.bz_cert.proofs.Steps.{one_more}

-- lines that pass, apart
pub pass_apart : (verdict : Verdict) (before : Standing) (ls ms : List CertLine) → PassFrom verdict before (ls ++ ms) →
    PassFrom verdict before ls × PassFrom verdict (advance_all before ls) ms
pass_apart verdict before [] ms h = (tt, h)
pass_apart verdict before (l ∷ ls) ms h =
    let later : PassFrom verdict (advance before l) ls × PassFrom verdict (advance_all (advance before l) ls) ms = pass_apart verdict (advance before l) ls ms h.1 in
    ((h.0, later.0), later.1)

-- neither number of a split is wide
pub node_narrow : (verdict : Verdict) (before : Standing) (node : TreeNode) → Passes verdict before (node_line node) → IsWritableNode node → IsNarrowNode node
node_narrow verdict before (TreeNode.Split position left right) h w = (h.narrow.1.0, h.narrow.1.1.0)
node_narrow verdict before (TreeNode.Leaf leaf) h w = tt

nodes_narrow : (verdict : Verdict) (before : Standing) (nodes : List TreeNode) → PassFrom verdict before (map node_line nodes) → AllByRecursion IsWritableNode nodes →
    AllByRecursion IsNarrowNode nodes
nodes_narrow verdict before [] h w = tt
nodes_narrow verdict before (node ∷ nodes) h w = (node_narrow verdict before node h.0 w.0, nodes_narrow verdict (advance before (node_line node)) nodes h.1 w.1)

-- the cuts and the nodes of a text
bound_shaped : (verdict : Verdict) (before : Standing) (cuts : List Cut) (tree : List TreeNode) (n : ℕ) (r : List ℕ) → ReadsBound cuts tree n r →
    PassFrom verdict before (bound_lines cuts tree) → AreCuts cuts × AreNodes tree
bound_shaped verdict before cuts tree n r h pass =
    let lists : PassFrom verdict (advance before (line_with Word.Cuts (pos (length cuts) ∷ []))) (map cut_line cuts ++ map node_line tree) × PassFrom verdict _ (line_with Word.End [] ∷ []) =
    pass_apart verdict (advance before (line_with Word.Cuts (pos (length cuts) ∷ []))) (map cut_line cuts ++ map node_line tree) (line_with Word.End [] ∷ []) pass.1 in
    let both = pass_apart verdict (advance before (line_with Word.Cuts (pos (length cuts) ∷ []))) (map cut_line cuts) (map node_line tree) lists.0 in (
      h.few_cuts,
      record { few = h.few_nodes; narrow = nodes_narrow verdict _ tree both.1 h.writable_nodes; tree = h.whole; is_tree = h.is_tree },
    )

-- the first line of a point
pub master_fine : (verdict : Verdict) (before : Standing) (word : Word) → IsIn (Word.Master ∷ []) word → BreaksTree verdict before word → ⊥
master_fine verdict before word (inl same) broken = subst (BreaksTree verdict before) same broken
master_fine verdict before word (inr none) broken = none

abbrev pub first_of_point : ℤ → List ℤ → CertLine
first_of_point den x = line_with Word.Master (den ∷ x)

pub awaits_point : (verdict : Verdict) → Awaits verdict start (Word.Master ∷ []) →
    Awaits verdict start (Word.Master ∷ []) × ((word : Word) → IsIn (Word.Master ∷ []) word → BreaksTree verdict start word → ⊥)
awaits_point verdict a = (a, master_fine verdict start)

pub point_read : (verdict : Verdict) (den : ℤ) (x : List ℤ) (n : ℕ) (r : List ℕ) (n1 : ℕ) (r1 : List ℕ) → Awaits verdict start (Word.Master ∷ []) →
    ReadsLine n r (first_of_point den x) n1 r1 → Reads verdict start (first_of_point den x ∷ []) n r n1 r1
point_read verdict den x n r n1 r1 a line =
    reads_line verdict start (first_of_point den x) n r n1 r1 line
    (passes verdict start (Word.Master ∷ []) r Word.Master (den ∷ x) (10 ∷ r1) a (inl refl) line.begins (λ t. t) (λ t. t) (omega arith) tt)

-- the lines of an optimum

pub optimal_master : Awaits Verdict.Optimal start (Word.Master ∷ [])
optimal_master = record { words_are = refl; more = λ e. absurd (cc) }

pub optimal_eta : (den : ℤ) (x : List ℤ) → Awaits Verdict.Optimal (advance start (first_of_point den x)) (Word.Eta ∷ [])
optimal_eta den x = record { words_are = refl; more = λ e. absurd (cc) }

pub eta_fine : (verdict : Verdict) (before : Standing) (word : Word) → IsIn (Word.Eta ∷ []) word → BreaksTree verdict before word → ⊥
eta_fine verdict before word (inl same) broken = subst (BreaksTree verdict before) same broken
eta_fine verdict before word (inr none) broken = none

pub eta_read : (den : ℤ) (x eta : List ℤ) (n : ℕ) (r : List ℕ) (n1 : ℕ) (r1 : List ℕ) (n2 : ℕ) (r2 : List ℕ) →
    ReadsLine n r (first_of_point den x) n1 r1 → ReadsLine n1 r1 (line_with Word.Eta eta) n2 r2 →
    Reads Verdict.Optimal start (first_of_point den x ∷ line_with Word.Eta eta ∷ []) n r n2 r2
eta_read den x eta n r n1 r1 n2 r2 h k =
    reads_on Verdict.Optimal start (first_of_point den x ∷ []) (line_with Word.Eta eta ∷ []) n r n1 r1 n2 r2
    (point_read Verdict.Optimal den x n r n1 r1 optimal_master h)
    (reads_line Verdict.Optimal (advance start (first_of_point den x)) (line_with Word.Eta eta) n1 r1 n2 r2 k
    (passes Verdict.Optimal (advance start (first_of_point den x)) (Word.Eta ∷ []) r1 Word.Eta eta (10 ∷ r2) (optimal_eta den x) (inl refl) k.begins (λ t. t) (λ t. t) tt tt))

value_fine : (verdict : Verdict) (last : Word) → ((before : Standing) → BreaksTree verdict before last → ⊥) → (before : Standing) (word : Word) →
    IsIn (Word.Block ∷ last ∷ []) word → BreaksTree verdict before word → ⊥
value_fine verdict last fine before word (inl same) broken = subst (BreaksTree verdict before) same broken
value_fine verdict last fine before word (inr (inl same)) broken = fine before (subst (BreaksTree verdict before) same broken)
value_fine verdict last fine before word (inr (inr none)) broken = none

abbrev pub front_of_optimum : ℤ → List ℤ → List ℤ → List CertLine
front_of_optimum den x eta = first_of_point den x ∷ line_with Word.Eta eta ∷ []

pub optimal_blocks : (den : ℤ) (x eta : List ℤ) → AwaitsBlocks Verdict.Optimal (advance_all start (front_of_optimum den x eta)) Word.Value
optimal_blocks den x eta = record {
  awaits = record { words_are = refl; more = λ e. absurd (cc) };
  more = refl;
  none = refl;
  fine = value_fine Verdict.Optimal Word.Value (λ before t. t);
}

abbrev pub value_line : ℤ → CertLine
value_line value = line_with Word.Value (value ∷ [])

abbrev pub optimum_lines : ℤ → List ℤ → List ℤ → List BlockPart → ℤ → List CertLine
optimum_lines den x eta parts value = front_of_optimum den x eta ++ (block_lines 1 parts ++ value_line value ∷ [])

pub value_read : (den : ℤ) (x eta : List ℤ) (parts : List BlockPart) (value : ℤ) (n : ℕ) (r : List ℕ) (n1 : ℕ) (r1 : List ℕ) (n2 : ℕ) (r2 : List ℕ) (n3 : ℕ) (r3 : List ℕ) →
    ReadsLine n r (first_of_point den x) n1 r1 → ReadsLine n1 r1 (line_with Word.Eta eta) n2 r2 → ReadsBlocksTo (value_line value) parts n2 r2 n3 r3 →
    Reads Verdict.Optimal start (optimum_lines den x eta parts value) n r n3 r3
value_read den x eta parts value n r n1 r1 n2 r2 n3 r3 h k b =
    reads_on Verdict.Optimal start (front_of_optimum den x eta) (block_lines 1 parts ++ value_line value ∷ []) n r n2 r2 n3 r3
    (eta_read den x eta n r n1 r1 n2 r2 h k) (b.reads Verdict.Optimal _ (optimal_blocks den x eta))

-- what is told behind blocks and a line that is no part of cuts or of a tree
behind_blocks : (before : Standing) (parts : List BlockPart) (value : ℤ) → (before.told ≡ 0) → (before.cuts ≡ 0) → (before.splits ≡ 0) → (before.leaves ≡ 0) →
    AwaitsBound Verdict.Optimal (advance (advance_all before (block_lines 1 parts)) (value_line value))
behind_blocks before parts value told cuts splits leaves =
    let keep = blocks_keep 1 parts before in
    record {
      awaits = record { words_are = refl; more = λ e. absurd (cc) };
      told = add-zero _ ∙ keep.0 ∙ told;
      cuts = add-zero _ ∙ keep.1 ∙ cuts;
      splits = add-zero _ ∙ keep.2 ∙ splits;
      leaves = add-zero _ ∙ keep.3 ∙ leaves;
      ends = λ behind part. part;
      stays = λ behind whole broken. broken whole;
    }

pub optimal_bound : (den : ℤ) (x eta : List ℤ) (parts : List BlockPart) (value : ℤ) →
    AwaitsBound Verdict.Optimal (advance_all start (optimum_lines den x eta parts value))
optimal_bound den x eta parts value =
    one_more (AwaitsBound Verdict.Optimal) (advance_all start (front_of_optimum den x eta)) (block_lines 1 parts) (value_line value)
    (behind_blocks (advance_all start (front_of_optimum den x eta)) parts value refl refl refl refl)

-- the certificate of an optimum
abbrev pub optimum : Master → List BlockPart → ℤ → List Cut → List TreeNode → Certificate
optimum master parts value cuts tree = record {
  verdict = Verdict.Optimal;
  parts = Some (record { master = master; blocks = parts });
  value = value;
  ray = [];
  cuts = cuts;
  tree = tree;
}

pub optimal_body : (master : Master) (parts : List BlockPart) (value : ℤ) (cuts : List Cut) (tree : List TreeNode) (n : ℕ) (r : List ℕ) (n1 : ℕ) (r1 : List ℕ)
    (n2 : ℕ) (r2 : List ℕ) (n3 : ℕ) (r3 : List ℕ) → ReadsLine n r (first_of_point master.den master.x) n1 r1 → ReadsLine n1 r1 (line_with Word.Eta master.eta) n2 r2 →
    ReadsBlocksTo (value_line value) parts n2 r2 n3 r3 → ReadsBound cuts tree n3 r3 → ReadsBody Verdict.Optimal r (optimum master parts value cuts tree)
optimal_body master parts value cuts tree n r n1 r1 n2 r2 n3 r3 h k b bound =
    let front : Reads Verdict.Optimal start (optimum_lines master.den master.x master.eta parts value) n r n3 r3 = value_read master.den master.x master.eta parts value n r n1 r1 n2 r2 n3 r3 h k b in
    let rest = bound.reads Verdict.Optimal _ (optimal_bound master.den master.x master.eta parts value) in
    let shaped : AreCuts cuts × AreNodes tree = bound_shaped Verdict.Optimal _ cuts tree n3 r3 bound rest.1 in
    let points : PassFrom Verdict.Optimal start (front_of_optimum master.den master.x master.eta) × PassFrom Verdict.Optimal _ (block_lines 1 parts ++ value_line value ∷ []) =
    pass_apart Verdict.Optimal start (front_of_optimum master.den master.x master.eta) (block_lines 1 parts ++ value_line value ∷ []) front.pass in
    let blocks = pass_apart Verdict.Optimal (advance_all start (front_of_optimum master.den master.x master.eta)) (block_lines 1 parts) (value_line value ∷ []) points.1 in
    record {
      verdict_is = refl;
      shaped = record {
        parts = tt;
        value = blocks.1.0.narrow.0;
        ray = refl;
        cuts = shaped.0;
        tree = shaped.1;
      };
      writable = record { blocks = b.few; cuts = bound.writable_cuts; nodes = bound.writable_nodes };
      joined = front.joined ∙ ap (λ t. laid_out (optimum_lines master.den master.x master.eta parts value) ++ t) rest.0
          ∙ sym (laid_out_append (optimum_lines master.den master.x master.eta parts value) (bound_lines cuts tree))
          ∙ ap (λ ls. laid_out (first_of_point master.den master.x ∷ line_with Word.Eta master.eta ∷ ls)) (append_assoc (block_lines 1 parts) (value_line value ∷ []) (bound_lines cuts tree));
    }

-- a model without feasible points
pub infeasible_bound : AwaitsBound Verdict.Infeasible start
infeasible_bound = record {
  awaits = record { words_are = refl; more = λ e. absurd (cc) };
  told = refl;
  cuts = refl;
  splits = refl;
  leaves = refl;
  ends = λ behind part. part;
  stays = λ behind whole broken. broken whole;
}

pub infeasible_body : (cuts : List Cut) (tree : List TreeNode) (n : ℕ) (r : List ℕ) → ReadsBound cuts tree n r →
    ReadsBody Verdict.Infeasible r (record { verdict = Verdict.Infeasible; parts = None; value = pos 0; ray = []; cuts = cuts; tree = tree })
infeasible_body cuts tree n r bound =
    let rest = bound.reads Verdict.Infeasible start infeasible_bound in
    let shaped : AreCuts cuts × AreNodes tree = bound_shaped Verdict.Infeasible start cuts tree n r bound rest.1 in
    record {
      verdict_is = refl;
      shaped = record { parts = tt; value = refl; ray = refl; cuts = shaped.0; tree = shaped.1 };
      writable = record { blocks = tt; cuts = bound.writable_cuts; nodes = bound.writable_nodes };
      joined = rest.0;
    }

-- the lines of an unbounded model

pub unbounded_master : Awaits Verdict.Unbounded start (Word.Master ∷ [])
unbounded_master = record { words_are = refl; more = λ e. absurd (cc) }

pub unbounded_blocks : (den : ℤ) (x : List ℤ) → AwaitsBlocks Verdict.Unbounded (advance_all start (first_of_point den x ∷ [])) Word.Ray
unbounded_blocks den x = record {
  awaits = record { words_are = refl; more = λ e. absurd (cc) };
  more = refl;
  none = refl;
  fine = value_fine Verdict.Unbounded Word.Ray (λ before t. t);
}

abbrev pub unbounded_lines : ℤ → List ℤ → List BlockPart → List ℤ → List CertLine
unbounded_lines den x parts ray = first_of_point den x ∷ (block_lines 1 parts ++ line_with Word.Ray ray ∷ [])

pub ray_read : (den : ℤ) (x : List ℤ) (parts : List BlockPart) (ray : List ℤ) (n : ℕ) (r : List ℕ) (n1 : ℕ) (r1 : List ℕ) (n2 : ℕ) (r2 : List ℕ) →
    ReadsLine n r (first_of_point den x) n1 r1 → ReadsBlocksTo (line_with Word.Ray ray) parts n1 r1 n2 r2 →
    Reads Verdict.Unbounded start (unbounded_lines den x parts ray) n r n2 r2
ray_read den x parts ray n r n1 r1 n2 r2 h b =
    reads_on Verdict.Unbounded start (first_of_point den x ∷ []) (block_lines 1 parts ++ line_with Word.Ray ray ∷ []) n r n1 r1 n2 r2
    (point_read Verdict.Unbounded den x n r n1 r1 unbounded_master h) (b.reads Verdict.Unbounded _ (unbounded_blocks den x))

pub unbounded_end : (den : ℤ) (x : List ℤ) (parts : List BlockPart) (ray : List ℤ) →
    Awaits Verdict.Unbounded (advance_all start (unbounded_lines den x parts ray)) (Word.End ∷ [])
unbounded_end den x parts ray =
    one_more (λ s. Awaits Verdict.Unbounded s (Word.End ∷ [])) (advance start (first_of_point den x)) (block_lines 1 parts) (line_with Word.Ray ray)
    (record { words_are = refl; more = λ e. absurd (cc) })

-- behind a direction, no other word may come
pub no_other : (before : Standing) (word : Word) → IsIn (Word.End ∷ []) word → word ≢ Word.End → BreaksTree Verdict.Unbounded before word
no_other before word (inl same) other = absurd (other same)
no_other before word (inr none) other = absurd none

pub end_of_ray : (den : ℤ) (x : List ℤ) (parts : List BlockPart) (ray : List ℤ) (n : ℕ) (r : List ℕ) (n1 : ℕ) (r1 : List ℕ) (n2 : ℕ) (r2 : List ℕ) (n3 : ℕ) (r3 : List ℕ) →
    ReadsLine n r (first_of_point den x) n1 r1 → ReadsBlocksTo (line_with Word.Ray ray) parts n1 r1 n2 r2 → ReadsLine n2 r2 (line_with Word.End []) n3 r3 →
    Reads Verdict.Unbounded start (unbounded_lines den x parts ray ++ line_with Word.End [] ∷ []) n r n3 r3
end_of_ray den x parts ray n r n1 r1 n2 r2 n3 r3 h b line =
    reads_on Verdict.Unbounded start (unbounded_lines den x parts ray) (line_with Word.End [] ∷ []) n r n2 r2 n3 r3 (ray_read den x parts ray n r n1 r1 n2 r2 h b)
    (reads_line Verdict.Unbounded _ (line_with Word.End []) n2 r2 n3 r3 line
    (passes Verdict.Unbounded (advance_all start (unbounded_lines den x parts ray)) (Word.End ∷ []) r2 Word.End [] (10 ∷ r3) (unbounded_end den x parts ray) (inl refl)
    line.begins (λ t. t) (λ t. t) refl tt))

pub ray_ends : (den : ℤ) (x : List ℤ) (parts : List BlockPart) (ray : List ℤ) →
    (advance_all start (unbounded_lines den x parts ray ++ line_with Word.End [] ∷ [])).last ≡ Some Word.End
ray_ends den x parts ray = one_more (λ s. s.last ≡ Some Word.End) start (unbounded_lines den x parts ray) (line_with Word.End []) refl

pub unbounded_body : (master : Master) (parts : List BlockPart) (ray : List ℤ) (n : ℕ) (r : List ℕ) (n1 : ℕ) (r1 : List ℕ) (n2 : ℕ) (r2 : List ℕ) (n3 : ℕ) (r3 : List ℕ) →
    ReadsLine n r (first_of_point master.den master.x) n1 r1 → ReadsBlocksTo (line_with Word.Ray ray) parts n1 r1 n2 r2 → ReadsLine n2 r2 (line_with Word.End []) n3 r3 →
    r3 ≡ [] → master.eta ≡ [] → ReadsBody Verdict.Unbounded r (record {
      verdict = Verdict.Unbounded;
      parts = Some (record { master = master; blocks = parts });
      value = pos 0;
      ray = ray;
      cuts = [];
      tree = [];
    })
unbounded_body master parts ray n r n1 r1 n2 r2 n3 r3 h b line none no_etas =
    let all : Reads Verdict.Unbounded start (unbounded_lines master.den master.x parts ray ++ line_with Word.End [] ∷ []) n r n3 r3 =
    end_of_ray master.den master.x parts ray n r n1 r1 n2 r2 n3 r3 h b line in
    let front = pass_apart Verdict.Unbounded start (unbounded_lines master.den master.x parts ray) (line_with Word.End [] ∷ []) all.pass in
    let blocks = pass_apart Verdict.Unbounded (advance start (first_of_point master.den master.x)) (block_lines 1 parts) (line_with Word.Ray ray ∷ []) front.0.1 in
    record {
      verdict_is = refl;
      shaped = record {
        parts = no_etas;
        value = refl;
        ray = blocks.1.0.narrow;
        cuts = refl;
        tree = refl;
      };
      writable = record { blocks = b.few; cuts = tt; nodes = tt };
      joined = all.joined ∙ ap (λ t. laid_out (unbounded_lines master.den master.x parts ray ++ line_with Word.End [] ∷ []) ++ t) none ∙ append-nil _
          ∙ ap (λ ls. laid_out (first_of_point master.den master.x ∷ ls)) (append_assoc (block_lines 1 parts) (line_with Word.Ray ray ∷ []) (line_with Word.End [] ∷ []));
    }
