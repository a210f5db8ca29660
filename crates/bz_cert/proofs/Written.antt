-- What a writer adds, piece by piece.
use Rattle.std.proofs.Common.{◌≡◌, ◌∷◌, ◌++◌, ◌∙◌, [], ℕ, ◌+◌, ◌<◌, ℤ, pos, List, ap, sym, subst, append_assoc, append-nil, get_or, length, take, arith, ◌^◌, Result, Ok, Err, OnOk}
use Rattle.std.specs.List.{AllByRecursion}
use Rattle.std.proofs.lemmas.Grind.{flat_map-append}
use Rattle.std.proofs.lemmas.List.{length-take-le, take_more}
use Rattle.bz_algebra.specs.Sums.{AllBelow}
use Rattle.bz_model.specs.declared.BlockPart.{BlockPart}
use Rattle.bz_cut.specs.declared.Cut.{Cut}
use Rattle.bz_tree.specs.declared.Leaf.{Leaf}
use Rattle.bz_tree.specs.declared.TreeNode.{TreeNode}
use Rattle.bz_cert.specs.declared.records.Certificate.{Certificate}
use Rattle.bz_cert.specs.declared.words.Word.{Word}
use Rattle.bz_cert.specs.CertText.{CertLine, IsSparseList, IsWritable, IsWritableCut, IsWritableNode, block_lines, cut_line, laid_out, line_bytes, line_with, node_line, sparse_numbers, spelled, word_bytes}
use Rattle.bz_cert.specs.CertWriting.{Adds, AddsNumbers, HasFewItems, HasShortList, HasShortLists, IsIndexed, IsIndexedCut, IsIndexedNode, pair_numbers}
use Rattle.bz_cert.proofs.Phases.{block_lines_push, laid_out_append}
use Rattle.std.specs.Fmt.{signed_decimal}

spelled_append : (ms ns : List ℤ) → spelled (ms ++ ns) ≡ spelled ms ++ spelled ns
spelled_append ms ns = flat_map-append (λ n. 32 ∷ signed_decimal n) ms ns

-- numbers and then further ones
pub numbers_on : (a b d : List ℕ) (ms ns : List ℤ) → AddsNumbers a ms b → AddsNumbers b ns d → AddsNumbers a (ms ++ ns) d
numbers_on a b d ms ns h k =
    k ∙ ap (λ t. t ++ spelled ns) h ∙ append_assoc a (spelled ms) (spelled ns) ∙ ap (λ t. a ++ t) (sym (spelled_append ms ns))

-- lines and then further ones
pub lines_on : (a b d : List ℕ) (ls ms : List CertLine) → Adds a ls b → Adds b ms d → Adds a (ls ++ ms) d
lines_on a b d ls ms h k =
    k ∙ ap (λ t. t ++ laid_out ms) h ∙ append_assoc a (laid_out ls) (laid_out ms) ∙ ap (λ t. a ++ t) (sym (laid_out_append ls ms))

-- a word, its numbers and a line feed are a line
pub line_added : (a b d e : List ℕ) (word : Word) (numbers : List ℤ) → b ≡ a ++ word_bytes word → AddsNumbers b numbers d → e ≡ d ++ 10 ∷ [] →
    Adds a (line_with word numbers ∷ []) e
line_added a b d e word numbers h k feed =
    feed ∙ ap (λ t. t ++ 10 ∷ []) (k ∙ ap (λ t. t ++ spelled numbers) h ∙ append_assoc a (word_bytes word) (spelled numbers))
    ∙ append_assoc a (word_bytes word ++ spelled numbers) (10 ∷ [])
    ∙ ap (λ t. a ++ t) (sym (append-nil (line_bytes (line_with word numbers) ++ 10 ∷ [])))

-- one more pair
pub pairs_on : (a b d : List ℕ) (es : List (ℕ × ℤ)) (i : ℕ) (e : ℕ × ℤ) → i < length es → AddsNumbers a (pair_numbers (take i es)) b →
    AddsNumbers b (pos (get_or es i e).0 ∷ (get_or es i e).1 ∷ []) d → AddsNumbers a (pair_numbers (take (i + 1) es)) d
pairs_on a b d es i e within h k =
    let more : take (i + 1) es ≡ take i es ++ get_or es i e ∷ [] = take_more es i e within in
    subst (λ (ns : List ℤ). AddsNumbers a ns d)
    (sym (ap pair_numbers more ∙ flat_map-append (λ (e : ℕ × ℤ). pos e.0 ∷ e.1 ∷ []) (take i es) (get_or es i e ∷ [])))
    (numbers_on a b d (pair_numbers (take i es)) (pos (get_or es i e).0 ∷ (get_or es i e).1 ∷ []) h k)

below_joined : (n : ℕ) (es fs : List (ℕ × ℤ)) → AllBelow n es → AllBelow n fs → AllBelow n (es ++ fs)
below_joined n [] fs h k = k
below_joined n (e ∷ es) fs h k = (h.0, below_joined n es fs h.1 k)

pub below_on : (n : ℕ) (es : List (ℕ × ℤ)) (i : ℕ) (e : ℕ × ℤ) → i < length es → AllBelow n (take i es) → (get_or es i e).0 < n → AllBelow n (take (i + 1) es)
below_on n es i e within h k =
    subst (AllBelow n) (sym (take_more es i e within)) (below_joined n (take i es) (get_or es i e ∷ []) h (k, tt))

-- what follows from what holds where a call gives no error
pub ok_also : {X E : Type 0} (r : Result X E) (P Q : Type 0) → (P → Q) → OnOk r P → OnOk r Q
ok_also (Ok x) P Q f h = f h
ok_also (Err e) P Q f h = tt

-- the line of a cut
pub cut_added : (a b d e f g : List ℕ) (cut : Cut) → b ≡ a ++ word_bytes Word.Cut →
    AddsNumbers b (pos cut.block ∷ cut.p0 ∷ cut.beta ∷ cut.gcd ∷ []) d → AddsNumbers d (sparse_numbers cut.alpha) e → AddsNumbers e (sparse_numbers cut.mu) f →
    g ≡ f ++ 10 ∷ [] → Adds a (cut_line cut ∷ []) g
cut_added a b d e f g cut h front alpha mu feed =
    line_added a b f g Word.Cut (cut_line cut).numbers h
    (numbers_on b d f (pos cut.block ∷ cut.p0 ∷ cut.beta ∷ cut.gcd ∷ []) (sparse_numbers cut.alpha ++ sparse_numbers cut.mu) front
    (numbers_on d e f (sparse_numbers cut.alpha) (sparse_numbers cut.mu) alpha mu))
    feed

-- the line of a leaf
pub leaf_added : (a b d e f g : List ℕ) (leaf : Leaf) → b ≡ a ++ word_bytes Word.Leaf → AddsNumbers b (leaf.delta ∷ []) d → AddsNumbers d (leaf.bound ∷ []) e →
    AddsNumbers e (sparse_numbers leaf.lambda) f → g ≡ f ++ 10 ∷ [] → Adds a (node_line (TreeNode.Leaf leaf) ∷ []) g
leaf_added a b d e f g leaf h delta bound lambda feed =
    line_added a b f g Word.Leaf (leaf.delta ∷ leaf.bound ∷ sparse_numbers leaf.lambda) h
    (numbers_on b d f (leaf.delta ∷ []) (leaf.bound ∷ sparse_numbers leaf.lambda) delta
    (numbers_on d e f (leaf.bound ∷ []) (sparse_numbers leaf.lambda) bound lambda))
    feed

-- one more block
pub blocks_on : (a b d : List ℕ) (blocks : List BlockPart) (i : ℕ) (other block : BlockPart) → i < length blocks → block ≡ get_or blocks i other →
    Adds a (block_lines 1 (take i blocks)) b → Adds b (line_with Word.Block (pos (i + 1) ∷ block.times ∷ block.y) ∷ []) d →
    Adds a (block_lines 1 (take (i + 1) blocks)) d
blocks_on a b d blocks i other block within is h k =
    let number : i + 1 ≡ length (take i blocks) + 1 = omega (arith, length-take-le i blocks (omega (arith, within))) in
    let more : take (i + 1) blocks ≡ take i blocks ++ block ∷ [] = take_more blocks i other within ∙ ap (λ part. take i blocks ++ part ∷ []) (sym is) in
    subst (λ (ls : List CertLine). Adds a ls d) (sym (ap (block_lines 1) more ∙ block_lines_push (take i blocks) block (i + 1) number))
    (lines_on a b d (block_lines 1 (take i blocks)) _ h k)

-- a list whose indexes are in their range is one of a text, where its count is too
list_writable : (es : List (ℕ × ℤ)) → IsIndexed es → length es < 2 ^ 32 → IsSparseList es
list_writable es h few = record { sparse = h.sparse; indexes = h.indexes; count = few }

cuts_writable : (cuts : List Cut) → AllByRecursion IsIndexedCut cuts → AllByRecursion HasShortLists cuts → AllByRecursion IsWritableCut cuts
cuts_writable [] h few = tt
cuts_writable (cut ∷ cuts) h few = (
  record {
    block = h.0.block;
    alpha = list_writable cut.alpha h.0.alpha few.0.0;
    mu = list_writable cut.mu h.0.mu few.0.1;
  },
  cuts_writable cuts h.1 few.1,
)

nodes_writable : (nodes : List TreeNode) → AllByRecursion IsIndexedNode nodes → AllByRecursion HasShortList nodes → AllByRecursion IsWritableNode nodes
nodes_writable [] h few = tt
nodes_writable (TreeNode.Split position left right ∷ nodes) h few = (h.0, nodes_writable nodes h.1 few.1)
nodes_writable (TreeNode.Leaf leaf ∷ nodes) h few = (list_writable leaf.lambda h.0 few.0, nodes_writable nodes h.1 few.1)

-- a certificate whose indexes are in their range is one of a text, where its counts are too
pub cert_writable : (c : Certificate) → AllByRecursion IsIndexedCut c.cuts → AllByRecursion IsIndexedNode c.tree → HasFewItems c → IsWritable c
cert_writable c cuts nodes few = record {
  blocks = few.blocks;
  cuts = cuts_writable c.cuts cuts few.cuts;
  nodes = nodes_writable c.tree nodes few.nodes;
}
