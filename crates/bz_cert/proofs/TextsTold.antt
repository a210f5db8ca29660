-- Each text is that of a certificate, or it has a fault.
use Rattle.std.proofs.Common.{◌≡◌, ◌∷◌, ◌++◌, ◌∙◌, [], ℕ, suc, ◌+◌, ◌<◌, ◌≤◌, ◌^◌, ◌⊎◌, inl, inr, ℤ, pos, List, Some, None, length, map, ap, sym, refl, subst, arith, append-nil, append_assoc}
use Rattle.std.specs.List.{AllByRecursion, flat_map}
use Rattle.std.proofs.lemmas.Bool.{cases_eq, cases_lt}
use Rattle.std.specs.Int.RustNames.{unsigned_abs}
use Rattle.bz_algebra.specs.Numbers.{IsNarrow}
use Rattle.bz_model.specs.declared.BlockPart.{BlockPart}
use Rattle.bz_cut.specs.declared.Cut.{Cut}
use Rattle.bz_tree.specs.declared.TreeNode.{TreeNode}
use Rattle.bz_tree.specs.Trees.{IsTreeOf, Tree, preorder}
use Rattle.bz_cert.specs.declared.faults.CertKind.{CertKind}
use Rattle.bz_cert.specs.declared.records.Certificate.{Certificate}
use Rattle.bz_cert.specs.declared.records.Verdict.{Verdict}
use Rattle.bz_cert.specs.declared.records.Verdict.TheVariants.{Optimal, Infeasible, Unbounded}
use Rattle.bz_cert.specs.declared.words.Word.{Word}
use Rattle.bz_cert.specs.Shapes.{AreCuts, AreNodes, IsShaped}
use Rattle.bz_cert.specs.CertText.{CertLine, IsCertText, IsWritable, IsWritableCut, IsWritableNode, block_lines, bound_lines, cert_lines, cut_line, first_line, head_bytes, laid_out, line_with, node_line, verdict_line}
use Rattle.bz_cert.specs.CertFaults.{BeginsWith, BeginsWithLine, IsCertFault, IsIn, IsIndex, Passes, Standing, number_at, words_of_block}
use Rattle.bz_cert.specs.CertPhases.{start}
use Rattle.bz_cert.specs.CertReading.{PassFrom, advance, advance_all}
use Rattle.bz_cert.proofs.Bodies.{first_of_point}
use Rattle.bz_first.proofs.Deciding.{Told}
use Rattle.bz_cert.proofs.Decisions.{bytes_told}
use Rattle.bz_cert.proofs.LineOutcomes.{CutAt, RestTold, begins_with_front, cut_at, rest_told}
use Rattle.bz_cert.proofs.PassingLines.{CutsOf, EndsWhole, PassBehind, behind_as, cuts_of, known, no_number, not_last, nothing_left, possible_word}
use Rattle.bz_cert.proofs.Standings.{fails_behind_head}
use Rattle.bz_cert.proofs.TextFaults.{head_apart}
use Rattle.bz_cert.proofs.TextsOnce.{from_line, verdict_from}
use Rattle.bz_cert.proofs.TextsPass.{BeforeBlocks, BeforeBound, behind_block, behind_count}

-- the cuts and the tree of lines
record BoundOf (ls : List CertLine) : Type 0 where
  pub cuts : List Cut
  pub tree : List TreeNode
  pub lines_are : ls ≡ bound_lines cuts tree
  pub are_cuts : AreCuts cuts
  pub are_nodes : AreNodes tree
  pub writable_cuts : AllByRecursion IsWritableCut cuts
  pub writable_nodes : AllByRecursion IsWritableNode tree

one_tree : (nodes : List TreeNode) (trees : List Tree) → length trees ≡ 1 → nodes ≡ flat_map preorder trees → (tree : Tree) × IsTreeOf nodes tree
one_tree nodes [] many are = absurd (omega (arith, many))
one_tree nodes (t ∷ []) many are = (t, are ∙ append-nil (preorder t))
one_tree nodes (t ∷ u ∷ ts) many are = absurd (omega (arith, many))

behind_the_count : (count : ℕ) (ls : List CertLine) → count ≤ 65535 → CutsOf ls count → BoundOf (line_with Word.Cuts (pos count ∷ []) ∷ ls)
behind_the_count count ls few h =
    let tree : (tree : Tree) × IsTreeOf h.nodes.nodes tree = one_tree h.nodes.nodes h.nodes.trees h.nodes.many h.nodes.are_trees in
    record {
      cuts = h.cuts;
      tree = h.nodes.nodes;
      lines_are = ap (λ n. line_with Word.Cuts (pos n ∷ []) ∷ ls) (sym h.many)
          ∙ ap (λ ms. line_with Word.Cuts (pos (length h.cuts) ∷ []) ∷ ms)
          (h.lines_are ∙ ap (λ ms. map cut_line h.cuts ++ ms) h.nodes.lines_are
          ∙ sym (append_assoc (map cut_line h.cuts) (map node_line h.nodes.nodes) (line_with Word.End [] ∷ [])));
      are_cuts = omega (arith, few, h.many);
      are_nodes = record { few = omega (arith, h.nodes.few); narrow = h.nodes.narrow; tree = tree.0; is_tree = tree.1 };
      writable_cuts = h.writable;
      writable_nodes = h.nodes.writable;
    }

count_here : (verdict : Verdict) (before : Standing) (numbers : List ℤ) (ls : List CertLine) → EndsWhole verdict → BeforeBound verdict before →
    PassBehind verdict before (line_with Word.Cuts numbers) ls → BoundOf (line_with Word.Cuts numbers ∷ ls)
count_here verdict before [] ls ends h p = absurd (omega (arith, p.first.enough))
count_here verdict before (a ∷ []) ls ends h p =
    let index : IsIndex a = p.first.indexes.0 in
    let same : line_with Word.Cuts (a ∷ []) ≡ line_with Word.Cuts (pos index.0 ∷ []) = ap (λ z. line_with Word.Cuts (z ∷ [])) index.1 in
    let q : PassBehind verdict before (line_with Word.Cuts (pos index.0 ∷ [])) ls = behind_as verdict before _ _ ls same p in
    subst (λ (l : CertLine). BoundOf (l ∷ ls)) (sym same)
    (behind_the_count index.0 ls (at_most index.0 q.first.few) (cuts_of verdict index.0 ls ends _ (behind_count verdict before index.0 h) q.later q.ends))
  where
    at_most : (n : ℕ) → (65535 < n → ⊥) → n ≤ 65535
    at_most n few = elim (cases_lt 65535 n) [ inl l ↦ absurd (few l) | inr g ↦ g ]
count_here verdict before (a ∷ b ∷ ns) ls ends h p = absurd (omega (arith, p.first.enough))

count_or_none : (verdict : Verdict) (before : Standing) (line : CertLine) (ls : List CertLine) → EndsWhole verdict → BeforeBound verdict before →
    PassBehind verdict before line ls → IsIn (Word.Cuts ∷ []) line.word → BoundOf (line ∷ ls)
count_or_none verdict before line ls ends h p (inl e) =
    subst (λ (l : CertLine). BoundOf (l ∷ ls)) (sym (known line Word.Cuts e))
    (count_here verdict before line.numbers ls ends h (behind_as verdict before _ _ ls (known line Word.Cuts e) p))
count_or_none verdict before line ls ends h p (inr none) = absurd none

bound_of : (verdict : Verdict) (before : Standing) (ls : List CertLine) → EndsWhole verdict → BeforeBound verdict before → PassFrom verdict before ls →
    (advance_all before ls).last ≡ Some Word.End → BoundOf ls
bound_of verdict before [] ends h pass last = absurd (not_last verdict before _ _ (h.words_are _) last)
bound_of verdict before (line ∷ ls) ends h pass last =
    count_or_none verdict before line ls ends h (record { first = pass.0; later = pass.1; ends = last })
    (possible_word verdict before (Word.Cuts ∷ []) line (h.words_are _) pass.0)

-- the blocks of lines, and the line behind them
record BlocksOf (verdict : Verdict) (last : Word) (ls : List CertLine) (first : ℕ) : Type 0 where
  pub blocks : List BlockPart
  pub numbers : List ℤ
  pub rest : List CertLine
  pub lines_are : ls ≡ block_lines (suc first) blocks ++ line_with last numbers ∷ rest
  pub few : first + length blocks < 2 ^ 32
  pub before : Standing
  pub count : ℕ
  pub told : BeforeBlocks verdict before last count
  pub behind : PassBehind verdict before (line_with last numbers) rest

abbrev BlocksFrom : Verdict → Word → List CertLine → Type 0
BlocksFrom verdict last ls =
    (before : Standing) (first : ℕ) → BeforeBlocks verdict before last first → first < 2 ^ 32 → PassFrom verdict before ls →
    (advance_all before ls).last ≡ Some Word.End → BlocksOf verdict last ls first

behind_a_block : (verdict : Verdict) (last : Word) (before : Standing) (first : ℕ) (block : BlockPart) (ls : List CertLine) → words_of_block verdict ≡ Word.Block ∷ last ∷ [] →
    BeforeBlocks verdict before last first → suc first < 2 ^ 32 → PassBehind verdict before (line_with Word.Block (pos (suc first) ∷ block.times ∷ block.y)) ls →
    BlocksFrom verdict last ls → BlocksOf verdict last (line_with Word.Block (pos (suc first) ∷ block.times ∷ block.y) ∷ ls) first
behind_a_block verdict last before first block ls words h small p later =
    let rest : BlocksOf verdict last ls (suc first) =
    later (advance before (line_with Word.Block (pos (suc first) ∷ block.times ∷ block.y))) (suc first) (behind_block verdict before last first block words h) small p.later p.ends in
    let next : suc (suc first) ≡ suc first + 1 = omega arith in
    record {
      blocks = block ∷ rest.blocks;
      numbers = rest.numbers;
      rest = rest.rest;
      lines_are = ap (λ ms. line_with Word.Block (pos (suc first) ∷ block.times ∷ block.y) ∷ ms)
          (rest.lines_are ∙ ap (λ n. block_lines n rest.blocks ++ line_with last rest.numbers ∷ rest.rest) next);
      few = omega (arith, rest.few);
      before = rest.before;
      count = rest.count;
      told = rest.told;
      behind = rest.behind;
    }

block_here : (verdict : Verdict) (last : Word) (before : Standing) (first : ℕ) (numbers : List ℤ) (ls : List CertLine) → words_of_block verdict ≡ Word.Block ∷ last ∷ [] →
    BeforeBlocks verdict before last first → PassBehind verdict before (line_with Word.Block numbers) ls → BlocksFrom verdict last ls →
    BlocksOf verdict last (line_with Word.Block numbers ∷ ls) first
block_here verdict last before first [] ls words h p later = absurd (omega (arith, p.first.enough))
block_here verdict last before first (a ∷ []) ls words h p later = absurd (omega (arith, p.first.enough))
block_here verdict last before first (a ∷ t ∷ y) ls words h p later =
    let index : IsIndex a = p.first.indexes.0 in
    let order : number_at 0 (a ∷ t ∷ y) ≡ suc before.blocks = p.first.in_order in
    let number : index.0 ≡ suc first = ap unsigned_abs (sym index.1) ∙ order ∙ ap suc h.blocks_are in
    let same : line_with Word.Block (a ∷ t ∷ y) ≡ line_with Word.Block (pos (suc first) ∷ t ∷ y) =
    ap (λ z. line_with Word.Block (z ∷ t ∷ y)) (index.1 ∙ ap pos number) in
    subst (λ (l : CertLine). BlocksOf verdict last (l ∷ ls) first) (sym same)
    (behind_a_block verdict last before first (record { times = t; y = y; times_narrow = p.first.narrow.1.0; y_narrow = p.first.narrow.1.1 }) ls words h (subst (λ (n : ℕ). n < 2 ^ 32) number index.2)
    (behind_as verdict before _ _ ls same p) later)

block_or_last : (verdict : Verdict) (last : Word) (before : Standing) (first : ℕ) (line : CertLine) (ls : List CertLine) → words_of_block verdict ≡ Word.Block ∷ last ∷ [] →
    BeforeBlocks verdict before last first → first < 2 ^ 32 → PassBehind verdict before line ls → IsIn (Word.Block ∷ last ∷ []) line.word → BlocksFrom verdict last ls →
    BlocksOf verdict last (line ∷ ls) first
block_or_last verdict last before first line ls words h few p (inl e) later =
    subst (λ (l : CertLine). BlocksOf verdict last (l ∷ ls) first) (sym (known line Word.Block e))
    (block_here verdict last before first line.numbers ls words h (behind_as verdict before _ _ ls (known line Word.Block e) p) later)
block_or_last verdict last before first line ls words h few p (inr (inl e)) later =
    record {
      blocks = [];
      numbers = line.numbers;
      rest = ls;
      lines_are = ap (λ l. l ∷ ls) (known line last e);
      few = omega (arith, few);
      before = before;
      count = first;
      told = h;
      behind = behind_as verdict before _ _ ls (known line last e) p;
    }
block_or_last verdict last before first line ls words h few p (inr (inr none)) later = absurd none

blocks_of : (verdict : Verdict) (last : Word) (ls : List CertLine) → words_of_block verdict ≡ Word.Block ∷ last ∷ [] → BlocksFrom verdict last ls
blocks_of verdict last [] words before first h few pass ends = absurd (not_last verdict before _ _ (h.words_are _) ends)
blocks_of verdict last (line ∷ ls) words before first h few pass ends =
    block_or_last verdict last before first line ls words h few (record { first = pass.0; later = pass.1; ends = ends })
    (possible_word verdict before (Word.Block ∷ last ∷ []) line (h.words_are _) pass.0) (blocks_of verdict last ls words)

-- the certificate of lines
record CertOf (verdict : Verdict) (ls : List CertLine) : Type 0 where
  pub certificate : Certificate
  pub verdict_is : certificate.verdict ≡ verdict
  pub lines_are : ls ≡ cert_lines certificate
  pub shaped : IsShaped certificate
  pub writable : IsWritable certificate

whole_at_end : EndsWhole Optimal
whole_at_end before fine =
    elim (cases_eq before.leaves (suc before.splits)) [ inl e ↦ e | inr n ↦ absurd (fine n) ]

whole_without_point : EndsWhole Infeasible
whole_without_point before fine =
    elim (cases_eq before.leaves (suc before.splits)) [ inl e ↦ e | inr n ↦ absurd (fine n) ]

infeasible_of : (ls : List CertLine) → PassFrom Infeasible start ls → (advance_all start ls).last ≡ Some Word.End → CertOf Infeasible ls
infeasible_of ls pass last =
    let bound : BoundOf ls =
    bound_of Infeasible start ls whole_without_point (record { words_are = λ to_come. refl; told = refl; cuts = refl; splits = refl; leaves = refl }) pass last in
    record {
      certificate = record { verdict = Infeasible; parts = None; value = pos 0; ray = []; cuts = bound.cuts; tree = bound.tree };
      verdict_is = refl;
      lines_are = bound.lines_are;
      shaped = record { parts = tt; value = refl; ray = refl; cuts = bound.are_cuts; tree = bound.are_nodes };
      writable = record { blocks = tt; cuts = bound.writable_cuts; nodes = bound.writable_nodes };
    }

one_number : (numbers : List ℤ) → length numbers ≡ 1 → (n : ℤ) × (numbers ≡ n ∷ [])
one_number [] e = absurd (omega (arith, e))
one_number (n ∷ []) e = (n, refl)
one_number (n ∷ m ∷ ns) e = absurd (omega (arith, e))

some_numbers : (numbers : List ℤ) → 1 ≤ length numbers → (n : ℤ) × (ns : List ℤ) × (numbers ≡ n ∷ ns)
some_numbers [] l = absurd (omega (arith, l))
some_numbers (n ∷ ns) l = (n, ns, refl)

optimum_of : (den : ℤ) (x eta : List ℤ) (ls : List CertLine) → Passes Optimal start (first_of_point den x) → AllByRecursion IsNarrow eta →
    (b : BlocksOf Optimal Word.Value ls 0) (value : ℤ) → b.numbers ≡ value ∷ [] → IsNarrow value → BoundOf b.rest →
    CertOf Optimal (first_of_point den x ∷ line_with Word.Eta eta ∷ ls)
optimum_of den x eta ls point narrow b value alone value_narrow bound = record {
  certificate = record {
    verdict = Optimal;
    parts = Some (record {
      master = record { den = den; x = x; eta = eta; den_narrow = point.narrow.0; x_narrow = point.narrow.1; eta_narrow = narrow };
      blocks = b.blocks;
    });
    value = value;
    ray = [];
    cuts = bound.cuts;
    tree = bound.tree;
  };
  verdict_is = refl;
  lines_are = ap (λ ms. first_of_point den x ∷ line_with Word.Eta eta ∷ ms)
      (b.lines_are ∙ ap (λ ns. block_lines 1 b.blocks ++ line_with Word.Value ns ∷ b.rest) alone
      ∙ ap (λ ms. block_lines 1 b.blocks ++ line_with Word.Value (value ∷ []) ∷ ms) bound.lines_are);
  shaped = record {
    parts = tt;
    value = value_narrow;
    ray = refl;
    cuts = bound.are_cuts;
    tree = bound.are_nodes;
  };
  writable = record { blocks = omega (arith, b.few); cuts = bound.writable_cuts; nodes = bound.writable_nodes };
}

behind_value : (den : ℤ) (x eta : List ℤ) (ls : List CertLine) → Passes Optimal start (first_of_point den x) → AllByRecursion IsNarrow eta →
    (b : BlocksOf Optimal Word.Value ls 0) (value : ℤ) → b.numbers ≡ value ∷ [] → CertOf Optimal (first_of_point den x ∷ line_with Word.Eta eta ∷ ls)
behind_value den x eta ls point narrow b value alone =
    let q : PassBehind Optimal b.before (line_with Word.Value (value ∷ [])) b.rest = behind_as Optimal b.before _ _ b.rest (ap (line_with Word.Value) alone) b.behind in
    optimum_of den x eta ls point narrow b value alone q.first.narrow.0
    (bound_of Optimal (advance b.before (line_with Word.Value (value ∷ []))) b.rest whole_at_end
    (record {
      words_are = λ to_come. refl;
      told = omega (arith, b.told.told);
      cuts = omega (arith, b.told.cuts);
      splits = omega (arith, b.told.splits);
      leaves = omega (arith, b.told.leaves);
    }) q.later q.ends)

behind_eta : (den : ℤ) (x eta : List ℤ) (ls : List CertLine) → Passes Optimal start (first_of_point den x) →
    PassBehind Optimal (advance start (first_of_point den x)) (line_with Word.Eta eta) ls → CertOf Optimal (first_of_point den x ∷ line_with Word.Eta eta ∷ ls)
behind_eta den x eta ls point p =
    let b : BlocksOf Optimal Word.Value ls 0 =
    blocks_of Optimal Word.Value ls refl (advance (advance start (first_of_point den x)) (line_with Word.Eta eta)) 0
    (record { words_are = λ to_come. refl; blocks_are = refl; told = refl; cuts = refl; splits = refl; leaves = refl }) (omega arith) p.later p.ends in
    let value : (n : ℤ) × (b.numbers ≡ n ∷ []) = one_number b.numbers b.behind.first.enough in
    behind_value den x eta ls point p.first.narrow b value.0 value.1

eta_or_none : (den : ℤ) (x : List ℤ) (line : CertLine) (ls : List CertLine) → Passes Optimal start (first_of_point den x) →
    PassBehind Optimal (advance start (first_of_point den x)) line ls → IsIn (Word.Eta ∷ []) line.word → CertOf Optimal (first_of_point den x ∷ line ∷ ls)
eta_or_none den x line ls point p (inl e) =
    subst (λ (l : CertLine). CertOf Optimal (first_of_point den x ∷ l ∷ ls)) (sym (known line Word.Eta e))
    (behind_eta den x line.numbers ls point (behind_as Optimal _ _ _ ls (known line Word.Eta e) p))
eta_or_none den x line ls point p (inr none) = absurd none

optimum_behind : (den : ℤ) (x : List ℤ) (ls : List CertLine) → PassBehind Optimal start (first_of_point den x) ls → CertOf Optimal (first_of_point den x ∷ ls)
optimum_behind den x [] p = let e : Some Word.Master ≡ Some Word.End = p.ends in absurd (cc)
optimum_behind den x (line ∷ ls) p =
    eta_or_none den x line ls p.first (record { first = p.later.0; later = p.later.1; ends = p.ends })
    (possible_word Optimal (advance start (first_of_point den x)) (Word.Eta ∷ []) line refl p.later.0)

ray_end : (numbers : List ℤ) (ls : List CertLine) (before : Standing) → PassFrom Unbounded (advance before (line_with Word.Ray numbers)) ls →
    (advance_all (advance before (line_with Word.Ray numbers)) ls).last ≡ Some Word.End → ls ≡ line_with Word.End [] ∷ []
ray_end numbers [] before pass last = let e : Some Word.Ray ≡ Some Word.End = last in absurd (cc)
ray_end numbers (line ∷ ls) before pass last =
    by (possible_word Unbounded (advance before (line_with Word.Ray numbers)) (Word.End ∷ []) line refl pass.0)
  where
    here : line.word ≡ Word.End → line ∷ ls ≡ line_with Word.End [] ∷ []
    here e =
        let first : Passes Unbounded (advance before (line_with Word.Ray numbers)) (line_with Word.End line.numbers) =
        subst (Passes Unbounded (advance before (line_with Word.Ray numbers))) (known line Word.End e) pass.0 in
        ap (λ ms. line ∷ ms) (nothing_left Unbounded (advance (advance before (line_with Word.Ray numbers)) line) ls pass.1 (ap Some e))
        ∙ ap (λ l. l ∷ []) (known line Word.End e) ∙ ap (λ ns. line_with Word.End ns ∷ []) (no_number line.numbers first.enough)

    by : IsIn (Word.End ∷ []) line.word → line ∷ ls ≡ line_with Word.End [] ∷ []
    by (inl e) = here e
    by (inr none) = absurd none

unbounded_behind : (den : ℤ) (x : List ℤ) (ls : List CertLine) → PassBehind Unbounded start (first_of_point den x) ls → CertOf Unbounded (first_of_point den x ∷ ls)
unbounded_behind den x ls p =
    let b : BlocksOf Unbounded Word.Ray ls 0 =
    blocks_of Unbounded Word.Ray ls refl (advance start (first_of_point den x)) 0
    (record { words_are = λ to_come. refl; blocks_are = refl; told = refl; cuts = refl; splits = refl; leaves = refl }) (omega arith) p.later p.ends in
    record {
      certificate = record {
        verdict = Unbounded;
        parts = Some (record {
          master = record { den = den; x = x; eta = []; den_narrow = p.first.narrow.0; x_narrow = p.first.narrow.1; eta_narrow = tt };
          blocks = b.blocks;
        });
        value = pos 0;
        ray = b.numbers;
        cuts = [];
        tree = [];
      };
      verdict_is = refl;
      lines_are = ap (λ ms. first_of_point den x ∷ ms)
          (b.lines_are ∙ ap (λ ms. block_lines 1 b.blocks ++ line_with Word.Ray b.numbers ∷ ms) (ray_end b.numbers b.rest b.before b.behind.later b.behind.ends));
      shaped = record {
        parts = refl;
        value = refl;
        ray = b.behind.first.narrow;
        cuts = refl;
        tree = refl;
      };
      writable = record { blocks = omega (arith, b.few); cuts = tt; nodes = tt };
    }

point_of : (verdict : Verdict) → ((den : ℤ) (x : List ℤ) (ls : List CertLine) → PassBehind verdict start (first_of_point den x) ls → CertOf verdict (first_of_point den x ∷ ls)) →
    (line : CertLine) (ls : List CertLine) → PassBehind verdict start line ls → IsIn (Word.Master ∷ []) line.word → CertOf verdict (line ∷ ls)
point_of verdict further line ls p (inl e) =
    let q : PassBehind verdict start (line_with Word.Master line.numbers) ls = behind_as verdict start _ _ ls (known line Word.Master e) p in
    let numbers : (n : ℤ) × (ns : List ℤ) × (line.numbers ≡ n ∷ ns) = some_numbers line.numbers q.first.enough in
    let same : line ≡ first_of_point numbers.0 numbers.1 = known line Word.Master e ∙ ap (line_with Word.Master) numbers.2 in
    subst (λ (l : CertLine). CertOf verdict (l ∷ ls)) (sym same) (further numbers.0 numbers.1 ls (behind_as verdict start _ _ ls same p))
point_of verdict further line ls p (inr none) = absurd none

-- lines that pass, up to the last one, are those of a certificate
cert_of : (verdict : Verdict) (ls : List CertLine) → PassFrom verdict start ls → (advance_all start ls).last ≡ Some Word.End → CertOf verdict ls
cert_of Infeasible ls pass last = infeasible_of ls pass last
cert_of Optimal [] pass last = absurd (cc)
cert_of Unbounded [] pass last = absurd (cc)
cert_of Optimal (line ∷ ls) pass last =
    point_of Optimal optimum_behind line ls (record { first = pass.0; later = pass.1; ends = last }) pass.0.possible
cert_of Unbounded (line ∷ ls) pass last =
    point_of Unbounded unbounded_behind line ls (record { first = pass.0; later = pass.1; ends = last }) pass.0.possible

-- a text is that of a certificate, or it has a fault
abbrev pub TextTold : List ℕ → Type 0
TextTold text = ((c : Certificate) × IsCertText text c) ⊎ ((number : ℕ) × (kind : CertKind) × IsCertFault text number kind)

-- the line is some verdict's
abbrev IsVerdict : List ℕ → Type 0
IsVerdict line = (verdict : Verdict) × (line ≡ verdict_line verdict)

verdict_told : (line : List ℕ) → Told (IsVerdict line)
verdict_told line = by (bytes_told line (verdict_line (verdict_from line)))
  where
    by : Told (line ≡ verdict_line (verdict_from line)) → Told (IsVerdict line)
    by (inl e) = inl (verdict_from line, e)
    by (inr n) = inr (λ h. n (h.1 ∙ ap verdict_line (sym (from_line h.0) ∙ ap verdict_from (sym h.1))))

behind_head : (text rest : List ℕ) (verdict : Verdict) → text ≡ head_bytes verdict ++ rest → RestTold verdict start 2 rest → TextTold text
behind_head text rest verdict joined (inl (ls, e, pass, last)) =
    let h : CertOf verdict ls = cert_of verdict ls pass last in
    inl (
      h.certificate,
      record {
        shaped = h.shaped;
        writable = h.writable;
        text_is = joined ∙ ap (λ r. head_bytes verdict ++ r) (e ∙ ap laid_out h.lines_are)
            ∙ ap (λ v. head_bytes v ++ laid_out (cert_lines h.certificate)) (sym h.verdict_is);
      },
    )
behind_head text rest verdict joined (inr (number, kind, f)) =
    inr (number, kind, fails_behind_head text rest verdict 2 number kind joined refl f)

behind_verdict : (text behind : List ℕ) (verdict : Verdict) → text ≡ first_line ++ 10 ∷ (verdict_line verdict ++ behind) → BeginsWith 10 behind →
    TextTold text
behind_verdict text [] verdict is apart =
    inr (2, CertKind.End, IsCertFault.ends (inr (inr (inr (verdict, is ∙ ap (λ t. first_line ++ 10 ∷ t) (append-nil (verdict_line verdict)), refl)))) refl)
behind_verdict text (b ∷ bs) verdict is apart =
    behind_head text bs verdict (is ∙ ap (λ x. first_line ++ 10 ∷ (verdict_line verdict ++ x ∷ bs)) apart ∙ sym (head_apart verdict bs))
    (rest_told (length bs) verdict start 2 bs (omega arith))

second_line : (text rest : List ℕ) → text ≡ first_line ++ 10 ∷ rest → (c : CutAt 10 rest) → BeginsWithLine rest c.front c.behind → Told (IsVerdict c.front) → TextTold text
second_line text rest is c begins (inl (verdict, e)) =
    behind_verdict text c.behind verdict (is ∙ ap (λ t. first_line ++ 10 ∷ t) (c.joined ∙ ap (λ l. l ++ c.behind) e)) c.apart
second_line text rest is c begins (inr none) =
    inr (2, CertKind.Verdict, IsCertFault.verdict rest c.front c.behind is begins (λ verdict e. none (verdict, e)) refl refl)

behind_first_line : (text behind : List ℕ) → text ≡ first_line ++ behind → BeginsWith 10 behind → TextTold text
behind_first_line text [] is apart = inr (1, CertKind.End, IsCertFault.ends (inr (inl (is ∙ append-nil first_line, refl))) refl)
behind_first_line text (b ∷ []) is apart =
    inr (1, CertKind.End, IsCertFault.ends (inr (inr (inl (is ∙ ap (λ x. first_line ++ x ∷ []) apart, refl)))) refl)
behind_first_line text (b ∷ d ∷ bs) is apart =
    second_line text (d ∷ bs) (is ∙ ap (λ x. first_line ++ x ∷ d ∷ bs) apart) (cut_at 10 (d ∷ bs))
    (begins_with_front (d ∷ bs) (λ e. absurd (cc)) (cut_at 10 (d ∷ bs))) (verdict_told (cut_at 10 (d ∷ bs)).front)

first_line_told : (text : List ℕ) (c : CutAt 10 text) → BeginsWithLine text c.front c.behind → Told (c.front ≡ first_line) → TextTold text
first_line_told text c begins (inl e) = behind_first_line text c.behind (c.joined ∙ ap (λ l. l ++ c.behind) e) c.apart
first_line_told text c begins (inr other) = inr (1, CertKind.Head, IsCertFault.head c.front c.behind begins other refl refl)

-- each text is that of a certificate, or it has a fault
pub text_told : (text : List ℕ) → TextTold text
text_told [] = inr (0, CertKind.End, IsCertFault.ends (inl (refl, refl)) refl)
text_told (b ∷ bs) =
    first_line_told (b ∷ bs) (cut_at 10 (b ∷ bs)) (begins_with_front (b ∷ bs) (λ e. absurd (cc)) (cut_at 10 (b ∷ bs)))
    (bytes_told (cut_at 10 (b ∷ bs)).front first_line)
