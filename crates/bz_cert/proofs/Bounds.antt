-- Blocks with the line behind them, and the cuts and the tree up to the end of a text.
use Rattle.std.proofs.Common.{◌≡◌, ◌≢◌, ◌==◌, ◌∷◌, ◌++◌, ◌∙◌, [], ℕ, ◌+◌, add-zero, add-one, ◌≤◌, ℤ, pos, List, Option, Some, false, inl, inr, sym, refl, subst, arith, length, map, take, drop}
use Rattle.std.specs.List.{position_or_len}
use Rattle.std.proofs.lemmas.List.{take-append-drop}
use Rattle.bz_model.specs.declared.BlockPart.{BlockPart}
use Rattle.bz_cut.specs.declared.Cut.{Cut}
use Rattle.bz_tree.specs.declared.TreeNode.{TreeNode}
use Rattle.bz_cert.specs.declared.faults.CertKind.{CertKind}
use Rattle.bz_cert.specs.declared.records.Verdict.{Verdict}
use Rattle.bz_cert.specs.declared.words.Word.{Word}
use Rattle.bz_cert.specs.CertText.{CertLine, block_lines, bound_lines, cut_line, line_with, node_line}
use Rattle.bz_cert.specs.CertFaults.{AreEnough, AreInOrder, BeginsWithLine, BreaksFirst, BreaksTree, FailsAtOnce, IsIn, IsTooMany, IsWhole, Passes, Standing, tests_behind}
use Rattle.bz_cert.specs.CertReading.{Awaits, FailsFrom, NumbersFail, PassFrom, Reads, ReadsLine, advance, advance_all, tree_words}
use Rattle.bz_cert.specs.CertPhases.{AwaitsBlocks, AwaitsBound, AwaitsCuts, AwaitsTree, ReadsBlocks, ReadsCuts, ReadsTree}
use Rattle.bz_cert.proofs.Failing.{few_cuts, lacks_feed, numbers_fail, passes}
use Rattle.bz_cert.proofs.NumberTexts.{begins_there, clear_before}
use Rattle.bz_cert.proofs.Phases.{advance_append, cuts_keep, fails_later, fails_now, reads_line, reads_on}
use Rattle.bz_cert.proofs.SparseLists.{not_empty}
use Rattle.bz_cert.proofs.Steps.{one_more}

-- a text goes on behind its last line
pub goes_on : (verdict : Verdict) (before : Standing) (lines : ℕ) (rest : List ℕ) → (length rest == 0) ≡ false → before.last ≡ Some Word.End →
    FailsAtOnce verdict before lines rest (lines + 1) CertKind.End
goes_on verdict before lines rest some last =
    let place : ℕ = position_or_len (λ b. b == 10) rest in
    let begins : BeginsWithLine rest (take (position_or_len (λ b. b == 10) rest) rest) (drop (position_or_len (λ b. b == 10) rest) rest) = record {
      some = not_empty rest some;
      joined = sym (take-append-drop (position_or_len (λ b. b == 10) rest) rest);
      clear = clear_before 10 rest;
      apart = begins_there 10 rest;
    } in
    FailsAtOnce.breaks _ _ begins
    (subst (λ (w : Option Word). BreaksFirst (tests_behind w verdict before (take (position_or_len (λ b. b == 10) rest) rest)) CertKind.End) (sym last) (inl (tt, refl)))
    (add-one lines)

-- the line behind blocks passes
last_passes : (last : Word) (parts : List BlockPart) (n : ℕ) (r : List ℕ) (n1 : ℕ) (r1 : List ℕ) (numbers : List ℤ) (from_feed : List ℕ) →
    ReadsBlocks last parts n r n1 r1 numbers from_feed → ((b : Standing) → IsTooMany b last numbers → ⊥) → AreEnough last numbers →
    ((b : Standing) → AreInOrder b last numbers) → (verdict : Verdict) (before : Standing) → AwaitsBlocks verdict before last →
    Passes verdict (advance_all before (block_lines 1 parts)) (line_with last numbers)
last_passes last parts n r n1 r1 numbers from_feed h few enough order verdict before a =
    passes verdict (advance_all before (block_lines 1 parts)) (Word.Block ∷ last ∷ []) r1 last numbers from_feed (h.reads verdict before a).1 (inr (inl refl))
    h.last_line (a.fine (advance_all before (block_lines 1 parts)) last (inr (inl refl))) (few (advance_all before (block_lines 1 parts))) enough
    (order (advance_all before (block_lines 1 parts)))

-- blocks and the line behind them
pub blocks_to : (last : Word) (parts : List BlockPart) (n : ℕ) (r : List ℕ) (n1 : ℕ) (r1 : List ℕ) (numbers : List ℤ) (from_feed : List ℕ) (n2 : ℕ) (r2 : List ℕ) →
    ReadsBlocks last parts n r n1 r1 numbers from_feed → from_feed ≡ 10 ∷ r2 → n2 ≡ n1 + 1 → ((b : Standing) → IsTooMany b last numbers → ⊥) →
    AreEnough last numbers → ((b : Standing) → AreInOrder b last numbers) → (verdict : Verdict) (before : Standing) → AwaitsBlocks verdict before last →
    Reads verdict before (block_lines 1 parts ++ line_with last numbers ∷ []) n r n2 r2
blocks_to last parts n r n1 r1 numbers from_feed n2 r2 h feed count few enough order verdict before a =
    let line : ReadsLine n1 r1 (line_with last numbers) n2 r2 =
    record { begins = subst (λ (f : List ℕ). Rattle.bz_cert.specs.CertReading.BeginsWithCertLine r1 (line_with last numbers) f) feed h.last_line; count = count } in
    reads_on verdict before (block_lines 1 parts) (line_with last numbers ∷ []) n r n1 r1 n2 r2 (h.reads verdict before a).0
    (reads_line verdict _ (line_with last numbers) n1 r1 n2 r2 line
    (last_passes last parts n r n1 r1 numbers from_feed h few enough order verdict before a))

-- the line behind blocks lacks its line feed
pub blocks_open : (last : Word) (parts : List BlockPart) (n : ℕ) (r : List ℕ) (n1 : ℕ) (r1 : List ℕ) (numbers : List ℤ) (from_feed : List ℕ) →
    ReadsBlocks last parts n r n1 r1 numbers from_feed → from_feed ≡ [] → ((b : Standing) → IsTooMany b last numbers → ⊥) → AreEnough last numbers →
    ((b : Standing) → AreInOrder b last numbers) → (verdict : Verdict) (before : Standing) → AwaitsBlocks verdict before last →
    FailsFrom verdict before n r (n1 + 1) CertKind.End
blocks_open last parts n r n1 r1 numbers from_feed h none few enough order verdict before a =
    fails_later verdict before (block_lines 1 parts) n r n1 r1 (n1 + 1) CertKind.End (h.reads verdict before a).0
    (fails_now verdict _ n1 r1 (n1 + 1) CertKind.End
    (lacks_feed verdict _ n1 r1 (line_with last numbers) from_feed h.last_line
    (last_passes last parts n r n1 r1 numbers from_feed h few enough order verdict before a) none))

-- the numbers of the line behind blocks fail
pub blocks_numbers_fail : (last : Word) (parts : List BlockPart) (n : ℕ) (r : List ℕ) (n1 : ℕ) (r1 : List ℕ) (numbers slice : List ℤ) (from_feed : List ℕ)
    (number : ℕ) (kind : CertKind) → ReadsBlocks last parts n r n1 r1 numbers from_feed → slice ≡ numbers →
    ((b : Standing) → NumbersFail (n1 + 1) b last slice number kind) → (verdict : Verdict) (before : Standing) → AwaitsBlocks verdict before last →
    FailsFrom verdict before n r number kind
blocks_numbers_fail last parts n r n1 r1 numbers slice from_feed number kind h same fail verdict before a =
    fails_later verdict before (block_lines 1 parts) n r n1 r1 number kind (h.reads verdict before a).0
    (fails_now verdict (advance_all before (block_lines 1 parts)) n1 r1 number kind
    (numbers_fail verdict (advance_all before (block_lines 1 parts)) (Word.Block ∷ last ∷ []) n1 r1 last numbers from_feed number kind
    (h.reads verdict before a).1 (inr (inl refl)) h.last_line (a.fine (advance_all before (block_lines 1 parts)) last (inr (inl refl)))
    (subst (λ (ns : List ℤ). NumbersFail (n1 + 1) (advance_all before (block_lines 1 parts)) last ns number kind) same
    (fail (advance_all before (block_lines 1 parts))))))

-- the line of the number of cuts
abbrev pub count_line : ℕ → CertLine
count_line count = line_with Word.Cuts (pos count ∷ [])

-- the number of cuts breaks no tree
pub count_fine : (verdict : Verdict) (before : Standing) (word : Word) → IsIn (Word.Cuts ∷ []) word → BreaksTree verdict before word → ⊥
count_fine verdict before word (inl same) broken = subst (BreaksTree verdict before) same broken
count_fine verdict before word (inr none) broken = none

pub count_read : (verdict : Verdict) (before : Standing) (count n : ℕ) (r : List ℕ) (n1 : ℕ) (r1 : List ℕ) → AwaitsBound verdict before →
    ReadsLine n r (count_line count) n1 r1 → count ≤ 65535 → Reads verdict before (count_line count ∷ []) n r n1 r1
count_read verdict before count n r n1 r1 a line few =
    reads_line verdict before (count_line count) n r n1 r1 line
    (passes verdict before (Word.Cuts ∷ []) r Word.Cuts (pos count ∷ []) (10 ∷ r1) a.awaits (inl refl) line.begins (λ t. t)
    (few_cuts (pos count ∷ []) count refl few) refl tt)

pub awaits_cuts : (verdict : Verdict) (before : Standing) (count : ℕ) → AwaitsBound verdict before → AwaitsCuts verdict (advance before (count_line count)) count
awaits_cuts verdict before count a = record {
  words_are = λ to_come. refl;
  more = λ e. absurd (cc);
  told = omega (arith, a.told);
  none = omega (arith, a.cuts);
}

pub cuts_read : (verdict : Verdict) (before : Standing) (count : ℕ) (cuts : List Cut) (n : ℕ) (r : List ℕ) (n1 : ℕ) (r1 : List ℕ) (n2 : ℕ) (r2 : List ℕ) →
    AwaitsBound verdict before → Reads verdict before (count_line count ∷ []) n r n1 r1 → ReadsCuts count cuts n1 r1 n2 r2 →
    Reads verdict before (count_line count ∷ map cut_line cuts) n r n2 r2
cuts_read verdict before count cuts n r n1 r1 n2 r2 a h k =
    reads_on verdict before (count_line count ∷ []) (map cut_line cuts) n r n1 r1 n2 r2 h (k.reads verdict _ (awaits_cuts verdict before count a)).0

pub awaits_first_node : (verdict : Verdict) (before : Standing) (count : ℕ) (cuts : List Cut) (n1 : ℕ) (r1 : List ℕ) (n2 : ℕ) (r2 : List ℕ) →
    AwaitsBound verdict before → ReadsCuts count cuts n1 r1 n2 r2 → AwaitsTree verdict (advance_all before (count_line count ∷ map cut_line cuts))
awaits_first_node verdict before count cuts n1 r1 n2 r2 a k =
    let keep = cuts_keep cuts (advance before (count_line count)) in
    record {
      awaits = (k.reads verdict _ (awaits_cuts verdict before count a)).1;
      splits = keep.0 ∙ add-zero before.splits ∙ a.splits;
      leaves = keep.1 ∙ add-zero before.leaves ∙ a.leaves;
      ends = a.ends;
    }

pub tree_read : (verdict : Verdict) (before : Standing) (count : ℕ) (cuts : List Cut) (tree : List TreeNode) (n : ℕ) (r : List ℕ) (n1 : ℕ) (r1 : List ℕ) (n2 : ℕ)
    (r2 : List ℕ) (n3 : ℕ) (r3 : List ℕ) → AwaitsBound verdict before → Reads verdict before (count_line count ∷ map cut_line cuts) n r n2 r2 →
    ReadsCuts count cuts n1 r1 n2 r2 → ReadsTree tree n2 r2 n3 r3 →
    Reads verdict before (count_line count ∷ (map cut_line cuts ++ map node_line tree)) n r n3 r3
    × Awaits verdict (advance_all before (count_line count ∷ (map cut_line cuts ++ map node_line tree))) tree_words
    × IsWhole (advance_all before (count_line count ∷ (map cut_line cuts ++ map node_line tree)))
tree_read verdict before count cuts tree n r n1 r1 n2 r2 n3 r3 a h k t =
    let all = t.reads verdict _ (awaits_first_node verdict before count cuts n1 r1 n2 r2 a k) in
    let same = sym (advance_append before (count_line count ∷ map cut_line cuts) (map node_line tree)) in (
      reads_on verdict before (count_line count ∷ map cut_line cuts) (map node_line tree) n r n2 r2 n3 r3 h all.0,
      subst (λ (s : Standing). Awaits verdict s tree_words) same all.1,
      subst IsWhole same all.2,
    )

pub end_read : (verdict : Verdict) (before : Standing) (count : ℕ) (cuts : List Cut) (tree : List TreeNode) (n : ℕ) (r : List ℕ) (n3 : ℕ) (r3 : List ℕ) (n4 : ℕ) (r4 : List ℕ) →
    AwaitsBound verdict before →
    Reads verdict before (count_line count ∷ (map cut_line cuts ++ map node_line tree)) n r n3 r3
    × Awaits verdict (advance_all before (count_line count ∷ (map cut_line cuts ++ map node_line tree))) tree_words
    × IsWhole (advance_all before (count_line count ∷ (map cut_line cuts ++ map node_line tree))) →
    length cuts ≡ count → ReadsLine n3 r3 (line_with Word.End []) n4 r4 → Reads verdict before (bound_lines cuts tree) n r n4 r4
end_read verdict before count cuts tree n r n3 r3 n4 r4 a h many line =
    let s : Standing = advance_all before (count_line count ∷ (map cut_line cuts ++ map node_line tree)) in
    let p : Passes verdict (advance_all before (count_line count ∷ (map cut_line cuts ++ map node_line tree))) (line_with Word.End []) =
    passes verdict (advance_all before (count_line count ∷ (map cut_line cuts ++ map node_line tree))) tree_words r3 Word.End [] (10 ∷ r4) h.1 (inr (inr (inl refl)))
    line.begins (a.stays _ h.2) (λ t. t) refl tt in
    subst (λ (k : ℕ). Reads verdict before (count_line k ∷ (map cut_line cuts ++ map node_line tree ++ line_with Word.End [] ∷ [])) n r n4 r4) (sym many)
    (reads_on verdict before (count_line count ∷ (map cut_line cuts ++ map node_line tree)) (line_with Word.End [] ∷ []) n r n3 r3 n4 r4 h.0
    (reads_line verdict _ (line_with Word.End []) n3 r3 n4 r4 line p))

-- the last word behind the cuts and the tree
pub bound_ends : (before : Standing) (cuts : List Cut) (tree : List TreeNode) → (advance_all before (bound_lines cuts tree)).last ≡ Some Word.End
bound_ends before cuts tree =
    one_more (λ s. s.last ≡ Some Word.End) before (count_line (length cuts) ∷ (map cut_line cuts ++ map node_line tree)) (line_with Word.End []) refl

-- before the last line, another word would break a tree that is whole
pub others_break : (verdict : Verdict) (before : Standing) → IsWhole before → (word : Word) → IsIn tree_words word → word ≢ Word.End → BreaksTree verdict before word
others_break verdict before whole word (inl same) other = subst (BreaksTree verdict before) (sym same) whole
others_break verdict before whole word (inr (inl same)) other = subst (BreaksTree verdict before) (sym same) whole
others_break verdict before whole word (inr (inr (inl same))) other = absurd (other same)
others_break verdict before whole word (inr (inr (inr none))) other = absurd none
