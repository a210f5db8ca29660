-- Lines one after the other, and what they tell.
use Rattle.std.proofs.Common.{◌≡◌, ◌∷◌, ◌++◌, ◌∙◌, [], ℕ, suc, ◌+◌, add-zero, ◌<◌, pos, List, ap, sym, refl, subst, arith, append-nil, append_assoc, length, length-append, map}
use Rattle.std.specs.List.{enumerate_from}
use Rattle.std.proofs.lemmas.Grind.{flat_map-append}
use Rattle.bz_model.specs.declared.BlockPart.{BlockPart}
use Rattle.bz_cut.specs.declared.Cut.{Cut}
use Rattle.bz_cert.specs.declared.faults.CertKind.{CertKind}
use Rattle.bz_cert.specs.declared.records.Verdict.{Verdict}
use Rattle.bz_cert.specs.declared.words.Word.{Word}
use Rattle.bz_cert.specs.CertText.{CertLine, block_lines, cut_line, laid_out, line_bytes, line_with}
use Rattle.bz_cert.specs.CertFaults.{FailsAtOnce, Passes, Standing}
use Rattle.bz_cert.specs.CertReading.{FailsFrom, PassFrom, Reads, ReadsLine, advance, advance_all}

pub map-append : {X Y : Type 0} (f : X → Y) (xs ys : List X) → map f (xs ++ ys) ≡ map f xs ++ map f ys
map-append f [] ys = refl
map-append f (x ∷ xs) ys = ap (λ t. f x ∷ t) (map-append f xs ys)

-- the standing behind lines and further ones
pub advance_append : (before : Standing) (ls ms : List CertLine) → advance_all before (ls ++ ms) ≡ advance_all (advance_all before ls) ms
advance_append before [] ms = refl
advance_append before (l ∷ ls) ms = advance_append (advance before l) ls ms

pub pass_append : (verdict : Verdict) (before : Standing) (ls ms : List CertLine) → PassFrom verdict before ls → PassFrom verdict (advance_all before ls) ms →
    PassFrom verdict before (ls ++ ms)
pass_append verdict before [] ms h k = k
pass_append verdict before (l ∷ ls) ms h k = (h.0, pass_append verdict (advance before l) ls ms h.1 k)

pub laid_out_append : (ls ms : List CertLine) → laid_out (ls ++ ms) ≡ laid_out ls ++ laid_out ms
laid_out_append ls ms = flat_map-append (λ line. line_bytes line ++ 10 ∷ []) ls ms

-- one line that passes
pub reads_line : (verdict : Verdict) (before : Standing) (line : CertLine) (lines : ℕ) (rest : List ℕ) (lines_now : ℕ) (rest_now : List ℕ) →
    ReadsLine lines rest line lines_now rest_now → Passes verdict before line → Reads verdict before (line ∷ []) lines rest lines_now rest_now
reads_line verdict before line lines rest lines_now rest_now h passes = record {
  joined = h.begins.begins.joined ∙ sym (append_assoc (line_bytes line) (10 ∷ []) rest_now)
      ∙ ap (λ t. t ++ rest_now) (sym (append-nil (line_bytes line ++ 10 ∷ [])));
  count = h.count;
  pass = (passes, tt);
}

-- lines and then further ones
pub reads_on : (verdict : Verdict) (before : Standing) (ls ms : List CertLine) (n : ℕ) (r : List ℕ) (n1 : ℕ) (r1 : List ℕ) (n2 : ℕ) (r2 : List ℕ) →
    Reads verdict before ls n r n1 r1 → Reads verdict (advance_all before ls) ms n1 r1 n2 r2 → Reads verdict before (ls ++ ms) n r n2 r2
reads_on verdict before ls ms n r n1 r1 n2 r2 h k = record {
  joined = h.joined ∙ ap (λ t. laid_out ls ++ t) k.joined ∙ sym (append_assoc (laid_out ls) (laid_out ms) r2)
      ∙ ap (λ t. t ++ r2) (sym (laid_out_append ls ms));
  count = let c1 : n1 ≡ n + length ls = h.count in let c2 : n2 ≡ n1 + length ms = k.count in omega (arith, length-append ls ms);
  pass = pass_append verdict before ls ms h.pass k.pass;
}

-- what fails behind lines that pass
pub fails_later : (verdict : Verdict) (before : Standing) (ls : List CertLine) (n : ℕ) (r : List ℕ) (n1 : ℕ) (r1 : List ℕ) (number : ℕ) (kind : CertKind) →
    Reads verdict before ls n r n1 r1 → FailsFrom verdict (advance_all before ls) n1 r1 number kind → FailsFrom verdict before n r number kind
fails_later verdict before ls n r n1 r1 number kind h k = record {
  passed = ls ++ k.passed;
  behind = k.behind;
  joined = h.joined ∙ ap (λ t. laid_out ls ++ t) k.joined ∙ sym (append_assoc (laid_out ls) (laid_out k.passed) k.behind)
      ∙ ap (λ t. t ++ k.behind) (sym (laid_out_append ls k.passed));
  pass = pass_append verdict before ls k.passed h.pass k.pass;
  fails =
      let m : n1 + length k.passed ≡ n + length (ls ++ k.passed) = let c1 : n1 ≡ n + length ls = h.count in omega (arith, length-append ls k.passed) in
      subst (λ (x : ℕ). FailsAtOnce verdict (advance_all before (ls ++ k.passed)) x k.behind number kind) m
      (subst (λ (s : Standing). FailsAtOnce verdict s (n1 + length k.passed) k.behind number kind) (sym (advance_append before ls k.passed)) k.fails);
}

pub fails_now : (verdict : Verdict) (before : Standing) (n : ℕ) (r : List ℕ) (number : ℕ) (kind : CertKind) →
    FailsAtOnce verdict before n r number kind → FailsFrom verdict before n r number kind
fails_now verdict before n r number kind h = record {
  passed = [];
  behind = r;
  joined = refl;
  pass = tt;
  fails = subst (λ (x : ℕ). FailsAtOnce verdict before x r number kind) (sym (add-zero n)) h;
}

-- a line is shorter than what it stands in
pub line_shorter : (lines : ℕ) (rest : List ℕ) (line : CertLine) (lines_now : ℕ) (rest_now : List ℕ) → ReadsLine lines rest line lines_now rest_now →
    length rest_now < length rest
line_shorter lines rest line lines_now rest_now h =
    omega (arith, ap length h.begins.begins.joined, length-append (line_bytes line) (10 ∷ rest_now))

-- the numbers of blocks go on where one more stands behind them
enumerated_push : {X : Type 0} (n : ℕ) (xs : List X) (x : X) → enumerate_from n (xs ++ x ∷ []) ≡ enumerate_from n xs ++ (n + length xs, x) ∷ []
enumerated_push n [] x = ap (λ k. (k, x) ∷ []) (sym (add-zero n))
enumerated_push n (y ∷ ys) x =
    let e : (n + 1) + length ys ≡ n + suc (length ys) = omega arith in
    ap (λ t. (n, y) ∷ t) (enumerated_push (n + 1) ys x ∙ ap (λ k. enumerate_from (n + 1) ys ++ (k, x) ∷ []) e)

-- the lines of blocks with one more
pub block_lines_push : (blocks : List BlockPart) (block : BlockPart) (number : ℕ) → number ≡ length blocks + 1 →
    block_lines 1 (blocks ++ block ∷ []) ≡ block_lines 1 blocks ++ line_with Word.Block (pos number ∷ block.times ∷ block.y) ∷ []
block_lines_push blocks block number is =
    let e : 1 + length blocks ≡ number = omega arith in
    ap (map (λ (e : ℕ × BlockPart). line_with Word.Block (pos e.0 ∷ e.1.times ∷ e.1.y))) (enumerated_push 1 blocks block)
    ∙ map-append (λ (e : ℕ × BlockPart). line_with Word.Block (pos e.0 ∷ e.1.times ∷ e.1.y)) (enumerate_from 1 blocks) _
    ∙ ap (λ k. block_lines 1 blocks ++ line_with Word.Block (pos k ∷ block.times ∷ block.y) ∷ []) e

-- what blocks leave as it is
pub blocks_keep : (first : ℕ) (parts : List BlockPart) (before : Standing) →
    ((advance_all before (block_lines first parts)).told ≡ before.told)
    × ((advance_all before (block_lines first parts)).cuts ≡ before.cuts)
    × ((advance_all before (block_lines first parts)).splits ≡ before.splits)
    × ((advance_all before (block_lines first parts)).leaves ≡ before.leaves)
blocks_keep first [] before = (refl, refl, refl, refl)
blocks_keep first (part ∷ parts) before =
    let later = blocks_keep (first + 1) parts (advance before (line_with Word.Block (pos first ∷ part.times ∷ part.y))) in
    (later.0 ∙ add-zero before.told, later.1 ∙ add-zero before.cuts, later.2 ∙ add-zero before.splits, later.3 ∙ add-zero before.leaves)

-- what cuts leave as it is
pub cuts_keep : (cuts : List Cut) (before : Standing) →
    ((advance_all before (map cut_line cuts)).splits ≡ before.splits) × ((advance_all before (map cut_line cuts)).leaves ≡ before.leaves)
cuts_keep [] before = (refl, refl)
cuts_keep (cut ∷ cuts) before =
    let later = cuts_keep cuts (advance before (cut_line cut)) in
    (later.0 ∙ add-zero before.splits, later.1 ∙ add-zero before.leaves)

pub reads_none : (verdict : Verdict) (before : Standing) (n : ℕ) (r : List ℕ) → Reads verdict before [] n r n r
reads_none verdict before n r = record { joined = refl; count = sym (add-zero n); pass = tt }

-- the same line and kind
pub failing_from : (verdict : Verdict) (before : Standing) (n : ℕ) (r : List ℕ) (number line : ℕ) (found kind : CertKind) → number ≡ line → found ≡ kind →
    FailsFrom verdict before n r line kind → FailsFrom verdict before n r number found
failing_from verdict before n r number line found kind e k h =
    subst (λ (m : ℕ). FailsFrom verdict before n r m found) (sym e) (subst (FailsFrom verdict before n r line) (sym k) h)
