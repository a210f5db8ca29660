-- What the lines before a line tell, one line after the other.
use Rattle.std.proofs.Common.{◌≡◌, ◌∷◌, ◌++◌, ◌∙◌, [], ℕ, ◌+◌, zero-add, List, Option, Some, None, ap, sym, refl, subst, append-nil, append_assoc, length}
use Rattle.std.specs.List.{sum_by}
use Rattle.std.proofs.lemmas.List.Sums.{sum_by-append}
use Rattle.bz_cert.specs.declared.faults.CertKind.{CertKind}
use Rattle.bz_cert.specs.declared.records.Verdict.{Verdict}
use Rattle.bz_cert.specs.declared.words.Word.{Word}
use Rattle.bz_cert.specs.CertText.{CertLine, head_bytes, laid_out}
use Rattle.bz_cert.specs.CertFaults.{AllPass, FailsAtOnce, IsCertFault, Standing, blocks_in, cuts_in, last_word, leaves_in, splits_in, standing_of, told_in}
use Rattle.bz_cert.specs.CertReading.{FailsFrom, PassFrom, advance, advance_all}
use Rattle.bz_cert.specs.CertPhases.{start}

sum_push : {X : Type 0} (f : X → ℕ) (xs : List X) (x : X) → sum_by f (xs ++ x ∷ []) ≡ sum_by f xs + f x
sum_push f xs x = sum_by-append f xs (x ∷ []) ∙ ap (λ n. sum_by f xs + n) (zero-add (f x))

last_push : (word : Option Word) (lines : List CertLine) (line : CertLine) → last_word word (lines ++ line ∷ []) ≡ Some line.word
last_push word [] line = refl
last_push word (l ∷ ls) line = last_push (Some l.word) ls line

-- standings of the same parts
same_standing : (s t : Standing) → s.last ≡ t.last → s.blocks ≡ t.blocks → s.told ≡ t.told → s.cuts ≡ t.cuts → s.splits ≡ t.splits → s.leaves ≡ t.leaves → s ≡ t
same_standing s t a b c d e f =
    ap (λ x. record s { last = x }) a
    ∙ ap (λ x. record s { last = t.last; blocks = x }) b
    ∙ ap (λ x. record s { last = t.last; blocks = t.blocks; told = x }) c
    ∙ ap (λ x. record s { last = t.last; blocks = t.blocks; told = t.told; cuts = x }) d
    ∙ ap (λ x. record s { last = t.last; blocks = t.blocks; told = t.told; cuts = t.cuts; splits = x }) e
    ∙ ap (λ x. record t { leaves = x }) f

-- the standing one line on
pub standing_push : (seen : List CertLine) (line : CertLine) → standing_of (seen ++ line ∷ []) ≡ advance (standing_of seen) line
standing_push seen line =
    same_standing (standing_of (seen ++ line ∷ [])) (advance (standing_of seen) line)
    (last_push None seen line)
    (sum_push (λ l. blocks_in l.word) seen line)
    (sum_push (λ l. told_in l.word l.numbers) seen line)
    (sum_push (λ l. cuts_in l.word) seen line)
    (sum_push (λ l. splits_in l.word) seen line)
    (sum_push (λ l. leaves_in l.word) seen line)

-- the standing behind lines
pub standing_behind : (seen lines : List CertLine) → standing_of (seen ++ lines) ≡ advance_all (standing_of seen) lines
standing_behind seen [] = ap standing_of (append-nil seen)
standing_behind seen (line ∷ lines) =
    ap standing_of (sym (append_assoc seen (line ∷ []) lines)) ∙ standing_behind (seen ++ line ∷ []) lines
    ∙ ap (λ s. advance_all s lines) (standing_push seen line)

-- lines that pass, by what is seen before
pub all_pass : (verdict : Verdict) (seen lines : List CertLine) → PassFrom verdict (standing_of seen) lines → AllPass verdict seen lines
all_pass verdict seen [] h = tt
all_pass verdict seen (line ∷ lines) h =
    (h.0, all_pass verdict (seen ++ line ∷ []) lines (subst (λ (s : Standing). PassFrom verdict s lines) (sym (standing_push seen line)) h.1))

pub pass_all : (verdict : Verdict) (seen lines : List CertLine) → AllPass verdict seen lines → PassFrom verdict (standing_of seen) lines
pass_all verdict seen [] h = tt
pass_all verdict seen (line ∷ lines) h =
    (h.0, subst (λ (s : Standing). PassFrom verdict s lines) (standing_push seen line) (pass_all verdict (seen ++ line ∷ []) lines h.1))

-- what fails behind the two first lines
pub fails_behind_head : (text rest : List ℕ) (verdict : Verdict) (lines number : ℕ) (kind : CertKind) → text ≡ head_bytes verdict ++ rest → lines ≡ 2 →
    FailsFrom verdict start lines rest number kind → IsCertFault text number kind
fails_behind_head text rest verdict lines number kind joined two h = IsCertFault.behind_head (record {
  verdict = verdict;
  before = h.passed;
  rest = h.behind;
  joined = joined ∙ ap (λ r. head_bytes verdict ++ r) h.joined ∙ sym (append_assoc (head_bytes verdict) (laid_out h.passed) h.behind);
  pass = all_pass verdict [] h.passed h.pass;
  fails = subst (λ (s : Standing). FailsAtOnce verdict s (2 + length h.passed) h.behind number kind) (sym (standing_behind [] h.passed))
      (subst (λ (n : ℕ). FailsAtOnce verdict (advance_all start h.passed) (n + length h.passed) h.behind number kind) two h.fails);
})
