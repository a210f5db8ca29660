-- The bytes of words tell the words.
use Rattle.std.proofs.Common.{◌≡◌, ◌≢◌, ◌∷◌, ◌++◌, ◌∙◌, [], ℕ, ℤ, List, ap, sym, refl, codes, bytes_eq, cond}
use Rattle.std.specs.List.{AllByRecursion}
use Rattle.bz_cert.specs.declared.words.Word.{Word}
use Rattle.bz_cert.specs.CertText.{spelled, word_bytes}
use Rattle.bz_cert.specs.CertFaults.{BeginsWith, HasWord}
use Rattle.bz_cert.proofs.ListLemmas.{same_until}
use Rattle.bz_cert.proofs.NumberTexts.{begins_stops, clear_of}

-- the word of bytes
pub word_from : List ℕ → Word
word_from bytes =
    cond (bytes_eq bytes (codes "master")) Word.Master
    (cond (bytes_eq bytes (codes "eta")) Word.Eta
    (cond (bytes_eq bytes (codes "block")) Word.Block
    (cond (bytes_eq bytes (codes "value")) Word.Value
    (cond (bytes_eq bytes (codes "ray")) Word.Ray
    (cond (bytes_eq bytes (codes "cuts")) Word.Cuts
    (cond (bytes_eq bytes (codes "cut")) Word.Cut
    (cond (bytes_eq bytes (codes "split")) Word.Split
    (cond (bytes_eq bytes (codes "leaf")) Word.Leaf Word.End))))))))

pub from_bytes : (w : Word) → word_from (word_bytes w) ≡ w
unfolding word_from
from_bytes Word.Master = refl
from_bytes Word.Eta = refl
from_bytes Word.Block = refl
from_bytes Word.Value = refl
from_bytes Word.Ray = refl
from_bytes Word.Cuts = refl
from_bytes Word.Cut = refl
from_bytes Word.Split = refl
from_bytes Word.Leaf = refl
from_bytes Word.End = refl

-- no word has a blank
pub no_blank : (w : Word) → AllByRecursion (λ b. b ≢ 32) (word_bytes w)
no_blank Word.Master = clear_of 32 (word_bytes Word.Master) refl
no_blank Word.Eta = clear_of 32 (word_bytes Word.Eta) refl
no_blank Word.Block = clear_of 32 (word_bytes Word.Block) refl
no_blank Word.Value = clear_of 32 (word_bytes Word.Value) refl
no_blank Word.Ray = clear_of 32 (word_bytes Word.Ray) refl
no_blank Word.Cuts = clear_of 32 (word_bytes Word.Cuts) refl
no_blank Word.Cut = clear_of 32 (word_bytes Word.Cut) refl
no_blank Word.Split = clear_of 32 (word_bytes Word.Split) refl
no_blank Word.Leaf = clear_of 32 (word_bytes Word.Leaf) refl
no_blank Word.End = clear_of 32 (word_bytes Word.End) refl

-- nor a line feed
pub no_feed : (w : Word) → AllByRecursion (λ b. b ≢ 10) (word_bytes w)
no_feed Word.Master = clear_of 10 (word_bytes Word.Master) refl
no_feed Word.Eta = clear_of 10 (word_bytes Word.Eta) refl
no_feed Word.Block = clear_of 10 (word_bytes Word.Block) refl
no_feed Word.Value = clear_of 10 (word_bytes Word.Value) refl
no_feed Word.Ray = clear_of 10 (word_bytes Word.Ray) refl
no_feed Word.Cuts = clear_of 10 (word_bytes Word.Cuts) refl
no_feed Word.Cut = clear_of 10 (word_bytes Word.Cut) refl
no_feed Word.Split = clear_of 10 (word_bytes Word.Split) refl
no_feed Word.Leaf = clear_of 10 (word_bytes Word.Leaf) refl
no_feed Word.End = clear_of 10 (word_bytes Word.End) refl

-- a word in front of a blank, or of the end
pub same_words : (v w : Word) (r s : List ℕ) → BeginsWith 32 r → BeginsWith 32 s → word_bytes v ++ r ≡ word_bytes w ++ s → (v ≡ w) × (r ≡ s)
same_words v w r s h k e =
    let parts : (word_bytes v ≡ word_bytes w) × (r ≡ s) =
    same_until (λ b. b ≢ 32) (word_bytes v) (word_bytes w) r s (no_blank v) (no_blank w) (begins_stops 32 r h) (begins_stops 32 s k) e in
    (sym (from_bytes v) ∙ ap word_from parts.0 ∙ from_bytes w, parts.1)

pub spelled_apart : (ns : List ℤ) → BeginsWith 32 (spelled ns)
spelled_apart [] = tt
spelled_apart (n ∷ ns) = refl

-- a line has one first word
pub same_word : (line : List ℕ) (v w : Word) → HasWord line v → HasWord line w → v ≡ w
same_word line v w h k = (same_words v w h.behind k.behind h.apart k.apart (sym h.laid_out ∙ k.laid_out)).0
