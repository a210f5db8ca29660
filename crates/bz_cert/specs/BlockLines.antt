-- What a line of blocks is.
use Rattle.std.specs.Prelude.{ℕ, pos, List, ◌∷◌}
use Rattle.bz_cert.specs.declared.line_readers.BlockLine.{BlockLine}
use Rattle.bz_cert.specs.declared.words.Word.{Word}
use Rattle.bz_cert.specs.CertReading.{BeginsWithCertLine, ReadsLine}
use Rattle.bz_cert.specs.CertText.{line_with}

-- the line is that of the block, or one of the word that ends the blocks
abbrev pub BlockLineIs : Word → ℕ → ℕ → List ℕ → BlockLine → Type 0
BlockLineIs last block lines rest (BlockLine.Block part behind) =
    ReadsLine lines rest (line_with Word.Block (pos block ∷ part.times ∷ part.y)) behind.lines behind.rest.now
BlockLineIs last block lines rest (BlockLine.Last numbers from_feed) =
    BeginsWithCertLine rest (line_with last numbers.items) from_feed.now
