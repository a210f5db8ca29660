-- Texts by pieces.
use Rattle.std.specs.Prelude.{ℕ, pos, List, [], ◌∷◌, ◌++◌}
use Rattle.std.specs.Fmt.{signed_decimal}
use Rattle.bz_text.specs.declared.pieces.Piece.{Piece}

-- the text of a piece
abbrev pub piece_text : Piece → List ℕ
piece_text (Piece.Text bytes) = bytes.now
piece_text (Piece.Number n) = signed_decimal n
piece_text (Piece.Count n) = signed_decimal (pos n)

-- the text of pieces, one after another
abbrev pub pieces_text : List Piece → List ℕ
pieces_text [] = []
pieces_text (piece ∷ pieces) = piece_text piece ++ pieces_text pieces
