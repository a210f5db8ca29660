-- The pieces of a line of the program, read as one line.
use Rattle.std.proofs.Common.{◌≡◌, ℕ, List, [], ◌∷◌, ◌++◌, append_assoc}
use Rattle.bz_text.specs.Texts.{line}

-- the line of a fault of a text
pub fault_pieces : (file said place between kind name : List ℕ) → file ++ (said ++ (place ++ (between ++ (kind ++ (32 ∷ (name ++ 10 ∷ [])))))) ≡ line (file ++ said ++ place ++ between ++ kind ++ 32 ∷ name)
fault_pieces file said place between kind name = simp append_assoc

-- the line of a part
pub part_pieces : (a p b c d r e i : List ℕ) → a ++ (p ++ (b ++ (c ++ (d ++ (r ++ (e ++ (i ++ 10 ∷ []))))))) ≡ line (a ++ p ++ b ++ c ++ d ++ r ++ e ++ i)
part_pieces a p b c d r e i = simp append_assoc
