-- What holds of each line by the lines before it.
use Rattle.std.specs.Prelude.{List, [], ◌∷◌, ◌++◌}

-- P holds of each line and the lines before it, of which the first are `seen`
abbrev pub Follows : {L : Type 0} → (List L → L → Type 0) → List L → List L → Type 0
Follows P seen [] = Unit {0}
Follows P seen (l ∷ ls) = P seen l × Follows P (seen ++ l ∷ []) ls

-- what f gives of each line and the lines before it, of which the first are `seen`
abbrev pub gathered : {L F : Type 0} → (List L → L → List F) → List L → List L → List F
gathered f seen [] = []
gathered f seen (l ∷ ls) = f seen l ++ gathered f (seen ++ l ∷ []) ls
