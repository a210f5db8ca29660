-- A list of four words.
use Rattle.std.proofs.Common.{◌≡◌, ℕ, ◌<◌, ◌≤◌, List, [], ◌∷◌, length, get_or, map, arith}

-- a list of four is its items
four_items : {X : Type 0} → (xs : List X) (a b c d : X) → 4 ≤ length xs → length xs < 5
    → a ≡ get_or xs 0 a → b ≡ get_or xs 1 b → c ≡ get_or xs 2 c → d ≡ get_or xs 3 d → xs ≡ a ∷ b ∷ c ∷ d ∷ []
four_items [] a b c d low high ea eb ec ed = absurd (omega arith)
four_items (x ∷ []) a b c d low high ea eb ec ed = absurd (omega arith)
four_items (x ∷ y ∷ []) a b c d low high ea eb ec ed = absurd (omega arith)
four_items (x ∷ y ∷ z ∷ []) a b c d low high ea eb ec ed = absurd (omega arith)
four_items (x ∷ y ∷ z ∷ w ∷ []) a b c d low high ea eb ec ed = cc
four_items (x ∷ y ∷ z ∷ w ∷ v ∷ vs) a b c d low high ea eb ec ed = absurd (omega arith)

-- the bytes of four words are four texts
pub four_words : {X : Type 0} (bytes : X → List ℕ) → (words : List X) (a b c d : X) (command model part cert : List ℕ)
    → 4 ≤ length words → length words < 5 → a ≡ get_or words 0 a → b ≡ get_or words 1 b → c ≡ get_or words 2 c → d ≡ get_or words 3 d
    → command ≡ bytes a → model ≡ bytes b → part ≡ bytes c → cert ≡ bytes d
    → map bytes words ≡ command ∷ model ∷ part ∷ cert ∷ []
four_words bytes words a b c d command model part cert low high ea eb ec ed fa fb fc fd =
    rw (four_items words a b c d low high ea eb ec ed) (cc)
