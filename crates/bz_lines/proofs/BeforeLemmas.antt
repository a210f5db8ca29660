-- One more line, after the lines before it.
use Rattle.std.proofs.Common.{ℕ, zero, suc, arith, take, get_or, ◌<◌, ◌+◌, List, [], ◌∷◌, ◌++◌, ◌≡◌, subst, ap, sym, ◌∙◌}
use Rattle.std.proofs.lemmas.List.{append-nil, append_assoc, take_more}
use Rattle.std.specs.Prelude.{length}
use Rattle.bz_lines.specs.LinesBefore.{Follows, gathered}

pub follows_more : {L : Type 0} (P : List L → L → Type 0) (seen xs : List L) (x : L) → Follows P seen xs → P (seen ++ xs) x → Follows P seen (xs ++ x ∷ [])
follows_more P seen [] x f p = (subst (λ s. P s x) (append-nil seen) p, tt)
follows_more P seen (y ∷ ys) x f p = (f.0, follows_more P (seen ++ y ∷ []) ys x f.1 (subst (λ s. P s x) (sym (append_assoc seen (y ∷ []) ys)) p))

pub gathered_more : {L F : Type 0} (f : List L → L → List F) (seen xs : List L) (x : L) → gathered f seen (xs ++ x ∷ []) ≡ gathered f seen xs ++ f (seen ++ xs) x
gathered_more f seen [] x = append-nil _ ∙ ap (λ s. f s x) (sym (append-nil seen))
gathered_more f seen (y ∷ ys) x =
    ap (λ r. f seen y ++ r) (gathered_more f (seen ++ y ∷ []) ys x)
    ∙ ap (λ s. f seen y ++ (gathered f (seen ++ y ∷ []) ys ++ f s x)) (append_assoc seen (y ∷ []) ys)
    ∙ sym (append_assoc (f seen y) (gathered f (seen ++ y ∷ []) ys) (f (seen ++ y ∷ ys) x))

-- the items up to one more
pub take_next : {X : Type 0} (xs : List X) (i : ℕ) (x : X) → i < length xs → x ≡ get_or xs i x → take (i + 1) xs ≡ take i xs ++ x ∷ []
take_next xs i x l e = take_more xs i x l ∙ ap (λ y. take i xs ++ y ∷ []) (sym e)

-- what follows of each line follows of the one at a place
pub follows_at : {L : Type 0} (P : List L → L → Type 0) (seen ls : List L) (i : ℕ) (l : L) → i < length ls → l ≡ get_or ls i l → Follows P seen ls → P (seen ++ take i ls) l
follows_at P seen [] i l h e f = absurd (omega arith)
follows_at P seen (y ∷ ys) zero l h e f = subst (λ x. P (seen ++ []) x) (sym e) (subst (λ s. P s y) (sym (append-nil seen)) f.0)
follows_at P seen (y ∷ ys) (suc i) l h e f =
    subst (λ s. P s l) (append_assoc seen (y ∷ []) (take i ys)) (follows_at P (seen ++ y ∷ []) ys i l (omega arith) e f.1)
