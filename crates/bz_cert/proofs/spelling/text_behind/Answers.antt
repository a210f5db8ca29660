use Rattle.std.proofs.Common.{◌≡◌, ◌++◌, ◌∙◌, ℕ, ◌+◌, List, length, take, drop, Option, Some, None, Bor, MatchOption, IfSome, IfNone, nat_eq, true, false, sym, ap}
use Rattle.std.specs.Cmp.Lexicographic.{pointwise, same_text, other_text}
use Rattle.std.proofs.lemmas.List.{take-append-drop}
use Rattle.std.proofs.Math.Seq.{take-append_seam}
use Rattle.bz_cert.proofs.spelling.text_behind.Goals as goal

-- what a call of `strip_prefix` says
IsBehind : (text front : List ℕ) → Option (Bor (List ℕ)) → Type 0
IsBehind text front r = MatchOption r (pointwise nat_eq (take (length front) text) front ≡ false)
    (λ x. (pointwise nat_eq (take (length front) text) front ≡ true) × (x.now ≡ drop (length front) text) × (length x.now + length front ≡ length text))

found_of : (text front : List ℕ) (r : Option (Bor (List ℕ))) → IsBehind text front r → IfSome r (λ b. text ≡ front ++ b.now)
unfolding IsBehind
found_of text front None h = tt
found_of text front (Some x) h =
    sym (take-append-drop (length front) text) ∙ ap (λ t. t ++ drop (length front) text) (same_text _ _ (sym h.0)) ∙ ap (λ t. front ++ t) (sym h.1)

none_of : (text front : List ℕ) (r : Option (Bor (List ℕ))) → IsBehind text front r → IfNone r ((behind : List ℕ) → text ≡ front ++ behind → ⊥)
unfolding IsBehind
none_of text front None h = λ behind is. other_text _ _ (sym h) (ap (take (length front)) is ∙ take-append_seam front behind)
none_of text front (Some x) h = tt

pub returns-clause-found : goal.returns-clause-found
unfolding IsBehind
returns-clause-found c = found_of _ _ _ c.strip_prefix.ensures.cases

pub returns-clause-none : goal.returns-clause-none
unfolding IsBehind
returns-clause-none c = none_of _ _ _ c.strip_prefix.ensures.cases
