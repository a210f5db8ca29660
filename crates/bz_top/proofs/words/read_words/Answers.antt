use Rattle.std.proofs.Common.{List, ℕ, sym, subst}
use Rattle.std.specs.String.{string_bytes}
use Rattle.bz_top.specs.Words.{ReadsWords}
use Rattle.bz_top.proofs.Fours.{four_words}
use Rattle.bz_top.proofs.words.read_words.Goals as goal

pub returns-in-len4 : goal.returns-in-len4
returns-in-len4 c =
    subst (λ (w : List (List ℕ)). ReadsWords w c.of_four.result)
    (sym (four_words (λ w. string_bytes w) _ _ _ _ _ _ _ _ _ c.in-len4.len_at_least c.in-len4.len_below
    c.command-item-then-words-lt5.is c.model-item-then-words-lt5.is c.part-item-then-words-lt5.is c.cert-item.is
    c.as_str-in-len4.ensures.value c.as_str-in-len4-2.ensures.value c.as_str-in-len4-3.ensures.value c.as_str-in-len4-4.ensures.value))
    c.of_four.ensures
