-- What decides the events, as the code finds it.
use Rattle.std.proofs.lemmas.Cmp.{int_ranked}
use Rattle.std.specs.Ordering.{int_cmp, ordering_index}
use Rattle.std.specs.declared.cmp.Ordering.{Ordering}
use Rattle.std.specs.declared.cmp.Ordering.TheVariants.{Less, Equal, Greater}
use Rattle.std.proofs.Common.{◌≡◌, arith, true, false, refl, sym, ℕ, zero, suc, ◌+◌, ◌-◌, ◌<◌, ◌≤◌, List, [], ◌∷◌, length}
use Rattle.std.proofs.lemmas.Int.{ints}
use Rattle.std.proofs.lemmas.List.{take_rest}
use Rattle.std.specs.Prelude.{Option, Some, None, ℤ, int_le, not, ◌≤ℤ◌, ◌<ℤ◌, ◌==◌, ◌||◌, drop, is_none, set, take, Bool}
use Rattle.std.specs.List.{list_any}
use Rattle.bz_history.specs.declared.state.Filled.{Filled}
use Rattle.bz_model.specs.Splits.{Decomposition}
use Rattle.bz_history.specs.declared.state.Post.{Post}
use Rattle.bz_history.specs.States.{State}
use Rattle.bz_history.specs.Steps.{IsBest}
use Rattle.bz_model.specs.declared.BlockPart.{BlockPart}
use Rattle.bz_rules.specs.Entries.{best_post, is_last}
use Rattle.bz_rules.specs.Shapes.{FitsSplit, IsShapedPost}
use Rattle.bz_rules.proofs.BestPosts.{is_best}

pub best_fits : (d : Decomposition) (t : State) (best : Post) → FitsSplit d t → Some best ≡ best_post t → IsShapedPost d t best
best_fits d t best fits is =
    let own : IsBest t best = is_best t best (sym is) in
    fits.posts own.0 best own.2

-- ---- orders
at_most_from : (a b : ℤ) → a ≤ℤ b → int_le a b ≡ true
at_most_from a b h = grind (arith, ints)

above_from : (a b : ℤ) → b <ℤ a → int_le a b ≡ false
above_from a b h = grind (arith, ints)

-- the order tells whether a number is at most another
pub above_by_order : (a b : ℤ) (r : Ordering) → r ≡ int_cmp a b → (ordering_index r == 2) ≡ not (int_le a b)
above_by_order a b Less h = rw (at_most_from a b (omega (arith, ints, int_ranked a b Less h))) refl
above_by_order a b Equal h = rw (at_most_from a b (omega (arith, ints, int_ranked a b Equal h))) refl
above_by_order a b Greater h = rw (above_from a b (int_ranked a b Greater h)) refl

-- ---- fills
-- what is not filled once a block is, stands before it or behind it
pub any_set : (fills : List (Option Filled)) (k : ℕ) (fill : Filled) → k < length fills → list_any (λ f. is_none f) (set fills k (Some fill)) ≡ (list_any (λ f. is_none f) (take k fills) || list_any (λ f. is_none f) (drop (k + 1) fills))
any_set [] k fill l = absurd (omega (arith, l))
any_set (f ∷ fills) zero fill l = refl
any_set (None ∷ fills) (suc k) fill l = refl
any_set (Some f ∷ fills) (suc k) fill l =
    let place : suc k + 1 ≡ suc (k + 1) = omega arith in
    rw place (any_set fills k fill (omega (arith, l)))

pub last_found : (post : Post) (block : ℕ) (b : Bool) → 0 < block → block ≤ length post.fills
    → b ≡ not (list_any (λ f. is_none f) (take (block - 1) post.fills) || list_any (λ f. is_none f) (take (length post.fills - (block - 1 + 1)) (drop (block - 1 + 1) post.fills)))
    → (y : BlockPart) (at : ℕ) → b ≡ is_last block y at post
last_found post block b first last h y at =
    let rest : take (length post.fills - (block - 1 + 1)) (drop (block - 1 + 1) post.fills) ≡ drop (block - 1 + 1) post.fills = take_rest post.fills (block - 1 + 1) in
    rw (any_set post.fills (block - 1) (record { y = y; at = at }) (omega (arith, first, last))) (rw rest at h)
