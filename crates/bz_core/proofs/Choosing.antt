-- The first node and the first separation that aren't handed out.
use Rattle.std.proofs.Common.{◌≡◌, ◌<◌, ◌+◌, ℕ, Bool, true, List, subst, arith, inl, inr}
use Rattle.std.specs.Prelude.{◌⊎◌, Option, Some, None, IfNone, IfSome}
use Rattle.std.specs.List.{slice_get}
use Rattle.bz_history.specs.declared.state.Post.{Post}
use Rattle.bz_history.specs.States.{is_live}
use Rattle.bz_history.specs.Steps.{IsAt}
use Rattle.bz_history.proofs.Lists.{at_one, below_next}
use Rattle.bz_core.specs.Handing.{IsFreeBlock, IsFreeSeparation}

-- what none before has, and it hasn't, none before the next has
pub none_before : (P : ℕ → Type 0) (n : ℕ) → ((k : ℕ) → k < n → P k → ⊥) → (P n → ⊥) → (k : ℕ) → k < n + 1 → P k → ⊥
none_before P n before here k below h = by (below_next k n (omega arith))
  where
    by : (k < n) ⊎ (k ≡ n) → ⊥
    by (inl less) = before k less h
    by (inr same) = here (subst P same h)

pub none_before_in : (P : ℕ → ℕ → Type 0) (n : ℕ) → ((k b : ℕ) → k < n → P k b → ⊥) → ((b : ℕ) → P n b → ⊥) → (k b : ℕ) → k < n + 1 → P k b → ⊥
none_before_in P n before here k b below h = none_before (λ i. P i b) n (λ i less. before i b less) (here b) k below h

-- ---- blocks of one post
pub free_of_post : (blocks : ℕ) (posts : List Post) (marks : List (List Bool)) (number : ℕ) (post : Post) (of_post : List Bool)
    → IsAt posts number post → is_live post ≡ true → slice_get marks number ≡ Some of_post
    → (block : ℕ) → IsFreeBlock blocks post.fills of_post block → IsFreeSeparation blocks posts marks number block
free_of_post blocks posts marks number post of_post at live is block free =
    record { post = post; is_post = at; live = live; of_post = of_post; is_marks = is; free = free }

pub free_in_post : (blocks : ℕ) (posts : List Post) (marks : List (List Bool)) (number : ℕ) (post : Post) (of_post : List Bool)
    → IsAt posts number post → slice_get marks number ≡ Some of_post
    → (block : ℕ) → IsFreeSeparation blocks posts marks number block → IsFreeBlock blocks post.fills of_post block
free_in_post blocks posts marks number post of_post at is block s =
    subst (λ (m : List Bool). IsFreeBlock blocks post.fills m block) (at_one marks number s.of_post of_post s.is_marks is)
    (subst (λ (p : Post). IsFreeBlock blocks p.fills s.of_post block) (at_one posts number s.post post s.is_post at) s.free)

-- a free separation is of a live post
pub free_is_live : (blocks : ℕ) (posts : List Post) (marks : List (List Bool)) (number : ℕ) (post : Post)
    → IsAt posts number post → (block : ℕ) → IsFreeSeparation blocks posts marks number block → is_live post ≡ true
free_is_live blocks posts marks number post at block s =
    subst (λ (p : Post). is_live p ≡ true) (at_one posts number s.post post s.is_post at) s.live

-- ---- weaker answers
pub some_weaker : {X : Type 0} (o : Option X) (P Q : X → Type 0) → ((x : X) → P x → Q x) → IfSome o P → IfSome o Q
some_weaker None P Q f h = h
some_weaker (Some x) P Q f h = f x h

pub none_weaker : {X : Type 0} (o : Option X) (P Q : Type 0) → (P → Q) → IfNone o P → IfNone o Q
none_weaker None P Q f h = f h
none_weaker (Some x) P Q f h = h
