-- How many points a search can have posted.
use Rattle.std.specs.Prelude.{ℕ, ◌+◌, ◌-◌, ◌*◌, ◌^◌, ◌≡◌, ◌<◌, ◌≤◌, ◌==◌, cond, List, [], ◌∷◌, length}
use Rattle.bz_model.specs.Decomposed.{IsDecomposed}
use Rattle.bz_model.specs.Splits.{Decomposition}
use Rattle.bz_event.specs.declared.events.Entry.{Entry}
use Rattle.bz_history.specs.declared.state.Node.{Node}
use Rattle.bz_history.specs.declared.state.Post.{Post}
use Rattle.bz_history.specs.declared.state.Region.{Region}
use Rattle.bz_history.specs.Budgets.{greatest_budget}
use Rattle.bz_history.specs.Histories.{IsReplay}
use Rattle.bz_history.specs.States.{State}
use Rattle.bz_history.specs.Steps.{IsAt}

-- how many of the posts are of node n
abbrev pub posts_of : ℕ → List Post → ℕ
posts_of n [] = 0
posts_of n (post ∷ posts) = cond (post.node == n) 1 0 + posts_of n posts

-- A node tells how many posts are its own. These are at most one more than the cuts; so all posts are at most so many for each
-- node.
pub record ArePostCounts (t : State) : Type 0 where
  pub counted : (n : ℕ) (node : Node) → IsAt t.nodes n node → node.posted ≡ posts_of n t.posts
  pub own : (n : ℕ) (node : Node) → IsAt t.nodes n node → node.posted ≤ length t.posts
  pub each : (n : ℕ) → posts_of n t.posts ≤ length t.cuts + 1
  pub all : length t.posts ≤ length t.nodes * (length t.cuts + 1)

abbrev pub PostsAreFew : Type 0
PostsAreFew =
    (d : Decomposition) (budget : ℕ) (root : Region) (es : List Entry) (t : State) → IsReplay d budget root es t →
    ArePostCounts t

-- With a budget within the limit the posts are fewer than the greatest number of 32 bits.
abbrev pub PostsHaveNumbers : Type 0
PostsHaveNumbers =
    (d : Decomposition) (budget : ℕ) (root : Region) (es : List Entry) (t : State) → IsDecomposed d.model d.part →
    budget ≤ greatest_budget → IsReplay d budget root es t → length t.posts < 2 ^ 32 - 1
