-- Where in the history what a search knows was appended.
use Rattle.std.specs.Prelude.{ℕ, suc, ◌≡◌, ◌<◌, true, List, length, Some}
use Rattle.std.specs.List.{slice_get}
use Rattle.bz_model.specs.Splits.{Decomposition}
use Rattle.bz_event.specs.declared.events.Entry.{Entry}
use Rattle.bz_event.specs.declared.events.Event.{Event}
use Rattle.bz_event.specs.declared.events.Event.TheVariants as event
use Rattle.bz_history.specs.declared.state.Closing.{Closing}
use Rattle.bz_history.specs.declared.state.FallingRay.{FallingRay}
use Rattle.bz_history.specs.declared.state.Filled.{Filled}
use Rattle.bz_history.specs.declared.state.Node.{Node}
use Rattle.bz_history.specs.declared.state.Post.{Post}
use Rattle.bz_history.specs.declared.state.Region.{Region}
use Rattle.bz_history.specs.Histories.{IsReplay}
use Rattle.bz_history.specs.States.{State, is_live}
use Rattle.bz_history.specs.Steps.{IsAt}

-- the entry at this place of the history is such an event
pub record HasEvent (es : List Entry) (at : ℕ) (Is : Event → Type 0) : Type 0 where
  pub entry : Entry
  pub is_entry : IsAt es at entry
  pub is_event : Is entry.event

-- the event is the floor of the block
abbrev pub IsFloorOf : ℕ → Event → Type 0
IsFloorOf block (event.Floor b basis cut) = b ≡ block
IsFloorOf block (event.Ray b direction) = ⊥
IsFloorOf block (event.Post node front point leaf) = ⊥
IsFloorOf block (event.Append post basis cut) = ⊥
IsFloorOf block (event.Again post basis place) = ⊥
IsFloorOf block (event.Fill post b y) = ⊥
IsFloorOf block (event.Incumbent post) = ⊥
IsFloorOf block (event.Close node h) = ⊥
IsFloorOf block (event.Stop reason) = ⊥

-- the event names the post as one that is cut off, or closes its node
abbrev pub Ends : ℕ → ℕ → Event → Type 0
Ends post node (event.Floor b basis cut) = ⊥
Ends post node (event.Ray b direction) = ⊥
Ends post node (event.Post n front point leaf) = ⊥
Ends post node (event.Append p basis cut) = p ≡ post
Ends post node (event.Again p basis place) = p ≡ post
Ends post node (event.Fill p b y) = ⊥
Ends post node (event.Incumbent p) = ⊥
Ends post node (event.Close n h) = n ≡ node
Ends post node (event.Stop reason) = ⊥

-- Each place that the state keeps is that of the entry which it speaks of. What ended a post is the first entry that ends it,
-- and none ends a live one.
pub record ArePlaces (es : List Entry) (t : State) : Type 0 where
  pub entries : t.entries ≡ length es
  pub floors : (k at : ℕ) → IsAt t.floors k at → HasEvent es at (IsFloorOf (suc k))
  pub ray : (r : FallingRay) → t.ray ≡ Some r → HasEvent es r.at (λ e. e ≡ event.Ray r.block r.d)
  pub posts : (i : ℕ) (p : Post) → IsAt t.posts i p → HasEvent es p.at (λ e. e ≡ event.Post p.node p.front p.point p.leaf)
  pub ended : (i at : ℕ) (p : Post) → IsAt t.posts i p → p.ended ≡ Some at → HasEvent es at (Ends i p.node)
  pub first : (i at : ℕ) (p : Post) → IsAt t.posts i p → p.ended ≡ Some at → (k : ℕ) → k < at →
      ¬ HasEvent es k (Ends i p.node)
  pub unended : (i : ℕ) (p : Post) → IsAt t.posts i p → is_live p ≡ true → (k : ℕ) → ¬ HasEvent es k (Ends i p.node)
  pub fills : (i b : ℕ) (p : Post) (f : Filled) → IsAt t.posts i p → slice_get p.fills b ≡ Some (Some f) →
      HasEvent es f.at (λ e. e ≡ event.Fill i (suc b) f.y)
  pub closings : (n : ℕ) (x : Node) (c : Closing) → IsAt t.nodes n x → x.closing ≡ Some c →
      HasEvent es c.at (λ e. e ≡ event.Close n c.how)

abbrev pub PlacesAreRight : Type 0
PlacesAreRight =
    (d : Decomposition) (budget : ℕ) (root : Region) (es : List Entry) (t : State) → IsReplay d budget root es t →
    ArePlaces es t
