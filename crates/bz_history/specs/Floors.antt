-- The floors of every legal history.
use Rattle.std.specs.Prelude.{ℕ, suc, ◌≡◌, ◌<◌, pos, ◌<ℤ◌, List, length, None}
use Rattle.bz_model.specs.Parting.{blocks_of}
use Rattle.bz_model.specs.Splits.{Decomposition}
use Rattle.bz_cut.specs.declared.Cut.{Cut}
use Rattle.bz_event.specs.declared.events.Entry.{Entry}
use Rattle.bz_history.specs.declared.state.Region.{Region}
use Rattle.bz_history.specs.Histories.{IsReplay}
use Rattle.bz_history.specs.States.{State}
use Rattle.bz_history.specs.Steps.{IsAt}

-- cut number k is one of block k + 1, with a number above 0 at its eta
pub record IsFloorAt (cuts : List Cut) (k : ℕ) : Type 0 where
  pub cut : Cut
  pub is_cut : IsAt cuts k cut
  pub block : cut.block ≡ suc k
  pub eta : (pos 0) <ℤ cut.p0

-- nothing but floors is there
pub record AreAlone (t : State) : Type 0 where
  pub cuts : length t.cuts ≡ length t.floors
  pub posts : length t.posts ≡ 0

-- The floors are the first cuts, in the order of their blocks. While floors are made there are no other cuts, and no posts.
pub record AreFloorsFirst (d : Decomposition) (t : State) : Type 0 where
  pub floors : (k : ℕ) → k < length t.floors → IsFloorAt t.cuts k
  pub alone : t.ray ≡ None → length t.floors < blocks_of d.part → AreAlone t

abbrev pub FloorsComeFirst : Type 0
FloorsComeFirst =
    (d : Decomposition) (budget : ℕ) (root : Region) (es : List Entry) (t : State) → IsReplay d budget root es t →
    AreFloorsFirst d t
