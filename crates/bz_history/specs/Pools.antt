-- The pool of every legal history.
use Rattle.std.specs.Prelude.{ℕ, ◌≡◌, ◌≤◌, List, [], ◌∷◌, length}
use Rattle.std.specs.List.{AllByRecursion, flat_map}
use Rattle.bz_model.specs.Splits.{Decomposition}
use Rattle.bz_cut.specs.declared.Cut.{Cut}
use Rattle.bz_cut.specs.declared.Mode.{Mode}
use Rattle.bz_cut.specs.Cuts.{IsValid}
use Rattle.bz_cut.specs.Fits.{FitsCut}
use Rattle.bz_std.specs.CutsOfBases.{CutOf}
use Rattle.bz_pool.specs.Pools.{AreApart}
use Rattle.bz_event.specs.declared.events.Entry.{Entry}
use Rattle.bz_event.specs.declared.events.Event.{Event}
use Rattle.bz_event.specs.declared.events.Event.TheVariants as event
use Rattle.bz_history.specs.declared.state.Region.{Region}
use Rattle.bz_history.specs.Histories.{IsReplay}
use Rattle.bz_history.specs.States.{State, mode_of}
use Rattle.bz_history.specs.Steps.{IsAt}

-- the cut that an event adds to the pool
abbrev pub cuts_of : Event → List Cut
cuts_of (event.Floor block basis cut) = cut ∷ []
cuts_of (event.Ray block direction) = []
cuts_of (event.Post node front point leaf) = []
cuts_of (event.Append post basis cut) = cut ∷ []
cuts_of (event.Again post basis place) = []
cuts_of (event.Fill post block y) = []
cuts_of (event.Incumbent post) = []
cuts_of (event.Close node h) = []
cuts_of (event.Stop reason) = []

-- the cuts of all floors and appended cuts, in their order
abbrev pub cuts_in : List Entry → List Cut
cuts_in es = flat_map (λ e. cuts_of e.event) es

-- The pool is the cuts of the history in their order; each is valid, with no sum or product wide that tells so, and no two
-- are the same.
pub record IsPoolOf (d : Decomposition) (es : List Entry) (t : State) : Type 0 where
  pub cuts_are : t.cuts ≡ cuts_in es
  pub valid : AllByRecursion (IsValid d.model d.part) t.cuts
  pub fit : AllByRecursion (FitsCut d.model d.part) t.cuts
  pub apart : AreApart t.cuts

abbrev pub PoolsAreRight : Type 0
PoolsAreRight =
    (d : Decomposition) (budget : ℕ) (root : Region) (es : List Entry) (t : State) → IsReplay d budget root es t →
    IsPoolOf d es t

-- the cut is that of a basis of its block's separation
pub record IsBasisCut (d : Decomposition) (way : Mode) (cut : Cut) : Type 0 where
  pub basis : List ℕ
  pub of_basis : CutOf d.model d.part way cut.block basis cut

-- Each cut after the floors is that of a basis, and all are of the present mode.
abbrev pub AppendedCutsAreOfBases : Type 0
AppendedCutsAreOfBases =
    (d : Decomposition) (budget : ℕ) (root : Region) (es : List Entry) (t : State) → IsReplay d budget root es t →
    (k : ℕ) (cut : Cut) → length t.floors ≤ k → IsAt t.cuts k cut → IsBasisCut d (mode_of t) cut
