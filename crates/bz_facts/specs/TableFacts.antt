-- The tables and the facts, and stops.
use Rattle.std.specs.Prelude.{ℕ, ◌≡◌, false, [], None}
use Rattle.bz_facts.specs.declared.faults.MpsStop.{MpsStop}
use Rattle.bz_facts.specs.declared.faults.MpsStop.TheVariants.{Fault, OutOfMemory}
use Rattle.bz_facts.specs.declared.records.Facts.{Facts}
use Rattle.bz_facts.specs.declared.refusals.Refusal.{Refusal}
use Rattle.bz_facts.specs.declared.refusals.Refusal.TheVariants.{Fault as Refused, OutOfMemory as NoRoom}
use Rattle.bz_facts.specs.declared.tables.Tables.{Tables}

-- the tables before any line
pub record AreEmpty (t : Tables) : Type 0 where
  pub section : t.headers.section ≡ None
  pub begun : t.headers.begun ≡ record {
    any = false;
    sense = false;
    rows = false;
    columns = false;
    rhs = false;
    ranges = false;
    bounds = false;
  }
  pub maximise : t.sense.maximise ≡ false
  pub told : t.sense.told ≡ false
  pub row_names : t.rows.names ≡ []
  pub row_types : t.rows.types ≡ []
  pub columns : t.columns.names ≡ []
  pub integers : t.columns.integers.items ≡ []
  pub entries : t.columns.entries ≡ []
  pub opened : t.columns.marked ≡ false
  pub current : t.columns.current ≡ None
  pub right_set : t.right_sides.set ≡ None
  pub right_sides : t.right_sides.givens ≡ []
  pub range_set : t.ranges.set ≡ None
  pub ranges : t.ranges.givens ≡ []
  pub bound_set : t.bounds.set ≡ None
  pub bounds : t.bounds.lines.items ≡ []

-- the facts are those of the tables, with the line of ENDATA
pub record AreTableFacts (t : Tables) (end : ℕ) (f : Facts) : Type 0 where
  pub maximise : f.maximise ≡ t.sense.maximise
  pub row_names : f.row_names ≡ t.rows.names
  pub row_types : f.row_types ≡ t.rows.types
  pub columns : f.columns ≡ t.columns.names
  pub integers : f.integers ≡ t.columns.integers.items
  pub entries : f.entries ≡ t.columns.entries
  pub right_sides : f.right_sides ≡ t.right_sides.givens
  pub ranges : f.ranges ≡ t.ranges.givens
  pub bounds : f.bounds ≡ t.bounds.lines.items
  pub last : f.end ≡ end

-- the stop at a line that is refused
abbrev pub stop_at : ℕ → Refusal → MpsStop
stop_at line (Refused kind) = Fault (record { line = line; kind = kind })
stop_at line NoRoom = OutOfMemory
