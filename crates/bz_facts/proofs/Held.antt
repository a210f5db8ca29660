-- The tables hold the facts of the lines passed.
use Rattle.std.proofs.Common.{ℕ, ◌≡◌, Bool, true, false, nat_lt, List, [], ◌∷◌, length, Option, Some, None}
use Rattle.std.specs.List.{last_or}
use Rattle.bz_facts.specs.declared.records.Heading.{Heading}
use Rattle.bz_facts.specs.declared.records.Heading.TheVariants.{ObjSense, Rows, Columns, Rhs, Ranges, Bounds}
use Rattle.bz_facts.specs.declared.tables.Begun.{Begun}
use Rattle.bz_facts.specs.declared.tables.BoundTable.{BoundTable}
use Rattle.bz_facts.specs.declared.tables.Columns.{Columns as ColumnTable}
use Rattle.bz_facts.specs.declared.tables.GivenTable.{GivenTable}
use Rattle.bz_facts.specs.declared.tables.Headers.{Headers}
use Rattle.bz_facts.specs.declared.tables.Rows.{Rows as RowTable}
use Rattle.bz_facts.specs.declared.tables.Sense.{Sense}
use Rattle.bz_facts.specs.declared.tables.Tables.{Tables}
use Rattle.bz_facts.specs.Headings.{Lines, has, headings, is_in, section}
use Rattle.bz_facts.specs.LineFacts.{bound_sets, bounds, columns, entries, given, integers, is_open, maximises, row_names, row_types, sense_words, sets}
use Rattle.bz_facts.specs.LineTests.{goes_on}
use Rattle.bz_facts.specs.TableNotes.{is_noted}

-- the flags of the sections that have begun
pub record AreBegun (hs : List Heading) (b : Begun) : Type 0 where
  pub any : b.any ≡ nat_lt 0 (length hs)
  pub sense : b.sense ≡ has ObjSense hs
  pub rows : b.rows ≡ has Rows hs
  pub columns : b.columns ≡ has Columns hs
  pub rhs : b.rhs ≡ has Rhs hs
  pub ranges : b.ranges ≡ has Ranges hs
  pub bounds : b.bounds ≡ has Bounds hs

pub record HoldsHeaders (seen : Lines) (t : Headers) : Type 0 where
  pub section : t.section ≡ section seen
  pub begun : AreBegun (headings seen) t.begun

-- whether there are any
abbrev pub has_some : {X : Type 0} → List X → Bool
has_some [] = false
has_some (x ∷ xs) = true

-- the first, if any
abbrev pub first_of : {X : Type 0} → List X → Option X
first_of [] = None
first_of (x ∷ xs) = Some x

pub record HoldsSense (seen : Lines) (t : Sense) : Type 0 where
  pub maximise : t.maximise ≡ maximises seen
  pub told : t.told ≡ has_some (sense_words seen)

pub record HoldsRows (seen : Lines) (t : RowTable) : Type 0 where
  pub names : t.names ≡ row_names seen
  pub types : t.types ≡ row_types seen

pub record HoldsColumns (seen : Lines) (t : ColumnTable) : Type 0 where
  pub names : t.names ≡ columns seen
  pub integers : t.integers.items ≡ integers seen
  pub entries : t.entries ≡ entries seen
  pub opened : t.marked ≡ is_open seen
  pub current : is_in Columns seen ≡ true → (name : List ℕ) → is_noted t.current name ≡ goes_on (last_or None seen) name

pub record HoldsGiven (h : Heading) (seen : Lines) (t : GivenTable) : Type 0 where
  pub set : t.set ≡ first_of (sets h seen)
  pub givens : t.givens ≡ given h seen

pub record HoldsBounds (seen : Lines) (t : BoundTable) : Type 0 where
  pub set : t.set ≡ first_of (bound_sets seen)
  pub lines : t.lines.items ≡ bounds seen

pub record Holds (seen : Lines) (t : Tables) : Type 0 where
  pub headers : HoldsHeaders seen t.headers
  pub sense : HoldsSense seen t.sense
  pub rows : HoldsRows seen t.rows
  pub columns : HoldsColumns seen t.columns
  pub right_sides : HoldsGiven Rhs seen t.right_sides
  pub ranges : HoldsGiven Ranges seen t.ranges
  pub bounds : HoldsBounds seen t.bounds
