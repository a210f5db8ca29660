-- Worked texts and what they are, by computation.
use Rattle.std.proofs.Common.{ℕ, ◌≡◌, inl, inr, refl, true, false, List, [], ◌∷◌, ◌++◌, Some, codes, pos, negsuc}
use Rattle.bz_lines.specs.NumberedLines.{numbered_after}
use Rattle.bz_lines.proofs.FirstFaults.{no_line_fails}
use Rattle.bz_num.specs.declared.decimal.Dec.{Dec}
use Rattle.bz_facts.specs.declared.faults.MpsKind.TheVariants.{MarkerOpen, NoEnd, SectionOut, UnknownRow}
use Rattle.bz_facts.specs.declared.records.BoundType.TheVariants.{Up}
use Rattle.bz_facts.specs.declared.records.Facts.{Facts}
use Rattle.bz_facts.specs.declared.records.RowType.TheVariants.{Free, AtLeast}
use Rattle.bz_facts.specs.FactTexts.{IsFactsOf, IsLineFault, lines_read}
use Rattle.bz_facts.specs.LineTests.{line_tests}
use Rattle.bz_facts.specs.Spellings.{no_number, number, spelled, too_wide}
use Rattle.bz_facts.proofs.FactLaws.{found_fails}

-- Fields as numbers.

spelled_negative : spelled (codes "-12.50e1") ≡ number (record { mant = negsuc 124; exp = pos 0 })
unfolding spelled
spelled_negative = refl

spelled_point : spelled (codes ".5") ≡ number (record { mant = pos 5; exp = negsuc 0 })
unfolding spelled
spelled_point = refl

spelled_wide : spelled (codes "1e31") ≡ too_wide
unfolding spelled
spelled_wide = refl

spelled_none : spelled (codes "1e") ≡ no_number
unfolding spelled
spelled_none = refl

-- ONE, whole and with one change each.

-- the text of ONE in four pieces
abbrev rows_of_one : List ℕ
rows_of_one = codes "NAME ONE\nROWS\n N COST\n G LINK\nCOLUMNS\n M1 'MARKER' 'INTORG'\n"

abbrev x_of_one : List ℕ
x_of_one = codes " x COST 2 LINK 2\n"

abbrev closing_of_one : List ℕ
closing_of_one = codes " M2 'MARKER' 'INTEND'\n"

abbrev rest_of_one : List ℕ
rest_of_one = codes " y COST 3 LINK 1\nRHS\n RHS LINK 1\nBOUNDS\n UP BND x 1\n"

abbrev end_of_one : List ℕ
end_of_one = codes "ENDATA\n"

-- LINKX in place of LINK
unknown_row : IsLineFault (rows_of_one ++ codes " x COST 2 LINKX 2\n" ++ closing_of_one ++ rest_of_one ++ end_of_one) 7 UnknownRow
unfolding spelled line_tests numbered_after
unknown_row = inl (found_fails _ (record { number = 7; text = true; header = false; fields = codes "x" ∷ codes "COST" ∷ codes "2" ∷ codes "LINKX" ∷ codes "2" ∷ [] }) UnknownRow refl)

-- without the line that closes the marker
marker_open : IsLineFault (rows_of_one ++ x_of_one ++ rest_of_one ++ end_of_one) 9 MarkerOpen
unfolding spelled line_tests numbered_after
marker_open = inl (found_fails _ (record { number = 9; text = true; header = true; fields = codes "RHS" ∷ [] }) MarkerOpen refl)

-- with a section that is left out
left_out : IsLineFault (codes "NAME ONE\nSOS1\n N COST\n G LINK\n") 2 SectionOut
unfolding spelled line_tests numbered_after
left_out = inl (found_fails _ (record { number = 2; text = true; header = true; fields = codes "SOS1" ∷ [] }) SectionOut refl)

-- without ENDATA
no_end : IsLineFault (rows_of_one ++ x_of_one ++ closing_of_one ++ rest_of_one) 13 NoEnd
unfolding spelled line_tests numbered_after
no_end = inr (record {
  lines = no_line_fails line_tests [] (lines_read (rows_of_one ++ x_of_one ++ closing_of_one ++ rest_of_one)) refl;
  missing = refl;
  number = refl;
  is = refl;
})

abbrev whole : ℕ → Dec
whole n = record { mant = pos n; exp = pos 0 }

-- the facts of ONE
facts_of_one : Facts
facts_of_one = record {
  maximise = false;
  row_names = codes "COST" ∷ codes "LINK" ∷ [];
  row_types = Free ∷ AtLeast ∷ [];
  columns = codes "x" ∷ codes "y" ∷ [];
  integers = true ∷ false ∷ [];
  entries = record { column = 0; row = 0; number = whole 2 }
      ∷ record { column = 0; row = 1; number = whole 2 }
      ∷ record { column = 1; row = 0; number = whole 3 }
      ∷ record { column = 1; row = 1; number = whole 1 }
      ∷ [];
  right_sides = record { row = 1; number = whole 1 } ∷ [];
  ranges = [];
  bounds = record { line = 13; kind = Up; column = 0; number = Some (whole 1) } ∷ [];
  end = 14;
}

facts_are : IsFactsOf (rows_of_one ++ x_of_one ++ closing_of_one ++ rest_of_one ++ end_of_one) facts_of_one
unfolding spelled line_tests numbered_after facts_of_one
facts_are = record {
  lines = no_line_fails line_tests [] (lines_read (rows_of_one ++ x_of_one ++ closing_of_one ++ rest_of_one ++ end_of_one)) refl;
  ended = refl;
  facts = record {
    maximise = refl;
    row_names = refl;
    row_types = refl;
    columns = refl;
    integers = refl;
    entries = refl;
    right_sides = refl;
    ranges = refl;
    bounds = refl;
  };
  end = refl;
}
