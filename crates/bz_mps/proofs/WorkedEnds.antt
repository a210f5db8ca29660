-- Worked facts, and the end tests and rows that they have, by computation.
use Rattle.std.proofs.Common.{ℕ, ℤ, ◌≡◌, inr, refl, List, [], ◌∷◌, Some, codes, pos, negsuc}
use Rattle.bz_lines.specs.NumberedLines.{numbered_after}
use Rattle.bz_lines.proofs.FirstFaults.{no_line_fails, some_fails}
use Rattle.bz_num.specs.declared.Dec.{Dec}
use Rattle.bz_facts.specs.declared.MpsKind.TheVariants.{NegativeUpper}
use Rattle.bz_facts.specs.declared.RowType.TheVariants.{AtLeast, Equal}
use Rattle.bz_facts.specs.FactTexts.{lines_read}
use Rattle.bz_facts.specs.LineTests.{line_tests}
use Rattle.bz_facts.specs.Spellings.{spelled}
use Rattle.bz_facts.proofs.FactLaws.{are_facts, facts_of}
use Rattle.bz_mps.specs.FactModel.{MpsFaultOf, end_tests, fault}
use Rattle.bz_mps.specs.ScaledRows.{Scaled, scaled_row}

abbrev whole : ℕ → Dec
whole n = record { mant = pos n; exp = pos 0 }

-- An E row with the right side 4 and one term, and a range.

abbrev sides : ℤ → ℤ → Scaled
sides lower upper = record { terms = (0, pos 1) ∷ []; lower = Some lower; upper = Some upper }

range_below : scaled_row Equal (record { column = 0; row = 1; number = whole 1 } ∷ []) (whole 4) (Some (record { mant = negsuc 2; exp = pos 0 })) ≡ sides (pos 1) (pos 4)
range_below = refl

range_none : scaled_row Equal (record { column = 0; row = 1; number = whole 1 } ∷ []) (whole 4) (Some (whole 0)) ≡ sides (pos 4) (pos 4)
range_none = refl

range_above : scaled_row Equal (record { column = 0; row = 1; number = whole 1 } ∷ []) (whole 4) (Some (whole 3)) ≡ sides (pos 4) (pos 7)
range_above = refl

-- A range that is wide by itself, with sides that are not: from -100000001e30 to 100000002e30.
range_wide : scaled_row AtLeast [] (record { mant = negsuc 100000000; exp = pos 30 }) (Some (record { mant = pos 200000003; exp = pos 30 }))
    ≡ record { terms = []; lower = Some (negsuc 100000000999999999999999999999999999999); upper = Some (pos 100000002000000000000000000000000000000) }
range_wide = refl

-- ONE with the line ` UP BND y -1` after line 13.
abbrev negative_text : List ℕ
negative_text =
    codes "NAME ONE\nROWS\n N COST\n G LINK\nCOLUMNS\n M1 'MARKER' 'INTORG'\n x COST 2 LINK 2\n M2 'MARKER' 'INTEND'\n y COST 3 LINK 1\nRHS\n RHS LINK 1\nBOUNDS\n UP BND x 1\n UP BND y -1\nENDATA\n"

negative_upper : MpsFaultOf negative_text 14 NegativeUpper
unfolding spelled line_tests numbered_after end_tests
negative_upper = inr (record {
  facts = facts_of (lines_read negative_text);
  are = record { lines = no_line_fails line_tests [] (lines_read negative_text) refl; ended = refl; facts = are_facts (lines_read negative_text); end = refl };
  first = some_fails (end_tests (facts_of (lines_read negative_text))) (fault 14 NegativeUpper) refl;
})
