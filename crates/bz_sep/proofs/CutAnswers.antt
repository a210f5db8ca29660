-- What the basis's multipliers make of a separation without a completion.
use Rattle.std.specs.Prelude.{ℕ, ◌+◌, ◌*◌, ◌≤◌, ◌≡◌, ℤ, pos, ◌<ℤ◌, List, length, map, Result, Ok, Err, IfOk, IfErr, true}
use Rattle.std.proofs.Common.{refl, arith, inl}
use Rattle.std.proofs.lemmas.List.{length-append, length-map}
use Rattle.bz_num.specs.Dense.{entry}
use Rattle.bz_model.specs.declared.Master.{Master}
use Rattle.bz_model.specs.declared.Model.{Model}
use Rattle.bz_model.specs.Decomposed.{IsDecomposed}
use Rattle.bz_model.specs.Parting.{inequalities_of, width_of}
use Rattle.bz_cut.specs.declared.Cut.{Cut}
use Rattle.bz_cut.specs.declared.Mode.{Mode}
use Rattle.bz_cut.specs.declared.Mode.TheVariants as mode
use Rattle.bz_tableau.specs.Answers.{IsLeast}
use Rattle.bz_tableau.specs.Programs.{program_of}
use Rattle.bz_tableau.specs.declared.answers.Vals.{Vals}
use Rattle.bz_tableau.specs.declared.programs.Lp.{Lp}
use Rattle.bz_std.specs.declared.making.MakeStop.{MakeStop}
use Rattle.bz_std.specs.declared.making.MakeStop.TheVariants as make
use Rattle.bz_std.specs.CutsFrom.{BalancesCost, IsNoCut, cost_multiplier}
use Rattle.bz_std.specs.Fitting.{IsFittingCut, StopsFitting}
use Rattle.bz_std.specs.Meanings.{IsLeastRise, differences}
use Rattle.bz_std.specs.Posed.{IsPosed, Posed}
use Rattle.bz_std.specs.Tasks.{IsSeparationLp, cost_lines, own_line, separation}
use Rattle.bz_std.proofs.Combined.{rise_excludes}
use Rattle.bz_std.proofs.Crossing.{rise_crosses}
use Rattle.bz_std.proofs.CutsMade.{cuts_off_point, makes_cut, separation_balances}
use Rattle.bz_std.proofs.CutsOfBases.{cut_of_answer}
use Rattle.bz_std.proofs.Lines.{has_lines}
use Rattle.bz_std.proofs.PosedTasks.{separation_posed}
use Rattle.bz_event.specs.Separations.{IsCutAnswer}
use Rattle.bz_sep.specs.Outcomes.{Answers, cost_rows, cut_answered}

module _ (m : Model) (part : List ℕ) (d : IsDecomposed m part) (b : ℕ) (point : Master) (way : Mode) (lp : Lp) (s : IsSeparationLp m part point b way lp)
    (basis : List ℕ) (z y : Vals) (l : IsLeast true (program_of lp) basis z y) where
  abbrev q : Posed
  q = separation m part point b way

  -- what the multipliers give the block's eta
  abbrev pub raw : ℤ
  raw = cost_multiplier way (length (inequalities_of m part b)) (entry y.num)

  posed : IsPosed q
  posed = separation_posed m part d b point way

  -- the least rise
  pub rise : IsLeastRise q (differences (entry z.num)) (entry z.num (2 * width_of part b)) z.den (entry y.num) y.den
  rise = rise_crosses q lp s.program posed basis z y l

  pub balances : BalancesCost m part b (entry y.num) raw
  balances = separation_balances m part point b way _ _ _ _ _ rise

  count_of : (kind : Mode) → length (cost_lines m part point b kind) ≡ cost_rows kind
  count_of mode.Cost = refl
  count_of mode.Point = refl

  -- a multiplier for each inequality, and in mode Cost one for the cost
  pub multipliers_count : length (inequalities_of m part b) + cost_rows way ≤ length y.num
  multipliers_count = omega (
    arith,
    l.multipliers,
    (has_lines q lp s.program).count,
    length-append (map (own_line point) (inequalities_of m part b)) (cost_lines m part point b way),
    length-map (inequalities_of m part b) (own_line point),
    count_of way,
  )

  module _ (r : (pos 0) <ℤ (entry z.num (2 * width_of part b))) where
    pub makes_some : IsNoCut m part b (entry y.num) raw → ⊥
    makes_some = makes_cut m part d point b (entry y.num) way _ _ _ _ rise r

    pub is_cut_answer : (cut : Cut) → IsFittingCut m part b (entry y.num) raw cut → IsCutAnswer m part b point way lp basis cut
    is_cut_answer cut c = record {
      z = z;
      y = y;
      least = l;
      made = c.made;
      of_basis = cut_of_answer point m part b way lp basis z y cut s l c.made;
      valid = c.valid;
      fits = c.fits;
      cuts_off = cuts_off_point m part d point b (entry y.num) way _ _ _ _ cut rise r c.made;
      impossible = rise_excludes q _ _ _ _ _ posed rise r;
    }

    pub cut_answers : (made : Result Cut MakeStop) → IfOk made (IsFittingCut m part b (entry y.num) raw) → IfErr made (StopsFitting m part b (entry y.num) raw) → Answers m part b point way lp (cut_answered basis made)
    cut_answers (Ok cut) h k = (s, is_cut_answer cut h)
    cut_answers (Err make.Wide) h k = (
      (
        s,
        refl,
        refl,
        record {
          z = z;
          y = y;
          least = l;
          sum = inl (record { rises = r; list_is = refl; at_is = refl; wide = k });
        },
      ),
      tt,
    )
    cut_answers (Err make.OutOfMemory) h k = tt
