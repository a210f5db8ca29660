use Rattle.bz_model.specs.declared.records.Row.{Row}
use Rattle.bz_model.specs.Strict.{IsInOneBlock}
use Rattle.bz_split.specs.SplitFaults.{AreTwoBlocks}
use Rattle.bz_split.proofs.FirstItems.{first_item}
use Rattle.bz_split.proofs.TwoBlocks.{two_not_one}
use Rattle.bz_split.proofs.rows.first_joined_row.Goals as goal

pub returns-in-Some : goal.returns-in-Some
returns-in-Some c =
    let blocks : AreTwoBlocks c.args.part.now c.row-item.result.terms c.in-Some.a c.in-Some.b = c.in-Some.ensures in
    record {
      row = c.row-item.result;
      first = first_item (λ (r : Row). IsInOneBlock c.args.part.now r.terms) c.as_slice-row-items.result.now c.args.model.now.rows c.loop-i.i c.row-item.result
          c.as_slice-row-items.ensures c.row-item.is c.loop-i-test.true c.loop-i.invariant
          (two_not_one c.args.part.now c.row-item.result.terms c.in-Some.a c.in-Some.b blocks);
      blocks = blocks;
    }
