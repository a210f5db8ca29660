use Rattle.bz_std.proofs.LowestForms.{block_holds, low_positive, node_met, rows_hold, whole_kept}
use Rattle.bz_std.proofs.laws.lowest_forms_meet.Goals as goal

pub returns : goal.returns
returns c = record {
  den = low_positive;
  whole = whole_kept;
  of_block = λ m part point b way v den block s h l. rows_hold m part s point b v den block l way h;
  of_block_and_cost = λ m part point b v den block s h l. block_holds m part s point b v den block l h;
  of_node = λ m part box cuts way v den point s k h e l. node_met m part s box cuts k v den point e l way h;
}
