use Rattle.bz_model.specs.Entries.{AreEntryLists}
use Rattle.bz_model.proofs.KeptEntries.{entries_kept, parts_fit}
use Rattle.bz_model.proofs.kept.keep.Goals as goal

pub entry_lists-requires-clause-fit : goal.entry_lists-requires-clause-fit
entry_lists-requires-clause-fit c =
    rw (c.as_slice-4.ensures.value, c.as_slice-5.ensures.value)
    (parts_fit c.args.model.now c.args.part.now c.in_ok-places.places.columns.items c.in_ok-inequalities.inequalities.items c.requires.indexes c.requires.partition.numbers c.in_ok-places.ensures.columns c.in_ok-inequalities.ensures)

pub returns : goal.returns
returns c =
    let lists : AreEntryLists c.in_ok-places.places.columns.items c.in_ok-inequalities.inequalities.items c.in_ok-entries.entries = rw (c.as_slice-4.ensures.value, c.as_slice-5.ensures.value) at c.in_ok-entries.ensures in
    record {
      blocks_are = c.greatest-blocks.ensures;
      homes_are = rw c.as_slice.ensures at c.in_ok-homes.ensures;
      columns_are = c.in_ok-places.ensures.columns;
      inequalities_are = c.in_ok-inequalities.ensures;
      entries_are = entries_kept c.args.model.now c.args.part.now c.in_ok-places.places.columns.items c.in_ok-inequalities.inequalities.items c.in_ok-entries.entries c.in_ok-places.ensures.columns c.in_ok-inequalities.ensures lists;
    }
