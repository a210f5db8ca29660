use Rattle.bz_split.specs.SplitFaults.{IsSplitFault}
use Rattle.bz_split.proofs.TheFaults.{fault_column, fault_row}
use Rattle.bz_split.proofs.splitting.split.Goals as goal

pub invariant_of-result : goal.invariant_of-result
invariant_of-result c =
    let fault : IsSplitFault c.args.model c.args.part c.in-Some.fault = rw c.as_slice.ensures at c.in-Some.ensures in
    record {
      numbers = c.requires.partition.numbers;
      row = fault_row c.args.model c.args.part c.in-Some.fault fault;
      column = fault_column c.args.model c.args.part c.in-Some.fault fault;
    }
