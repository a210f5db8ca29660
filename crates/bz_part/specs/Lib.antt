pub mod PartKinds
pub mod PartStops
pub mod Partition
pub mod PartitionLines
pub mod PartitionSteps
