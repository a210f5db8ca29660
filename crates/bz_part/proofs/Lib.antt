pub mod PartLemmas
pub mod PartitionLaw
pub mod PartitionLemmas
pub mod PartitionTheorem
