pub mod Events
pub mod Lowering
pub mod NodesLeft
pub mod Sums
