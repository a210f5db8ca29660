pub mod CutDecided
pub mod CutTold
pub mod CuttingSums
pub mod Steps
pub mod SumTests
pub mod WorkedSplits
