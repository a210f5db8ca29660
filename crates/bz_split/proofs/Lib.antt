pub mod FirstItems
pub mod RowCounts
pub mod TwoBlocks
pub mod TheFaults
pub mod ThreeColumns
