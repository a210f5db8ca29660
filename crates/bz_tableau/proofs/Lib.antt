pub mod Basics
pub mod Clearing
pub mod FirstRows
pub mod GivenAnswers
pub mod OneObjective
pub mod Reductions
pub mod RowsOfBasis
pub mod SparseRows
pub mod TrueAnswers
pub mod Turned
pub mod Turns
mod Worked
mod WorkedWide
