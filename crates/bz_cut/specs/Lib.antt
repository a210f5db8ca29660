pub mod CutTests
pub mod Cuts
pub mod Fits
pub mod Laws
pub mod Points
pub mod Rows
pub mod SumTests
pub mod Worked
