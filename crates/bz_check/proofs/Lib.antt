pub mod AllTests
pub mod AllTestsTrees
pub mod CheckDecided
pub mod Forests
pub mod Splitting
pub mod Told
pub mod Visiting
pub mod Walking
