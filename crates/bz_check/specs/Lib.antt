pub mod CheckTests
pub mod Checking
pub mod Laws
pub mod TreeGoals
pub mod Walks
