pub mod Finished
pub mod Walks
pub mod Worked
