pub mod Claims
pub mod Ends
pub mod Jobs
pub mod Loads
pub mod Putting
pub mod Refusing
pub mod Texts
pub mod Words
