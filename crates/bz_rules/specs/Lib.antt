pub mod Entries
pub mod Following
pub mod Laws
pub mod Rules
pub mod Shapes
