pub mod Carried
pub mod Failing
pub mod Floors
pub mod Laws
pub mod Nodes
pub mod Separations
pub mod Stops
