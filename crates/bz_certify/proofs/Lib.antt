pub mod Certified
pub mod Walking
pub mod WorkedNodes
