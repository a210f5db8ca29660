pub mod Falls
pub mod Laws
pub mod SparseFalls
