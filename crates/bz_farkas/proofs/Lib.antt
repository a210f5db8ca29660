pub mod Farkas
pub mod PrimitiveFalls
pub mod SparseFarkas
mod Worked
