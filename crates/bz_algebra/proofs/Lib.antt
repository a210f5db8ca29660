pub mod Agreement
pub mod Bounded
pub mod Combinations
pub mod Counting
pub mod Dependence
pub mod Divisors
pub mod Duality
mod Examples
pub mod Exchange
pub mod NothingElse
pub mod Objectives
pub mod Pivoting
pub mod Programs
pub mod RightSides
pub mod Ring
pub mod SumLemmas
pub mod Uniqueness
