pub mod LowestTerms
pub mod Pages
pub mod Reports
pub mod Values
