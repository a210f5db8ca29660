pub mod Fractions
pub mod Numbers
pub mod Sums
pub mod Systems
pub mod Tableaus
