pub mod BeforeLemmas
pub mod FirstFaults
pub mod LineLemmas
pub mod NameLemmas
pub mod PlaceLemmas
