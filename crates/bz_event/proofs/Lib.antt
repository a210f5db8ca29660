pub mod OnlyWide
pub mod PlacedRays
