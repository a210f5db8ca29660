pub mod Fractional
pub mod LeafStops
pub mod NodePrograms
pub mod PointSteps
pub mod Worked
