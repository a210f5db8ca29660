pub mod DirectionTests
pub mod FloorAnswers
pub mod PlacedNumbers
pub mod Primitives
