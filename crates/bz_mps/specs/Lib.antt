pub mod ByPlace
pub mod ColumnEnds
pub mod FactModel
pub mod LeastScale
pub mod NumbersMade
pub mod RowsMade
pub mod ScaledRows
pub mod TestAnswers
