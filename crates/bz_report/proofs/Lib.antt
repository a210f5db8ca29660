pub mod BestValues
pub mod Bests
pub mod ColumnPlaces
pub mod Coordinates
pub mod Lowest
pub mod PartValues
pub mod ReportTexts
