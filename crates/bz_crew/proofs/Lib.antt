pub mod FloorFits
pub mod HandedTasks
pub mod Leading
pub mod MarksOff
pub mod NodeFits
pub mod SeparationFits
pub mod SeparationsSolved
