pub mod Lexicographic
pub mod Phases
pub mod Refusals
pub mod Renumbering
pub mod Shown
pub mod TableStages
pub mod Ways
