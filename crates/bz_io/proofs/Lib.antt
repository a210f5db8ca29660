pub mod CallNumbers
pub mod Readings
pub mod Takings
pub mod Tellings
pub mod Texts
pub mod Tries
