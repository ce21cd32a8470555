pub mod Way
pub mod TornClock
pub mod TornBeside
