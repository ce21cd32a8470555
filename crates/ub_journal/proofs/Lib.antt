pub mod Lists
pub mod Moments
pub mod Applied
mod Finishing
pub mod Way
pub mod Settling
pub mod Marking
pub mod Runs
pub mod TornFacts
