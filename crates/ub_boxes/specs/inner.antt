pub mod Sides
pub mod Fronts
pub mod Runs
pub mod Counts
