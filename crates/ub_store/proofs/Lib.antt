pub mod Extended
pub mod Lookups
