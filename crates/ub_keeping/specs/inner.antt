pub mod Ahead
pub mod Fitting
pub mod Made
