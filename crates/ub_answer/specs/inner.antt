pub mod Compare
pub mod Cut
pub mod Groups
pub mod Kept
pub mod Results
pub mod Tally
