pub mod Records
pub mod Calls
pub mod Progress
pub mod Arranged
