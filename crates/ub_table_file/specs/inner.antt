pub mod Appending
pub mod Checking
pub mod Running
