pub mod Address
pub mod Higher
pub mod Moved
pub mod Padded
pub mod Places
pub mod Steps
