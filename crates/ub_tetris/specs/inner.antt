pub mod Events
pub mod Firsts
pub mod Kept
pub mod Turns
