pub mod Effects
pub mod Levels
pub mod Laying
pub mod Begun
pub mod Spelled
