pub mod Crash
pub mod Image
pub mod Place
pub mod Torn
pub mod inner
