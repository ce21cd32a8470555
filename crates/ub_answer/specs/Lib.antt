pub mod inner
pub mod Gathered
pub mod Held
pub mod Shaped
pub mod Sink
