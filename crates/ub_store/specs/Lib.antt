pub mod Cache
pub mod Facts
pub mod Faulty
pub mod View
pub mod Writing
