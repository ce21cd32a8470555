pub mod Batch
pub mod Choice
pub mod Laws
