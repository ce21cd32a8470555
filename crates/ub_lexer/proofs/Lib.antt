pub mod Pieces
pub mod Rows
pub mod Spans
pub mod Unique
pub mod Ranges
pub mod Laws
