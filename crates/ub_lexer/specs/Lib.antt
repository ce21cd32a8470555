pub mod Text
pub mod Tokens
pub mod Pieces
pub mod Ranges
pub mod Statements
