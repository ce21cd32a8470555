pub mod Growing
pub mod Laws
pub mod Parts
