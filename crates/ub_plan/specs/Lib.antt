pub mod Counted
pub mod Explained
pub mod Laws
pub mod inner
