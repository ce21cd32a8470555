pub mod Laws
pub mod Pages
pub mod Reading
pub mod Whole
pub mod inner
