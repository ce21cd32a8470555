pub mod Changes
pub mod Journal
pub mod Overlay
pub mod inner
