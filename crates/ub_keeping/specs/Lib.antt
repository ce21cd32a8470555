pub mod Calm
pub mod Found
pub mod Kept
pub mod Store
pub mod inner
