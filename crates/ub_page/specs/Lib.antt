pub mod Directory
pub mod Entries
pub mod Header
pub mod Index
pub mod Named
pub mod Slots
