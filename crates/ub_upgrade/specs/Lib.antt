pub mod Chain
pub mod Reading
pub mod Effects
pub mod Building
pub mod Bringing
pub mod Table
pub mod inner
