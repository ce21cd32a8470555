pub mod Marks
pub mod Puts
pub mod Creation
pub mod Closing
