pub mod Placed
pub mod Standing
pub mod Numbers
pub mod Checking
pub mod Calls
pub mod inner
