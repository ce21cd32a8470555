pub mod Common
pub mod Machine
pub mod Held
pub mod Sweep
pub mod Awaited
pub mod Effects
pub mod Calls
pub mod inner
