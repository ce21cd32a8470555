pub mod Host
pub mod Medium
pub mod Memory
pub mod Raw
