pub mod Memory
pub mod Tables
