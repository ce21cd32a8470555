pub mod BytesFacts
pub mod HostFacts
pub mod MemoryFacts
