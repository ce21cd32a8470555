pub mod HostFacts
pub mod PlaceFacts
