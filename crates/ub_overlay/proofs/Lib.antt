pub mod ChangeFacts
pub mod SlotFacts
pub mod OverlayFacts
pub mod JournalFacts
pub mod ThroughFacts
