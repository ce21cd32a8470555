pub mod BytesFacts
pub mod DraftFacts
pub mod WriteFacts
pub mod ZeroFacts
