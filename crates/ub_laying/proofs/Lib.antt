pub mod AddFacts
pub mod LevelFacts
pub mod SizeFacts
pub mod LayFacts
pub mod BegunFacts
pub mod SpelledFacts
