pub mod CallFacts
pub mod ClockFacts
pub mod EntryFacts
pub mod TableFacts
