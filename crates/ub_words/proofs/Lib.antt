pub mod AddFacts
pub mod AskFacts
pub mod GivenFacts
pub mod Laws
