pub mod BatchFacts
pub mod ChoiceFacts
pub mod Laws
