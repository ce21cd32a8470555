pub mod Common
pub mod ReadFacts
pub mod WholeFacts
pub mod LeafFacts
pub mod BringFacts
pub mod TableFacts
