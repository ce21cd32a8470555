pub mod MetFacts
pub mod LineFacts
pub mod SideFacts
pub mod Laws
