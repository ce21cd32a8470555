pub mod AddressFacts
mod BelowFacts
pub mod BitFacts
mod Linear
mod MovedFacts
mod SpreadFacts
mod TurnFacts
pub mod Laws
