pub mod inner
pub mod Plan
pub mod Examples
pub mod Visits
pub mod Meaning
pub mod Laws
