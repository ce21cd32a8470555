pub mod Laws
pub mod Arranging
pub mod OrderFacts
pub mod GroupFacts
pub mod LeadFacts
pub mod Examples
