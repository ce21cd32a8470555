pub mod DistinctFacts
pub mod KeyFacts
pub mod MaskFacts
pub mod NameFacts
pub mod SchemaFacts
pub mod ValueFacts
pub mod Laws
pub mod FillingFacts
