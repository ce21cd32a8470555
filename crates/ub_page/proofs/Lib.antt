pub mod DirectoryFacts
pub mod EntryFacts
pub mod HeaderFacts
pub mod IndexFacts
pub mod IndexLaws
pub mod PageLaws
