-- What the proofs of crates above use of this crate's.
pub use Rattle.ub_load.proofs.ToldFacts.{told_sure, told_tree}
