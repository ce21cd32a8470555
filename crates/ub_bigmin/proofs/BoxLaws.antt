-- What the proofs of crates above use of this crate's.
pub use Rattle.ub_bigmin.proofs.EventFacts.{contains_one, one_contains}
