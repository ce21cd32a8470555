-- What the proofs of crates above use of this crate's.
pub use Rattle.ub_lexer.proofs.Ranges.{same_statements}
pub use Rattle.ub_lexer.proofs.Unique.{same_tokens}
