-- What the proofs of crates above use of this crate's.
pub use Rattle.ub_syntax.proofs.OneVerdict.{deep_alone, deep_no_statement, one_depth, one_refusal}
