-- What the proofs of this crate say of its steps, and its public clauses do not.
pub mod Counting
