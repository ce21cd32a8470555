-- What the clauses of a check's steps say, and its public ones do not.
pub mod Checking
pub mod Taking
