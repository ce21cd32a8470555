-- What the clauses of the steps say, and the public ones do not.
pub mod Table
