-- What the clauses of steps of the code say, and no public one does.
pub mod Appending
pub mod Calls
