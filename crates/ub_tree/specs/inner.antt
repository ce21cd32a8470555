-- What the clauses of a tree's steps say, and its public ones do not.
pub mod Change
pub mod Opening
pub mod Removing
pub mod Upgrading
