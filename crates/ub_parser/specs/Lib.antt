pub mod Sense
pub mod Refusals
pub mod Spans
pub mod Firsts
pub mod Outcome
pub mod Known
