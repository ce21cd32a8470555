pub mod Clock
pub mod Files
