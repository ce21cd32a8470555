pub mod Bytes
pub mod Draft
pub mod Numbers
