pub mod FilesFacts
