pub mod Closing
pub mod Code
