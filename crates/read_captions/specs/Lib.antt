pub mod Captions
pub mod Code
