pub mod Shown
pub mod Reader
pub mod Code
