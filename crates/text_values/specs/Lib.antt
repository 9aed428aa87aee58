pub mod Runs
pub mod Values
pub mod Code
