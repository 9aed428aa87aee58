pub mod Digits
pub mod TimeReads
pub mod TimeWrites
