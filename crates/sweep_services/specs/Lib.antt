pub mod Good
pub mod Sweep
