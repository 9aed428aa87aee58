pub mod Time
pub mod Code
