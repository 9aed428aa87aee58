pub mod TimeCode
pub mod Code
