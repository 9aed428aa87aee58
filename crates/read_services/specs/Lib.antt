pub mod Services
pub mod Code
