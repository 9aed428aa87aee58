pub mod Header
pub mod Code
