pub mod Tests
pub mod Code
