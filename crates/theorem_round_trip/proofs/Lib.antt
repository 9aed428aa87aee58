pub mod Languages
pub mod Backs
