pub mod Calls
pub mod Alteration
pub mod Mending
pub mod Twins
pub mod Examples
