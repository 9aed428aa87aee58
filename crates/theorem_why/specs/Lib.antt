pub mod Rules
pub mod AsTable
pub mod Reasons
