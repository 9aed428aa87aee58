pub mod Changes
pub mod Mends
pub mod Parts
pub mod Rows
