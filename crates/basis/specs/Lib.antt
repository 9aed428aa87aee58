pub mod Answer
pub mod Bytes
pub mod Made
pub mod Check
pub mod Writing
pub mod Mask
pub mod Code
