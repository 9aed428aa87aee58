pub mod Layout
pub mod Rate
pub mod Flags
pub mod Sequence
pub mod Checksum
pub mod Code
