pub mod Packet
pub mod Code
