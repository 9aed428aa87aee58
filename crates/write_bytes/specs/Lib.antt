pub mod Code
pub mod PacketWriting
