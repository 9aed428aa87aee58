pub mod Answers
pub mod PacketReads
