pub mod Handing
pub mod ListMade
pub mod PacketShown
pub mod ReaderReads
pub mod Refusals
