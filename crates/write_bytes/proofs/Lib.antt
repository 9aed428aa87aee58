pub mod Parts
pub mod ServicesWrites
pub mod PacketWrites
