pub mod Places
pub mod Triplets
pub mod PacketDumped
pub mod TextMost
pub mod Printed
