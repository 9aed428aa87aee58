pub mod Rooms
pub mod Decimals
pub mod LinesPut
pub mod Sizes
pub mod Wholes
