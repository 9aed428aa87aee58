pub mod ClosingReads
pub mod FooterFound
pub mod Checksums
pub mod ClosingPlaces
