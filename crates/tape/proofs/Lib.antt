pub mod WordReads
pub mod ListReads
pub mod Cases
