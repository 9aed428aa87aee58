pub mod Rates
pub mod Sums
