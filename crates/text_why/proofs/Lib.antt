pub mod Explains
pub mod WhyMost
pub mod WhyPrinted
