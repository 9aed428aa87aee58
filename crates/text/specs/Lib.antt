pub mod Room
pub mod Ascii
pub mod Digits
pub mod Lines
pub mod Answers
pub mod Whole
