pub mod Words
pub mod Lists
pub mod Held
pub mod Lent
pub mod State
pub mod Outcome
