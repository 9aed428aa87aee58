pub mod Wanteds
pub mod Explained
