pub mod Digest
pub mod Recipe
