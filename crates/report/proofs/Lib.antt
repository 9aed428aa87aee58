pub mod Folds
pub mod Swept
