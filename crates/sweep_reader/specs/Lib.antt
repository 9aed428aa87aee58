pub mod Recipes
pub mod Mend
pub mod Make
pub mod Shown
pub mod Read
pub mod Change
