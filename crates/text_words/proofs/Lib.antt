pub mod WordsMost
