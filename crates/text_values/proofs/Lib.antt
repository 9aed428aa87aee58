pub mod Scans
pub mod RunsTaken
