pub mod Layouts
pub mod ClosingFound
pub mod SizesFound
pub mod Leaves
pub mod EntriesFound
pub mod TestsFound
