pub mod SectionEntries
pub mod SectionPlaces
