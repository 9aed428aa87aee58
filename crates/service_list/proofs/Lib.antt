pub mod SectionBack
pub mod SectionReads
pub mod SectionWrites
pub mod Writable
