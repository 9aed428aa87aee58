pub mod ServiceList
pub mod Section
pub mod SectionWriting
pub mod SectionBack
pub mod Code
