pub mod Service
pub mod Entry
pub mod EntryWriting
pub mod EntriesWriting
pub mod Code
