pub mod EntryBack
pub mod EntryReads
pub mod EntryWrites
pub mod EntriesWrites
