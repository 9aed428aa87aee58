pub mod HeaderReads
