pub mod TimeCodeReads
