pub mod CommitBytes
pub mod EntryBytes
pub mod JudgedBytes
pub mod Numbers
pub mod Runs
pub mod Spellings
pub mod WordBytes
