pub mod BayFiles
pub mod Commits
pub mod EntryRuns
pub mod JudgedEntries
pub mod Runs
