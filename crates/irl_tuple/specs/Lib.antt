pub mod Forms
pub mod Tuples
pub mod Verdicts
