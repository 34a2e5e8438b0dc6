pub mod Help
pub mod Options
pub mod Rows
pub mod Tables
pub mod Words
