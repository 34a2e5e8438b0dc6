pub mod Deciding
pub mod Numbers
pub mod Ranges
pub mod Tables
pub mod Taking
