pub mod Arrays
pub mod Calls
pub mod Feeding
pub mod Schedule
pub mod Scheduling
