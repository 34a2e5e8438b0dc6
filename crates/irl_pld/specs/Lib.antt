pub mod Cut
pub mod Names
pub mod Domains
pub mod Longest
pub mod Sets
pub mod Faults
