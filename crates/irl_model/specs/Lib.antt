pub mod Book
pub mod Judging
pub mod Pairs
pub mod Plain
