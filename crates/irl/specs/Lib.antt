pub mod Obeying
pub mod Words
