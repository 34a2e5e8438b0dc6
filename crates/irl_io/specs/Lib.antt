pub mod Adapter
pub mod Buffer
pub mod Lines
pub mod Lookahead
pub mod Memory
pub mod Steps
pub mod Written
