pub mod Handling
pub mod Pages
pub mod Robots
pub mod Telling
pub mod Working
