pub mod Closing
pub mod Serving
pub mod ServingLaws
pub mod Sound
pub mod Stepping
