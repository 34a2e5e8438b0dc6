pub mod Blocks
pub mod Frames
pub mod Growing
pub mod Rising
pub mod RunBytes
