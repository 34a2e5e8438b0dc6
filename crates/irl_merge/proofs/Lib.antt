pub mod Asking
pub mod Ending
pub mod Extending
pub mod Given
pub mod Keys
pub mod Numbering
pub mod OneKey
pub mod Unsorting
