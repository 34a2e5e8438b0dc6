pub mod Counting
pub mod Fates
pub mod Fronts
pub mod Kept
pub mod Passing
pub mod Plans
pub mod Reads
pub mod Standing
