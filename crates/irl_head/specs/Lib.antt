pub mod Asking
pub mod Finding
pub mod Head
pub mod Numbers
pub mod Opening
pub mod StoreFiles
pub mod Writing
