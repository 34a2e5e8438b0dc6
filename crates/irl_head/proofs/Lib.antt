pub mod Asking
pub mod Beginning
pub mod Finding
pub mod Grounds
pub mod HeadBytes
pub mod NumberBytes
pub mod SettingNumbers
pub mod Writing
