pub mod Key
pub mod Links
pub mod Web
